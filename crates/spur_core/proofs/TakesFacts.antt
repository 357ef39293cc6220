-- What an access of a board comes to.
use Rattle.std.proofs.Common.{◌≡◌, ◌≢◌, ◌∙◌, ℕ, zero, suc, ◌+◌, ◌<◌, ◌≤◌, ◌==◌, Bool, true, false, if◌then◌else◌, ap, sym, refl, subst, List, [], ◌∷◌, get_or, length, Option, Some, None, arith, ◌⊎◌, inl, inr, ⊎_elim}
use Rattle.std.specs.Prelude.{slice_get, filter}
use Rattle.std.proofs.Math.ListN.{set}
use Rattle.spur_cache.specs.declared.line.Line.{Line}
use Rattle.spur_cache.specs.Lens.{caches, with_caches}
use Rattle.spur_flat.specs.declared.access.AccessKind.{AccessKind}
use Rattle.spur_flat.specs.declared.access.AccessKind.TheVariants as access
use Rattle.spur_flat.specs.declared.access.FaultKind.{FaultKind}
use Rattle.spur_flat.specs.declared.access.FaultKind.TheVariants as fault
use Rattle.spur_flat.specs.declared.entry.Entry.{Entry}
use Rattle.spur_flat.specs.declared.entry.Entry.TheVariants as entry
use Rattle.spur_cpu.specs.declared.cpu.Want.{Want}
use Rattle.spur_cpu.specs.declared.cpu.Want.TheVariants.{Access, Ended, Local}
use Rattle.spur_cpu.specs.Meaning.{WantsAccess, Meaning, is_ending}
use Rattle.spur_cpu.specs.After.{carry_entry}
use Rattle.spur_walk.specs.Laws.{done_entry}
use Rattle.spur_pager.specs.View.{View}
use Rattle.spur_board.specs.declared.board.Board.{Board}
use Rattle.spur_board.specs.declared.ending.Ending.{Ending}
use Rattle.spur_board.specs.declared.ending.Ending.TheVariants as ending
use Rattle.spur_board.specs.Boards.{Asks, HasDone, HasFaulted, course_now, done_lines, done_value, ended_at}
use Rattle.spur_core.specs.Boards.{board_lens, is_swapped, swap_count}
use Rattle.spur_core.specs.Comes.{Comes}
use Rattle.spur_core.specs.Programs.{EndsInSwap}
use Rattle.spur_core.specs.Step.{EndsWithAnswer}
use Rattle.spur_core.specs.Takes.{Acts, HasTaken, IsAsking, OnlyItsLines, TakesAccess, done_caches}
use Rattle.spur_core.specs.Tally.{IsFrugal}
use Rattle.spur_board.proofs.CarryFacts.{done_carried, ended_carried}
use Rattle.spur_core.proofs.CourseFacts.{lens_get, swap_carried}

pub one_at : {A : Type 0} (xs : List A) (i : ℕ) (p q : A) → slice_get xs i ≡ Some p → slice_get xs i ≡ Some q → p ≡ q
one_at xs i p q h k = cc

pub got_set : {A : Type 0} (xs : List A) (i j : ℕ) (a b : A) → slice_get (set xs i a) j ≡ Some b → ((j ≡ i) × (a ≡ b)) ⊎ ((j ≢ i) × (slice_get xs j ≡ Some b))
got_set [] i j a b e = absurd (cc)
got_set (x ∷ xs) zero zero a b e = inl (refl, cc)
got_set (x ∷ xs) zero (suc j) a b e = inr ((λ h. omega arith), e)
got_set (x ∷ xs) (suc i) zero a b e = inr ((λ h. omega arith), e)
got_set (x ∷ xs) (suc i) (suc j) a b e = ⊎_elim (λ t. inl (ap suc t.0, t.1)) (λ t. let n = t.0 in inr ((λ h. n (omega arith)), t.1)) (got_set xs i j a b e)

-- the caches after one board was changed
pub caches_set : {C : Type 0} (bs : List (Board C)) (b : ℕ) (y : Board C) → caches board_lens (set bs b y) ≡ set (caches board_lens bs) b y.cache
caches_set [] b y = refl
caches_set (x ∷ xs) zero y = refl
caches_set (x ∷ xs) (suc b) y = ap (λ (cs : List (List (Option Line))). x.cache ∷ cs) (caches_set xs b y)

pub cache_at : {C : Type 0} (bs : List (Board C)) (b : ℕ) (x : Board C) → slice_get bs b ≡ Some x → get_or (caches board_lens bs) b [] ≡ x.cache
cache_at [] b x e = absurd cc
cache_at {C} (y ∷ ys) zero x e = let same : y ≡ x = cc in ap (λ (z : Board C). z.cache) same
cache_at (y ∷ ys) (suc b) x e = cache_at ys b x e

pub caches_stay : {C : Type 0} (bs : List (Board C)) (b : ℕ) (x y : Board C) → slice_get bs b ≡ Some x → y.cache ≡ x.cache → caches board_lens (set bs b y) ≡ caches board_lens bs
caches_stay [] b x y e same = refl
caches_stay {C} (z ∷ zs) zero x y e same = let is : z ≡ x = cc in ap (λ (c : List (Option Line)). c ∷ caches board_lens zs) (same ∙ ap (λ (w : Board C). w.cache) (sym is))
caches_stay (z ∷ zs) (suc b) x y e same = ap (λ (cs : List (List (Option Line))). z.cache ∷ cs) (caches_stay zs b x y e same)

pub caches_done : {C : Type 0} (kind : AccessKind) (bs : List (Board C)) (b at value : ℕ) (x y : Board C) → slice_get bs b ≡ Some x → y.cache ≡ done_lines kind x.cache at value → caches board_lens (set bs b y) ≡ done_caches kind (caches board_lens bs) b at value
caches_done access.Load bs b at value x y e same = caches_stay bs b x y e same
caches_done access.Store bs b at value x y e same =
    caches_set bs b y ∙ ap (set (caches board_lens bs) b) (same ∙ ap (λ (c : List (Option Line)). done_lines access.Store c at value) (sym (cache_at bs b x e)))
caches_done access.Tas bs b at value x y e same =
    caches_set bs b y ∙ ap (set (caches board_lens bs) b) (same ∙ ap (λ (c : List (Option Line)). done_lines access.Tas c at value) (sym (cache_at bs b x e)))

-- how many boards the swap ended
abbrev pub one_if : Bool → ℕ
one_if true = 1
one_if false = 0

counted : {C : Type 0} (x : Board C) (xs : List (Board C)) (t : Bool) → is_swapped x.ended ≡ t → swap_count (x ∷ xs) ≡ one_if t + swap_count xs
counted {C} x xs true is = ap (λ (s : Bool). length (if s then x ∷ filter (λ (b : Board C). is_swapped b.ended) xs else filter (λ (b : Board C). is_swapped b.ended) xs)) is ∙ (let r : suc (swap_count xs) ≡ one_if true + swap_count xs = omega arith in r)
counted {C} x xs false is = ap (λ (s : Bool). length (if s then x ∷ filter (λ (b : Board C). is_swapped b.ended) xs else filter (λ (b : Board C). is_swapped b.ended) xs)) is ∙ (let r : swap_count xs ≡ one_if false + swap_count xs = omega arith in r)

pub swaps_set : {C : Type 0} (bs : List (Board C)) (b : ℕ) (x y : Board C) (t : Bool) → slice_get bs b ≡ Some x → is_swapped x.ended ≡ false → is_swapped y.ended ≡ t → swap_count (set bs b y) ≡ one_if t + swap_count bs
swaps_set [] b x y t e was is = absurd cc
swaps_set {C} (z ∷ zs) zero x y t e was is =
    let same : z ≡ x = cc in
    let first : swap_count (z ∷ zs) ≡ 0 + swap_count zs = counted z zs false (ap (λ (w : Board C). is_swapped w.ended) same ∙ was) in
    let second : swap_count (y ∷ zs) ≡ one_if t + swap_count zs = counted y zs t is in
    omega arith
swaps_set {C} (z ∷ zs) (suc b) x y t e was is =
    let rest : swap_count (set zs b y) ≡ one_if t + swap_count zs = swaps_set zs b x y t e was is in
    let first : swap_count (z ∷ zs) ≡ one_if (is_swapped z.ended) + swap_count zs = counted z zs (is_swapped z.ended) refl in
    let second : swap_count (z ∷ set zs b y) ≡ one_if (is_swapped z.ended) + swap_count (set zs b y) = counted z (set zs b y) (is_swapped z.ended) refl in
    omega arith

swaps_lens : {C : Type 0} (bs : List (Board C)) (cs : List (List (Option Line))) → swap_count (with_caches board_lens bs cs) ≡ swap_count bs
swaps_lens [] cs = refl
swaps_lens (b ∷ bs) [] = refl
swaps_lens (b ∷ bs) (c ∷ cs) =
    let rest = swaps_lens bs cs in
    let first : swap_count (b ∷ bs) ≡ one_if (is_swapped b.ended) + swap_count bs = counted b bs (is_swapped b.ended) refl in
    let second : swap_count (record b { cache = c } ∷ with_caches board_lens bs cs) ≡ one_if (is_swapped b.ended) + swap_count (with_caches board_lens bs cs) = counted (record b { cache = c }) (with_caches board_lens bs cs) (is_swapped b.ended) refl in
    omega arith

pub lens_board : {C : Type 0} (bs : List (Board C)) → bs ≡ with_caches board_lens bs (caches board_lens bs)
lens_board [] = refl
lens_board {C} (b ∷ bs) = ap (λ (xs : List (Board C)). b ∷ xs) (lens_board bs)

spent_or_not : (met : Bool) → is_swapped (if met then Some ending.Spent else None) ≡ false
spent_or_not true = refl
spent_or_not false = refl

-- the swap ends no board that has completed an instruction
pub completed_unswapped : (w : Want) (budget retired : ℕ) → is_swapped (ended_at w budget retired) ≡ false
completed_unswapped Ended budget retired = refl
completed_unswapped Local budget retired = spent_or_not (retired == budget)
completed_unswapped (Access kind va value) budget retired = spent_or_not (retired == budget)

module _ {C S : Type 0} (m : Meaning S) (state : C → S) (spare : C → ℕ) where
  pub asks_now : (olds : List (Board C)) (b at value : ℕ) (kind : AccessKind) (x : Board C) → IsAsking m state spare olds b kind at value → OnlyItsLines olds b x → Asks m state spare b kind at value x
  asks_now olds b at value kind x asking only =
      let a = asking.asks only.old only.there in
      subst (Asks m state spare b kind at value) (sym only.is)
      (record { number = a.number; going = record { not_ended = a.going.not_ended; running = a.going.running; left = a.going.left; room = a.going.room }; va = a.va; wants = a.wants; at_is = a.at_is })

  -- a board that was changed after only its lines had changed
  pub record IsStep (x y : Board C) (e : Entry) : Type 0 where
    pub number : y.number ≡ x.number
    pub segs : y.segs ≡ x.segs
    pub budget : y.budget ≡ x.budget
    pub room : y.budget ≤ y.retired + spare y.cpu
    pub moved : y.ended ≡ None → y.retired ≡ x.retired + 1
    pub carried : carry_entry m x.segs x.budget (course_now m state x) e ≡ Some (course_now m state y)
    pub swapped : y.ended ≡ Some ending.SwapFault → EndsInSwap m state spare y (e ∷ [])

  step_taken : (olds : List (Board C)) (b : ℕ) (x y : Board C) (e : Entry) → OnlyItsLines olds b x → IsStep x y e → HasTaken m state spare olds b e y
  step_taken olds b x y e only step =
      let s : IsStep (record only.old { cache = x.cache }) y e = subst (λ (z : Board C). IsStep z y e) only.is step in
      record { old = only.old; there = only.there; number = s.number; segs = s.segs; budget = s.budget; room = s.room; moved = s.moved; carried = s.carried; swapped = s.swapped }

  pub acts_by : (b at : ℕ) (kind : AccessKind) (w v : View) (entries faults : List Entry) (olds mids : List (Board C)) (cs : List (List (Option Line))) (x y : Board C) (e : Entry) (t : Bool) → Comes b at kind w v entries faults (e ∷ []) → (t ≡ false → EndsWithAnswer b entries) → mids ≡ with_caches board_lens olds cs
      → slice_get mids b ≡ Some x → IsStep x y e → is_swapped x.ended ≡ false → is_swapped y.ended ≡ t → one_if t + w.faults ≤ v.faults → Acts m state spare b at kind w v olds (set mids b y)
  acts_by b at kind w v entries faults olds mids cs x y e t comes reaches lens there step was is count_faults =
      let from : (i : ℕ) (z : Board C) → slice_get mids i ≡ Some z → OnlyItsLines olds i z = λ (i : ℕ) (z : Board C) (h : slice_get mids i ≡ Some z). lens_get olds cs i z (ap (λ (bs : List (Board C)). slice_get bs i) (sym lens) ∙ h) in
      let count : swap_count (set mids b y) ≡ one_if t + swap_count mids = swaps_set mids b x y t there was is in
      let same : swap_count mids ≡ swap_count olds = ap swap_count lens ∙ swaps_lens olds cs in
      record {
        entries = entries;
        faults = faults;
        last = e;
        comes = comes;
        others = λ i z n h. ⊎_elim (λ (q : (i ≡ b) × (y ≡ z)). absurd (n q.0)) (λ (q : (i ≢ b) × (slice_get mids i ≡ Some z)). from i z q.1) (got_set mids b i y z h);
        mine = λ z h. ⊎_elim (λ (q : (b ≡ b) × (y ≡ z)). subst (HasTaken m state spare olds b e) q.1 (step_taken olds b x y e (from b x there) step)) (λ (q : (b ≢ b) × (slice_get mids b ≡ Some z)). absurd (q.0 refl)) (got_set mids b b y z h);
        reaches = λ z h unswapped.
            ⊎_elim (λ (q : (b ≡ b) × (y ≡ z)). reaches (sym is ∙ ap (λ (r : Board C). is_swapped r.ended) q.1 ∙ unswapped)) (λ (q : (b ≢ b) × (slice_get mids b ≡ Some z)). absurd (q.0 refl)) (got_set mids b b y z h);
        swaps = omega arith;
      }

  pub takes_by : (b at : ℕ) (kind : AccessKind) (w v : View) (entries faults : List Entry) (olds mids : List (Board C)) (cs : List (List (Option Line))) (x y : Board C) (e : Entry) (t : Bool) → Comes b at kind w v entries faults (e ∷ []) → (t ≡ false → EndsWithAnswer b entries) → IsFrugal entries
      → mids ≡ with_caches board_lens olds cs → slice_get mids b ≡ Some x → IsStep x y e → y.log ≡ x.log → is_swapped x.ended ≡ false → is_swapped y.ended ≡ t → one_if t + w.faults ≤ v.faults → TakesAccess m state spare b at kind w v olds (set mids b y)
  unfolding acts_by
  takes_by b at kind w v entries faults olds mids cs x y e t comes reaches frugal lens there step log was is rose = record {
    acts = acts_by b at kind w v entries faults olds mids cs x y e t comes reaches lens there step was is rose;
    log = λ p q at_p at_q.
        let only = lens_get olds cs b x (ap (λ (bs : List (Board C)). slice_get bs b) (sym lens) ∙ there) in
        let same : only.old ≡ p = one_at olds b only.old p only.there at_p in
        ⊎_elim (λ (r : (b ≡ b) × (y ≡ q)). ap (λ (z : Board C). z.log) (sym r.1) ∙ log ∙ ap (λ (z : Board C). z.log) only.is ∙ ap (λ (z : Board C). z.log) same) (λ (r : (b ≢ b) × (slice_get mids b ≡ Some q)). absurd (r.0 refl)) (got_set mids b b y q at_q);
    frugal = frugal;
    rose = λ q at_q swapped.
        ⊎_elim (λ (r : (b ≡ b) × (y ≡ q)).
        let one : t ≡ true = sym is ∙ ap (λ (z : Board C). is_swapped z.ended) r.1 ∙ ap is_swapped swapped in
        let more : one_if true + w.faults ≤ v.faults = subst (λ (x : Bool). one_if x + w.faults ≤ v.faults) one rose in
        let r : w.faults < v.faults = omega arith in r)
        (λ (r : (b ≢ b) × (slice_get mids b ≡ Some q)). absurd (r.0 refl)) (got_set mids b b y q at_q);
  }

  some_none : {e : Ending} → ◌≡◌ {A = Option Ending} (Some e) None → ⊥
  some_none h = absurd cc

  -- the three outcomes
  unswapped : (o : Option Ending) → is_swapped o ≡ false → o ≡ Some ending.SwapFault → ⊥
  unswapped o h is = absurd (let r : true ≡ false = sym (ap is_swapped is) ∙ h in cc)

  pub asks_unswapped : (b at value : ℕ) (kind : AccessKind) (x : Board C) → Asks m state spare b kind at value x → is_swapped x.ended ≡ false
  asks_unswapped b at value kind x asks = ap is_swapped asks.going.not_ended

  pub asks_access : (b at value : ℕ) (kind : AccessKind) (x : Board C) → Asks m state spare b kind at value x → WantsAccess (m.wants (state x.cpu))
  asks_access b at value kind x asks = subst WantsAccess (sym asks.wants) tt

  abbrev pub lined : Board C → AccessKind → ℕ → ℕ → Board C
  lined x kind at value = record x { cache = done_lines kind x.cache at value }

  pub done_unswapped : (x y : Board C) (value : ℕ) → HasDone m state spare x value y → is_swapped y.ended ≡ false
  done_unswapped x y value done = ap is_swapped done.ended ∙ completed_unswapped (m.wants (m.answer (state x.cpu) _)) x.budget (x.retired + 1)

  pub done_step : (b at value word : ℕ) (kind : AccessKind) (x y : Board C) → Asks m state spare b kind at value x → HasDone m state spare (lined x kind at value) (done_value kind word value) y → IsStep x y (done_entry kind b at word value)
  done_step b at value word kind x y asks done =
      let is = done.stays.is in
      let asks_lined : Asks m state spare b kind at value (lined x kind at value) = record { number = asks.number; going = record { not_ended = asks.going.not_ended; running = asks.going.running; left = asks.going.left; room = asks.going.room }; va = asks.va; wants = asks.wants; at_is = asks.at_is } in
      record {
        number = ap (λ (z : Board C). z.number) is;
        segs = ap (λ (z : Board C). z.segs) is;
        budget = ap (λ (z : Board C). z.budget) is;
        room = done.stays.room;
        moved = λ h. done.retired;
        carried = done_carried m state spare b at value word kind (lined x kind at value) y asks_lined done;
        swapped = λ h. absurd (unswapped y.ended (done_unswapped (lined x kind at value) y (done_value kind word value) done) h);
      }

  pub fault_step : (b at value : ℕ) (kind : AccessKind) (why : FaultKind) (x y : Board C) → Asks m state spare b kind at value x → is_ending why ≡ true → HasFaulted m state spare x why at y → IsStep x y (entry.Fault b why kind at)
  fault_step b at value kind why x y asks ends faulted =
      let is = faulted.stays.is in
      record {
        number = ap (λ (z : Board C). z.number) is;
        segs = ap (λ (z : Board C). z.segs) is;
        budget = ap (λ (z : Board C). z.budget) is;
        room = faulted.stays.room;
        moved = λ h. absurd (some_none (sym faulted.ended ∙ h));
        carried = ended_carried m state spare b at value kind why x y asks ends faulted;
        swapped = λ h. absurd (unswapped y.ended (ap is_swapped faulted.ended) h);
      }

  served_kind : (why : FaultKind) → (why ≡ fault.Missing) ⊎ (why ≡ fault.Leaving) → is_ending why ≡ false
  served_kind why (inl is) = ap is_ending is
  served_kind why (inr is) = ap is_ending is

  pub swap_step : (b at value : ℕ) (kind : AccessKind) (why : FaultKind) (x : Board C) → Asks m state spare b kind at value x → (why ≡ fault.Missing) ⊎ (why ≡ fault.Leaving) → IsStep x (record x { ended = Some ending.SwapFault }) (entry.Fault b why kind at)
  swap_step b at value kind why x asks kinds = record {
    number = refl;
    segs = refl;
    budget = refl;
    room = asks.going.room;
    moved = λ h. absurd (some_none h);
    carried = swap_carried m state spare b at value kind why x asks (served_kind why kinds);
    swapped = λ h. record {
      before = [];
      kind = why;
      access = kind;
      va = asks.va;
      value = value;
      last = ap (λ (z : ℕ × ℕ). entry.Fault z.0 why kind z.1 ∷ []) (λ k. (sym asks.number k, asks.at_is k));
      asked = kinds;
      wants = asks.wants;
    };
  }
