-- A history is judged good exactly where it is legal, tagged and needed and each board's entries are its program's.
use Rattle.std.proofs.Common.{◌≡◌, ◌≢◌, ℕ, zero, suc, ◌+◌, ◌<◌, ◌↔◌, Bool, true, false, ◌⊎◌, inl, inr, List, [], ◌∷◌, Option, Some, None, refl, sym, ap, ◌∙◌, subst, arith, if◌then◌else◌, length, filter, ne_eqb, slice_set, length-set}
use Rattle.std.specs.Prelude.{◌==◌, All, slice_get}
use Rattle.std.proofs.lemmas.Bool.{cases_eq}
use Rattle.std.proofs.lemmas.Bool.Decides.{nat_tests}
use Rattle.std.proofs.lemmas.Option.{slice_get_cases}
use Rattle.std.proofs.lemmas.List.Elements.{All-tail, recursion_from_All}
use Rattle.spur_flat.specs.declared.illegal.Illegal.{Illegal}
use Rattle.spur_flat.specs.declared.entry.Entry.{Entry}
use Rattle.spur_flat.specs.declared.entry.Entry.TheVariants.{Load, Store, Tas, Fault}
use Rattle.spur_flat.specs.Blocks.{IsOfBoards, board_of}
use Rattle.spur_flat.specs.History.{is_own, own_entries}
use Rattle.spur_flat.specs.Refused.{or_else}
use Rattle.spur_flat.specs.State.{MayFollow, state_refusal}
use Rattle.spur_flat.specs.StateLaws.{IsAccess}
use Rattle.spur_flat.proofs.StateFacts.{unrefused-follows}
use Rattle.spur_cpu.specs.Meaning.{Meaning}
use Rattle.spur_cpu.specs.After.{Course, HasBudgetLeft, carry_entry}
use Rattle.spur_cpu.specs.Onward.{EntriesFit, carry_to_access}
use Rattle.spur_cpu.specs.OnwardLaws.{NextFits}
use Rattle.spur_cpu.proofs.ToAccess.{access_left, entry_left, fit-by-the-next}
use Rattle.spur_check.specs.declared.verdict.Verdict.{Verdict}
use Rattle.spur_check.specs.Replays.{Replayed, next_access, at_access, or_stays, moved, program_refusal, refusal_at, replay_refusal, replays_on, taken, with_taken}
use Rattle.spur_check.specs.Judged.{Progress, entry_refusal, judged_from, verdict_or, progress_on}
use Rattle.spur_check.specs.Laws.{ReplaysFit, HaveBudgetLeft, IsGood, MayStand}
use Rattle.spur_check.proofs.Moves.{board_there}
use Rattle.spur_check.proofs.Nexts.{carries, is_next}

-- a list with another element at one place
get_same : {X : Type 0} (xs : List X) (b : ℕ) (x y : X) → slice_get xs b ≡ Some x → slice_get (slice_set xs b y) b ≡ Some y
get_same [] b x y h = absurd cc
get_same (z ∷ xs) zero x y h = refl
get_same (z ∷ xs) (suc b) x y h = get_same xs b x y h

get_other : {X : Type 0} (xs : List X) (b k : ℕ) (y : X) → k ≢ b → slice_get (slice_set xs b y) k ≡ slice_get xs k
get_other [] b k y n = refl
get_other (z ∷ xs) zero zero y n = absurd (n refl)
get_other (z ∷ xs) zero (suc k) y n = refl
get_other (z ∷ xs) (suc b) zero y n = refl
get_other (z ∷ xs) (suc b) (suc k) y n = get_other xs b k y (λ e. n (ap suc e))

some_same : {X : Type 0} (o : Option X) (x y : X) → o ≡ Some x → o ≡ Some y → x ≡ y
some_same o x y e f = let s : Some x ≡ Some y = sym e ∙ f in cc

eq_self : (b : ℕ) → (b == b) ≡ true
eq_self b = grind (arith, nat_tests)

filter_in : {X : Type 0} (p : X → Bool) (x : X) (xs : List X) → p x ≡ true → filter p (x ∷ xs) ≡ x ∷ filter p xs
filter_in p x xs e = ap (λ (b : Bool). if b then x ∷ filter p xs else filter p xs) e

filter_out : {X : Type 0} (p : X → Bool) (x : X) (xs : List X) → p x ≡ false → filter p (x ∷ xs) ≡ filter p xs
filter_out p x xs e = ap (λ (b : Bool). if b then x ∷ filter p xs else filter p xs) e

own_is : (e : Entry) (k : ℕ) → IsAccess e → is_own k e ≡ (board_of e == k)
own_is (Load board at value) k is = refl
own_is (Store board at value) k is = refl
own_is (Tas board at value) k is = refl
own_is (Fault board kind access at) k is = refl
own_is e k is = absurd is

own_same : (e : Entry) (es : List Entry) → IsAccess e → own_entries (e ∷ es) (board_of e) ≡ e ∷ own_entries es (board_of e)
own_same e es is = filter_in (is_own (board_of e)) e es (own_is e (board_of e) is ∙ eq_self (board_of e))

own_other : (e : Entry) (es : List Entry) (k : ℕ) → IsAccess e → k ≢ board_of e → own_entries (e ∷ es) k ≡ own_entries es k
own_other e es k is n = filter_out (is_own k) e es (own_is e k is ∙ (let m : board_of e ≢ k = (λ q. n (sym q)) in ne_eqb (board_of e) k m))

-- an entry of the bus or of the pager
abbrev IsApart : Entry → Type 0
IsApart (Load board at value) = ⊥
IsApart (Store board at value) = ⊥
IsApart (Tas board at value) = ⊥
IsApart (Fault board kind access at) = ⊥
IsApart e = Unit {0}

sorted : (e : Entry) → IsAccess e ⊎ IsApart e
sorted (Load board at value) = inl tt
sorted (Store board at value) = inl tt
sorted (Tas board at value) = inl tt
sorted (Fault board kind access at) = inl tt
sorted e = inr tt

module _ {S : Type 0} (m : Meaning S) where
  apart_none : (o : Option (Replayed S)) (e : Entry) → IsApart e → refusal_at m o e ≡ None
  apart_none o (Load board at value) is = absurd is
  apart_none o (Store board at value) is = absurd is
  apart_none o (Tas board at value) is = absurd is
  apart_none o (Fault board kind access at) is = absurd is
  apart_none None e is = refl
  apart_none (Some r) e is = refl

  apart_on : (rs : List (Replayed S)) (e : Entry) → IsApart e → replays_on m rs e ≡ rs
  apart_on rs (Load board at value) is = absurd is
  apart_on rs (Store board at value) is = absurd is
  apart_on rs (Tas board at value) is = absurd is
  apart_on rs (Fault board kind access at) is = absurd is
  apart_on rs e is = refl

  apart_own : (e : Entry) (es : List Entry) (k : ℕ) → IsApart e → own_entries (e ∷ es) k ≡ own_entries es k
  apart_own (Load board at value) es k is = absurd is
  apart_own (Store board at value) es k is = absurd is
  apart_own (Tas board at value) es k is = absurd is
  apart_own (Fault board kind access at) es k is = absurd is
  apart_own e es k is = refl

  access_on : (rs : List (Replayed S)) (e : Entry) → IsAccess e → replays_on m rs e ≡ moved m rs e
  access_on rs (Load board at value) is = refl
  access_on rs (Store board at value) is = refl
  access_on rs (Tas board at value) is = refl
  access_on rs (Fault board kind access at) is = refl
  access_on rs e is = absurd is

  -- a board that an entry carries on from its next access
  abbrev after_entry : Replayed S → Course S → Replayed S
  after_entry r d = record { segs = r.segs; budget = r.budget; course = d }

  taken_is : (r : Replayed S) (e : Entry) (d : Course S) → carry_entry m r.segs r.budget (carry_to_access m r.segs r.budget r.course) e ≡ Some d → taken m (at_access m r) e ≡ after_entry r d
  taken_is r e d h = ap (λ (o : Option (Course S)). after_entry r (or_stays (carry_to_access m r.segs r.budget r.course) o)) h

  moved_is : (rs : List (Replayed S)) (e : Entry) (r : Replayed S) (d : Course S) → IsAccess e → slice_get rs (board_of e) ≡ Some r → carry_entry m r.segs r.budget (carry_to_access m r.segs r.budget r.course) e ≡ Some d
      → replays_on m rs e ≡ slice_set rs (board_of e) (after_entry r d)
  moved_is rs e r d is at h =
      access_on rs e is ∙ ap (λ (o : Option (Replayed S)). with_taken m rs (board_of e) o e) at
      ∙ ap (λ (x : Replayed S). slice_set rs (board_of e) x) (taken_is r e d h)

  -- where an access is not refused, it carries its board on
  pub record Carried (rs : List (Replayed S)) (e : Entry) : Type 0 where
    pub runner : Replayed S
    pub course : Course S
    pub at : slice_get rs (board_of e) ≡ Some runner
    pub carried : carry_entry m runner.segs runner.budget (carry_to_access m runner.segs runner.budget runner.course) e ≡ Some course

  runner_at : (rs : List (Replayed S)) (b : ℕ) → b < length rs → (r : Replayed S) × (slice_get rs b ≡ Some r)
  runner_at rs b there = elim (slice_get_cases rs b).1 [
    | inl (r, within, is, get) ↦ (r, is)
    | inr (out, none) ↦ absurd (omega arith)
  ]

  unrefused_carried : (rs : List (Replayed S)) (e : Entry) → IsAccess e → board_of e < length rs → replay_refusal m rs e ≡ None → Carried rs e
  unrefused_carried rs e is there h =
      let r = runner_at rs (board_of e) there in
      let asked : program_refusal (next_access m (at_access m r.0)) e ≡ None = sym (ap (λ (o : Option (Replayed S)). refusal_at m o e) r.1) ∙ h in
      let d = carries m r.0.segs r.0.budget (carry_to_access m r.0.segs r.0.budget r.0.course) (m.wants (carry_to_access m r.0.segs r.0.budget r.0.course).cpu) (carry_to_access m r.0.segs r.0.budget r.0.course).ending e is asked in
      record { runner = r.0; course = d.0; at = r.1; carried = d.1 }

  carried_unrefused : (rs : List (Replayed S)) (e : Entry) → Carried rs e → replay_refusal m rs e ≡ None
  carried_unrefused rs e c =
      let r = c.runner in
      ap (λ (o : Option (Replayed S)). refusal_at m o e) c.at
      ∙ is_next m r.segs r.budget (carry_to_access m r.segs r.budget r.course) c.course (m.wants (carry_to_access m r.segs r.budget r.course).cpu) (carry_to_access m r.segs r.budget r.course).ending e c.carried

  -- a fact of each board, where one board is carried on
  each_moved : (P : ℕ → Replayed S → Type 0) (rs : List (Replayed S)) (e : Entry) (c : Carried rs e) → IsAccess e
      → P (board_of e) (after_entry c.runner c.course) → ((k : ℕ) (r : Replayed S) → k ≢ board_of e → slice_get rs k ≡ Some r → P k r)
      → (k : ℕ) (r : Replayed S) → slice_get (replays_on m rs e) k ≡ Some r → P k r
  each_moved P rs e c is own others k r h = elim (cases_eq k (board_of e)) [
    | inl q ↦
        let now : slice_get (slice_set rs (board_of e) (after_entry c.runner c.course)) (board_of e) ≡ Some r =
        sym (ap (λ (xs : List (Replayed S)). slice_get xs (board_of e)) (moved_is rs e c.runner c.course is c.at c.carried)) ∙ sym (ap (λ (n : ℕ). slice_get (replays_on m rs e) n) q) ∙ h in
        let same : after_entry c.runner c.course ≡ r = some_same _ _ _ (get_same rs (board_of e) c.runner (after_entry c.runner c.course) c.at) now in
        subst (λ (n : ℕ). P n r) (sym q) (subst (P (board_of e)) same own)
    | inr n ↦
        let now : slice_get rs k ≡ Some r =
        sym (get_other rs (board_of e) k (after_entry c.runner c.course) n) ∙ sym (ap (λ (xs : List (Replayed S)). slice_get xs k) (moved_is rs e c.runner c.course is c.at c.carried)) ∙ h in
        others k r n now
  ]

  -- one entry of a history whose boards' programs have it
  record Step (rs : List (Replayed S)) (e : Entry) (es : List Entry) : Type 0 where
    unrefused : replay_refusal m rs e ≡ None
    later : ReplaysFit m (replays_on m rs e) es

  access_step : (rs : List (Replayed S)) (e : Entry) (es : List Entry) → IsAccess e → HaveBudgetLeft m rs → board_of e < length rs → ReplaysFit m rs (e ∷ es) → Step rs e es
  access_step rs e es is left there fit =
      let at = runner_at rs (board_of e) there in
      let r = at.0 in
      let behind : NextFits m r.segs r.budget r.course e (own_entries es (board_of e)) =
      (fit-by-the-next m r.segs r.budget r.course e (own_entries es (board_of e)) (left (board_of e) r at.1)).0 (subst (λ (xs : List Entry). EntriesFit m r.segs r.budget r.course xs) (own_same e es is) (fit (board_of e) r at.1)) in
      let c : Carried rs e = record { runner = r; course = behind.course; at = at.1; carried = behind.carried } in
      record {
        unrefused = carried_unrefused rs e c;
        later = each_moved (λ k x. EntriesFit m x.segs x.budget x.course (own_entries es k)) rs e c is behind.fits
            (λ k x n h. subst (λ (xs : List Entry). EntriesFit m x.segs x.budget x.course xs) (own_other e es k is n) (fit k x h));
      }

  apart_step : (rs : List (Replayed S)) (e : Entry) (es : List Entry) → IsApart e → ReplaysFit m rs (e ∷ es) → Step rs e es
  apart_step rs e es is fit = record {
    unrefused = apart_none (slice_get rs (board_of e)) e is;
    later = subst (λ (xs : List (Replayed S)). ReplaysFit m xs es) (sym (apart_on rs e is)) (λ k x h. subst (λ (xs : List Entry). EntriesFit m x.segs x.budget x.course xs) (apart_own e es k is) (fit k x h));
  }

  step_of : (rs : List (Replayed S)) (e : Entry) (es : List Entry) → HaveBudgetLeft m rs → board_of e < length rs → ReplaysFit m rs (e ∷ es) → Step rs e es
  step_of rs e es left there fit = elim (sorted e) [
    | inl is ↦ access_step rs e es is left there fit
    | inr is ↦ apart_step rs e es is fit
  ]

  -- and back
  access_back : (rs : List (Replayed S)) (e : Entry) (es : List Entry) → IsAccess e → HaveBudgetLeft m rs → board_of e < length rs → replay_refusal m rs e ≡ None → ReplaysFit m (replays_on m rs e) es → ReplaysFit m rs (e ∷ es)
  access_back rs e es is left there unrefused later k x h =
      let c = unrefused_carried rs e is there unrefused in
      elim (cases_eq k (board_of e)) [
        | inl q ↦
            let r = c.runner in
            let now : slice_get (replays_on m rs e) (board_of e) ≡ Some (after_entry r c.course) =
            ap (λ (xs : List (Replayed S)). slice_get xs (board_of e)) (moved_is rs e r c.course is c.at c.carried) ∙ get_same rs (board_of e) r (after_entry r c.course) c.at in
            let fits : EntriesFit m r.segs r.budget r.course (e ∷ own_entries es (board_of e)) =
            (fit-by-the-next m r.segs r.budget r.course e (own_entries es (board_of e)) (left (board_of e) r c.at)).1 record { course = c.course; carried = c.carried; fits = later (board_of e) (after_entry r c.course) now } in
            let same : r ≡ x = some_same _ _ _ c.at (sym (ap (slice_get rs) q) ∙ h) in
            subst (λ (n : ℕ). EntriesFit m x.segs x.budget x.course (own_entries (e ∷ es) n)) (sym q)
            (subst (λ (y : Replayed S). EntriesFit m y.segs y.budget y.course (own_entries (e ∷ es) (board_of e))) same
            (subst (λ (xs : List Entry). EntriesFit m r.segs r.budget r.course xs) (sym (own_same e es is)) fits))
        | inr n ↦
            let now : slice_get (replays_on m rs e) k ≡ Some x =
            ap (λ (xs : List (Replayed S)). slice_get xs k) (moved_is rs e c.runner c.course is c.at c.carried) ∙ get_other rs (board_of e) k (after_entry c.runner c.course) n ∙ h in
            subst (λ (xs : List Entry). EntriesFit m x.segs x.budget x.course xs) (sym (own_other e es k is n)) (later k x now)
      ]

  apart_back : (rs : List (Replayed S)) (e : Entry) (es : List Entry) → IsApart e → ReplaysFit m (replays_on m rs e) es → ReplaysFit m rs (e ∷ es)
  apart_back rs e es is later k x h = subst (λ (xs : List Entry). EntriesFit m x.segs x.budget x.course xs) (sym (apart_own e es k is)) (later k x (ap (λ (xs : List (Replayed S)). slice_get xs k) (apart_on rs e is) ∙ h))

  back_of : (rs : List (Replayed S)) (e : Entry) (es : List Entry) → HaveBudgetLeft m rs → board_of e < length rs → replay_refusal m rs e ≡ None → ReplaysFit m (replays_on m rs e) es → ReplaysFit m rs (e ∷ es)
  back_of rs e es left there unrefused later = elim (sorted e) [
    | inl is ↦ access_back rs e es is left there unrefused later
    | inr is ↦ apart_back rs e es is later
  ]

  -- what is left of the budgets, and how many boards there are, after an entry
  left_on : (rs : List (Replayed S)) (e : Entry) → HaveBudgetLeft m rs → board_of e < length rs → replay_refusal m rs e ≡ None → HaveBudgetLeft m (replays_on m rs e)
  left_on rs e left there unrefused = elim (sorted e) [
    | inl is ↦
        let c = unrefused_carried rs e is there unrefused in
        let r = c.runner in
        each_moved (λ k x. HasBudgetLeft x.budget x.course) rs e c is (entry_left m r.segs r.budget (carry_to_access m r.segs r.budget r.course) c.course e (access_left m r.segs r.budget r.course (left (board_of e) r c.at)) c.carried) (λ k x n h. left k x h)
    | inr is ↦ subst (HaveBudgetLeft m) (sym (apart_on rs e is)) left
  ]

  length_on : (rs : List (Replayed S)) (e : Entry) → board_of e < length rs → replay_refusal m rs e ≡ None → length (replays_on m rs e) ≡ length rs
  length_on rs e there unrefused = elim (sorted e) [
    | inl is ↦ let c = unrefused_carried rs e is there unrefused in ap length (moved_is rs e c.runner c.course is c.at c.carried) ∙ length-set _ _ _
    | inr is ↦ ap length (apart_on rs e is)
  ]

  or_none : (a b : Option Illegal) → or_else a b ≡ None → (a ≡ None) × (b ≡ None)
  or_none None b h = (refl, h)
  or_none (Some a) b h = absurd cc

  none_or : (a b : Option Illegal) → a ≡ None → b ≡ None → or_else a b ≡ None
  none_or None b h k = k
  none_or (Some a) b h k = absurd cc

  good_now : (o : Option Illegal) (n : ℕ) (rest : Verdict) → IsGood (verdict_or o n rest) → (o ≡ None) × IsGood rest
  good_now None n rest h = (refl, h)
  good_now (Some why) n rest h = absurd h

  now_good : (o : Option Illegal) (n : ℕ) (rest : Verdict) → o ≡ None → IsGood rest → IsGood (verdict_or o n rest)
  now_good None n rest e h = h
  now_good (Some why) n rest e h = absurd cc

  good_stands : (p : Progress S) (es : List Entry) → HaveBudgetLeft m p.replays → All (IsOfBoards (length p.replays)) es → IsGood (judged_from m p es) → MayStand m p es
  good_stands p [] left of good = record {
    entries = record { legal = tt; tagged = tt; needed = tt };
    programs = λ b r h. record { completed = 0; course = r.course; leads = refl };
  }
  good_stands p (e ∷ es) left of good =
      let parts = recursion_from_All (IsOfBoards (length p.replays)) (e ∷ es) of in
      let there = board_there (length p.replays) e parts.0 in
      let split = good_now (entry_refusal m p e) (p.count + 1) (judged_from m (progress_on m p e) es) good in
      let two = or_none (replay_refusal m p.replays e) (state_refusal p.numbers p.state e) split.0 in
      let follows = (unrefused-follows p.numbers p.state e).0 two.1 in
      let of_later = subst (λ (n : ℕ). All (IsOfBoards n) es) (sym (length_on p.replays e there two.0)) (All-tail (IsOfBoards (length p.replays)) e es of) in
      let later = good_stands (progress_on m p e) es (left_on p.replays e left there two.0) of_later split.1 in
      record {
        entries = record { legal = (follows.legal, later.entries.legal); tagged = (follows.tagged, later.entries.tagged); needed = (follows.needed, later.entries.needed) };
        programs = back_of p.replays e es left there two.0 later.programs;
      }

  stands_good : (p : Progress S) (es : List Entry) → HaveBudgetLeft m p.replays → All (IsOfBoards (length p.replays)) es → MayStand m p es → IsGood (judged_from m p es)
  stands_good p [] left of stand = tt
  stands_good p (e ∷ es) left of stand =
      let parts = recursion_from_All (IsOfBoards (length p.replays)) (e ∷ es) of in
      let there = board_there (length p.replays) e parts.0 in
      let each = stand.entries in
      let s = step_of p.replays e es left there stand.programs in
      let follows : MayFollow p.state e = record { legal = each.legal.0; tagged = each.tagged.0; needed = each.needed.0 } in
      let refusal = none_or (replay_refusal m p.replays e) (state_refusal p.numbers p.state e) s.unrefused ((unrefused-follows p.numbers p.state e).1 follows) in
      let of_later = subst (λ (n : ℕ). All (IsOfBoards n) es) (sym (length_on p.replays e there s.unrefused)) (All-tail (IsOfBoards (length p.replays)) e es of) in
      now_good (entry_refusal m p e) (p.count + 1) (judged_from m (progress_on m p e) es) refusal
      (stands_good (progress_on m p e) es (left_on p.replays e left there s.unrefused) of_later record {
        entries = record { legal = each.legal.1; tagged = each.tagged.1; needed = each.needed.1 };
        programs = s.later;
      })

  pub good-where-it-fits : (p : Progress S) (es : List Entry) → HaveBudgetLeft m p.replays → All (IsOfBoards (length p.replays)) es → IsGood (judged_from m p es) ↔ MayStand m p es
  good-where-it-fits p es left of = (good_stands p es left of, stands_good p es left of)
