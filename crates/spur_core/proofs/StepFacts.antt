-- What a board's instruction comes to, over its program alone.
use Rattle.std.proofs.Common.{◌≡◌, ◌≢◌, ◌∙◌, ℕ, zero, suc, ◌+◌, ◌<◌, ◌&&◌, ◌==◌, Bool, true, false, if◌then◌else◌, ap, sym, refl, subst, List, [], ◌∷◌, ◌++◌, length, Option, Some, None, arith, append-nil, ◌⊎◌, inl, inr}
use Rattle.std.specs.Prelude.{option_and_then, slice_get}
use Rattle.std.specs.List.{AllByRecursion}
use Rattle.std.proofs.Math.ListN.{set}
use Rattle.spur_flat.specs.declared.access.AccessKind.{AccessKind}
use Rattle.spur_flat.specs.declared.access.FaultKind.{FaultKind}
use Rattle.spur_flat.specs.declared.access.FaultKind.TheVariants as fault
use Rattle.spur_flat.specs.declared.entry.Entry.{Entry}
use Rattle.spur_flat.specs.declared.entry.Entry.TheVariants as entry
use Rattle.spur_flat.specs.Blocks.{board_of}
use Rattle.spur_flat.specs.History.{is_own, own_entries}
use Rattle.spur_flat.proofs.HistoryFacts.{own_entries-append}
use Rattle.spur_cpu.specs.declared.cpu.Want.{Want}
use Rattle.spur_cpu.specs.declared.cpu.Want.TheVariants.{Access, Ended, Local}
use Rattle.spur_cpu.specs.Meaning.{Meaning, is_ending}
use Rattle.spur_cpu.specs.After.{Course, Stop, carry_access, carry_entry, carry_want, same_access, stop}
use Rattle.spur_cpu.specs.Onward.{carry_instruction, carry_tries, is_answer}
use Rattle.spur_pager.specs.View.{View}
use Rattle.spur_board.specs.declared.board.Board.{Board}
use Rattle.spur_board.specs.declared.ending.Ending.{Ending}
use Rattle.spur_board.specs.declared.ending.Ending.TheVariants as ending
use Rattle.spur_board.specs.Boards.{Asks, course_ending, course_now}
use Rattle.spur_core.specs.Boards.{is_swapped}
use Rattle.spur_core.specs.Comes.{IsOfTurn, IsServedFault}
use Rattle.spur_core.specs.Programs.{EndsInSwap}
use Rattle.spur_core.specs.Step.{Carried, EndsWithAnswer, HasNone, IsStepped, LeavesStanding, LocalStepsLeaveTheHistory, OwnIsLast, Runner, Swapped, TakesInstruction, runner_of, runners_of}
use Rattle.spur_core.specs.Takes.{Acts, IsAsking, OnlyItsLines}
use Rattle.spur_core.proofs.AskFacts.{some_at}
use Rattle.spur_commute.proofs.LogFacts.{all_append}
use Rattle.spur_core.proofs.ComesFacts.{own_one}
use Rattle.spur_core.proofs.CourseFacts.{fault_stays}
use Rattle.spur_core.proofs.TakesFacts.{one_at}

pub of_board : (b n : ℕ) (es : List Entry) → AllByRecursion (IsOfTurn b n) es → AllByRecursion (λ (e : Entry). board_of e ≡ b) es
of_board b n [] all = tt
of_board b n (e ∷ es) all = (all.0.board, of_board b n es all.1)

-- two lists of one element that end alike
last_one : (before : List Entry) (e f : Entry) → e ∷ [] ≡ before ++ f ∷ [] → e ≡ f
last_one [] e f h = cc
last_one (x ∷ []) e f h = cc
last_one (x ∷ y ∷ ys) e f h = cc

module _ {C S : Type 0} (m : Meaning S) (state : C → S) (spare : C → ℕ) where
  -- an entry that is no answer leaves its board where it is
  stays_by : (c d : Course S) (t : Bool) (k : FaultKind) (x : Course S) → is_ending k ≡ false → ◌≡◌ {A = Option (Course S)} (if t then (if is_ending k then Some x else Some c) else None) (Some d) → d ≡ c
  stays_by c d false k x served h = cc
  stays_by c d true k x served h =
      let is : ◌≡◌ {A = Option (Course S)} (Some c) (Some d) = sym (ap (λ (u : Bool). if u then Some x else Some c) served) ∙ h in
      cc

  access_stays : (segs : List ℕ) (budget : ℕ) (c d : Course S) (kind : AccessKind) (at value : ℕ) (e : Entry) → is_answer e ≡ false → carry_access m segs budget c kind at value e ≡ Some d → d ≡ c
  access_stays segs budget c d kind at value (entry.Load board a v) unanswered h = cc
  access_stays segs budget c d kind at value (entry.Store board a v) unanswered h = cc
  access_stays segs budget c d kind at value (entry.Tas board a v) unanswered h = cc
  access_stays segs budget c d kind at value (entry.Fault board k w a) unanswered h = stays_by c d (same_access kind w && a == at) k (stop m segs budget c k a) unanswered h
  access_stays segs budget c d kind at value e unanswered h = cc

  want_stays : (segs : List ℕ) (budget : ℕ) (c d : Course S) (want : Want) (ended : Option Stop) (e : Entry) → is_answer e ≡ false → carry_want m segs budget c want ended e ≡ Some d → d ≡ c
  want_stays segs budget c d (Access kind va value) None e unanswered h = access_stays segs budget c d kind _ value e unanswered h
  want_stays segs budget c d (Access kind va value) (Some why) e unanswered h = cc
  want_stays segs budget c d Local ended e unanswered h = cc
  want_stays segs budget c d Ended ended e unanswered h = cc

  -- a fault after which the access is tried again
  record IsTried (segs : List ℕ) (budget : ℕ) (c : Course S) (f : Entry) : Type 0 where
    pub unanswered : is_answer f ≡ false
    pub stays : carry_entry m segs budget c f ≡ Some c

  tried_first : (segs : List ℕ) (budget : ℕ) (c : Course S) (f x : Entry) (xs : List Entry) → IsTried segs budget c f → carry_tries m segs budget c f (x ∷ xs) ≡ carry_tries m segs budget c x xs
  tried_first segs budget c f x xs t =
      ap (λ (s : Bool). if s then None else option_and_then (λ (d : Course S). carry_tries m segs budget d x xs) (carry_entry m segs budget c f)) t.unanswered
      ∙ ap (option_and_then (λ (d : Course S). carry_tries m segs budget d x xs)) t.stays

  tries : (segs : List ℕ) (budget : ℕ) (c d : Course S) (faults : List Entry) (e : Entry) → AllByRecursion (IsTried segs budget c) faults → is_answer e ≡ true → carry_entry m segs budget c e ≡ Some d
      → carry_instruction m segs budget c (faults ++ e ∷ []) ≡ Some d
  tries segs budget c d [] e all answer carried = ap (λ (s : Bool). if s then carry_entry m segs budget c e else None) answer ∙ carried
  tries segs budget c d (f ∷ []) e all answer carried = tried_first segs budget c f e [] all.0 ∙ tries segs budget c d [] e tt answer carried
  tries segs budget c d (f ∷ (g ∷ gs)) e all answer carried = tried_first segs budget c f g (gs ++ e ∷ []) all.0 ∙ tries segs budget c d (g ∷ gs) e all.1 answer carried

  served_all : (b at value : ℕ) (kind : AccessKind) (x : Board C) (es : List Entry) → Asks m state spare b kind at value x → AllByRecursion (IsServedFault b at kind) es → AllByRecursion (IsTried x.segs x.budget (course_now m state x)) es
  served_all b at value kind x [] asks all = tt
  served_all b at value kind x (e ∷ es) asks all = (
    record { unanswered = ap is_answer all.0.is ∙ all.0.served; stays = fault_stays m state spare b at value kind x e asks all.0 },
    served_all b at value kind x es asks all.1,
  )

  standing_all : (x : Board C) (es : List Entry) → AllByRecursion (IsTried x.segs x.budget (course_now m state x)) es → AllByRecursion (LeavesStanding m (runner_of m state x)) es
  standing_all x [] all = tt
  standing_all x (e ∷ es) all = (all.0.stays, standing_all x es all.1)

  -- the board took its access
  record IsOneMore (b at value : ℕ) (kind : AccessKind) (x y : Board C) (own faults : List Entry) (e : Entry) : Type 0 where
    pub asks : Asks m state spare b kind at value x
    pub own_is : own ≡ faults ++ e ∷ []
    pub served : AllByRecursion (IsServedFault b at kind) faults
    pub segs : y.segs ≡ x.segs
    pub budget : y.budget ≡ x.budget
    pub moved : y.ended ≡ None → y.retired ≡ x.retired + 1
    pub carried : carry_entry m x.segs x.budget (course_now m state x) e ≡ Some (course_now m state y)
    pub swapped : y.ended ≡ Some ending.SwapFault → EndsInSwap m state spare y (e ∷ [])

  carried_one : (b at value : ℕ) (kind : AccessKind) (x y : Board C) (own faults : List Entry) (e : Entry) (answer : Bool) → is_answer e ≡ answer → IsOneMore b at value kind x y own faults e → is_swapped y.ended ≡ false
      → (course_now m state y ≡ course_now m state x → ⊥) → TakesInstruction m (runner_of m state x) own (runner_of m state y)
  carried_one b at value kind x y own faults e true answer one unswapped moves =
      Carried (ap (carry_instruction m x.segs x.budget (course_now m state x)) one.own_is
      ∙ tries x.segs x.budget (course_now m state x) (course_now m state y) faults e (served_all b at value kind x faults one.asks one.served) answer one.carried)
      (λ k. record { segs = one.segs k; budget = one.budget k; course = course_now m state y; swapped = (unswapped ∙ sym (ap is_swapped one.asks.going.not_ended)) k })
  carried_one b at value kind x y own faults e false answer one unswapped moves =
      absurd (moves (want_stays x.segs x.budget (course_now m state x) (course_now m state y) (m.wants (state x.cpu)) (course_ending x.ended) e answer one.carried))

  taken_one : (b at value : ℕ) (kind : AccessKind) (x y : Board C) (o : Option Ending) (own faults : List Entry) (e : Entry) → y.ended ≡ o → IsOneMore b at value kind x y own faults e
      → TakesInstruction m (runner_of m state x) own (runner_of m state y)
  taken_one b at value kind x y None own faults e is one =
      carried_one b at value kind x y own faults e (is_answer e) refl one (ap is_swapped is)
      (λ h. let r : y.retired ≡ x.retired = ap (λ (c : Course S). c.retired) h in let q = one.moved is in omega arith)
  taken_one b at value kind x y (Some ending.SwapFault) own faults e is one =
      let s = one.swapped is in
      let last : e ≡ entry.Fault y.number s.kind s.access _ = last_one s.before e _ s.last in
      let unanswered : is_answer e ≡ false = ap is_answer last ∙ asked_kind s.kind s.asked in
      let stays : course_now m state y ≡ course_now m state x = want_stays x.segs x.budget (course_now m state x) (course_now m state y) (m.wants (state x.cpu)) (course_ending x.ended) e unanswered one.carried in
      Swapped faults e one.own_is
      (subst (λ (es : List Entry). AllByRecursion (LeavesStanding m (runner_of m state x)) es) (sym one.own_is) (all_append (LeavesStanding m (runner_of m state x)) faults (e ∷ [])
      (standing_all x faults (served_all b at value kind x faults one.asks one.served)) (one.carried ∙ ap (λ (c : Course S). Some c) stays, tt)))
      (λ k. record { segs = one.segs k; budget = one.budget k; course = stays k; swapped = ap is_swapped is k })
    where
      asked_kind : (why : FaultKind) → (why ≡ fault.Missing) ⊎ (why ≡ fault.Leaving) → is_ending why ≡ false
      asked_kind why (inl is) = ap is_ending is
      asked_kind why (inr is) = ap is_ending is
  taken_one b at value kind x y (Some ending.Halted) own faults e is one =
      carried_one b at value kind x y own faults e (is_answer e) refl one (ap is_swapped is)
      (λ h. let r : course_ending y.ended ≡ course_ending x.ended = ap (λ (c : Course S). c.ending) h in let p = one.asks.going.not_ended in cc)
  taken_one b at value kind x y (Some (ending.Faulted why g)) own faults e is one =
      carried_one b at value kind x y own faults e (is_answer e) refl one (ap is_swapped is)
      (λ h. let r : course_ending y.ended ≡ course_ending x.ended = ap (λ (c : Course S). c.ending) h in let p = one.asks.going.not_ended in cc)
  taken_one b at value kind x y (Some ending.Spent) own faults e is one =
      carried_one b at value kind x y own faults e (is_answer e) refl one (ap is_swapped is)
      (λ h. let r : course_ending y.ended ≡ course_ending x.ended = ap (λ (c : Course S). c.ending) h in let p = one.asks.going.not_ended in cc)

  -- no other board goes on
  lines_only : (olds : List (Board C)) (o n : Board C) (i : ℕ) → slice_get olds i ≡ Some o → OnlyItsLines olds i n → runner_of m state n ≡ runner_of m state o
  lines_only olds o n i at only =
      let same : only.old ≡ o = one_at olds i only.old o only.there at in
      ap (runner_of m state) only.is ∙ ap (runner_of m state) same

  all_same : (olds news : List (Board C)) → length news ≡ length olds → ((i : ℕ) (x : Board C) → slice_get news i ≡ Some x → OnlyItsLines olds i x) → runners_of m state news ≡ runners_of m state olds
  all_same [] [] count h = refl
  all_same [] (n ∷ ns) count h = absurd (omega arith)
  all_same (o ∷ os) [] count h = absurd (omega arith)
  all_same (o ∷ os) (n ∷ ns) count h =
      let head = lines_only (o ∷ os) o n 0 refl (h 0 n refl) in
      let rest = all_same os ns (omega arith) (λ i x at. let r = h (suc i) x at in record { old = r.old; there = r.there; is = r.is }) in
      λ k. head k ∷ rest k

  runners_set : (olds news : List (Board C)) (b : ℕ) (y : Board C) → length news ≡ length olds → slice_get news b ≡ Some y → ((i : ℕ) (x : Board C) → i ≢ b → slice_get news i ≡ Some x → OnlyItsLines olds i x)
      → runners_of m state news ≡ set (runners_of m state olds) b (runner_of m state y)
  runners_set [] [] b y count at h = absurd cc
  runners_set [] (n ∷ ns) b y count at h = absurd (omega arith)
  runners_set (o ∷ os) [] b y count at h = absurd (omega arith)
  runners_set (o ∷ os) (n ∷ ns) zero y count at h =
      let head : n ≡ y = cc in
      let rest = all_same os ns (omega arith) (λ i x e. let r = h (suc i) x (λ q. absurd (omega arith)) e in record { old = r.old; there = r.there; is = r.is }) in
      λ k. runner_of m state (head k) ∷ rest k
  runners_set (o ∷ os) (n ∷ ns) (suc b) y count at h =
      let head = lines_only (o ∷ os) o n 0 refl (h 0 n (λ q. absurd (omega arith)) refl) in
      let rest = runners_set os ns b y (omega arith) at (λ i x d e. let r = h (suc i) x (λ q. d (omega arith)) e in record { old = r.old; there = r.there; is = r.is }) in
      λ k. head k ∷ rest k

  pub stepped_of : (b at value : ℕ) (kind : AccessKind) (w v : View) (olds news : List (Board C)) → length news ≡ length olds → b < length olds
      → IsAsking m state spare olds b kind at value → Acts m state spare b at kind w v olds news → IsStepped m state b w.history v.history olds news
  stepped_of b at value kind w v olds news same within asking acts =
      let comes = acts.comes in
      let y = some_at news b (omega arith) in
      let t = acts.mine y.x y.there in
      record {
        entries = acts.entries;
        history = comes.history;
        turns = of_board b (length w.caches) acts.entries comes.turns;
        old = t.old;
        there = t.there;
        new = y.x;
        takes = taken_one b at value kind t.old y.x y.x.ended (own_entries acts.entries b) acts.faults acts.last refl (record {
          asks = asking.asks t.old t.there;
          own_is = comes.own;
          served = comes.served;
          segs = t.segs;
          budget = t.budget;
          moved = t.moved;
          carried = t.carried;
          swapped = t.swapped;
        });
        reaches = acts.reaches y.x y.there;
        boards = runners_set olds news b y.x same y.there acts.others;
      }

-- an own entry that is last is one of the own entries
own_not_none : (b : ℕ) (es front : List Entry) (e : Entry) → es ≡ front ++ e ∷ [] → is_own b e ≡ true → own_entries es b ≡ [] → ⊥
own_not_none b es front e last own none =
    let parts : own_entries front b ++ e ∷ [] ≡ [] = ap (λ (o : List Entry). own_entries front b ++ o) (sym (own_one b e own)) ∙ sym (own_entries-append front (e ∷ []) b) ∙ ap (λ (l : List Entry). own_entries l b) (sym last) ∙ none in
    never (own_entries front b) parts
  where
    never : (os : List Entry) → os ++ e ∷ [] ≡ [] → ⊥
    never [] h = cc
    never (o ∷ os) h = cc

none_behind : (b : ℕ) (es : List Entry) → EndsWithAnswer b es → own_entries es b ≡ [] → es ≡ []
none_behind b es (HasNone is) none = is
none_behind b es (OwnIsLast front e last own) none = absurd (own_not_none b es front e last own none)

module _ {C S : Type 0} (m : Meaning S) (state : C → S) where
  -- no entry fits a board that wants a local instruction
  fits_none : (x : Board C) (e : Entry) → m.wants (state x.cpu) ≡ Local → carry_entry m x.segs x.budget (course_now m state x) e ≡ None
  fits_none x e local = ap (λ (w : Want). carry_want m x.segs x.budget (course_now m state x) w (course_ending x.ended) e) local

  tries_none : (x : Board C) (e : Entry) (es : List Entry) (t : Bool) → is_answer e ≡ t → m.wants (state x.cpu) ≡ Local → carry_tries m x.segs x.budget (course_now m state x) e es ≡ None
  tries_none x e [] true is local = ap (λ (s : Bool). if s then carry_entry m x.segs x.budget (course_now m state x) e else None) is ∙ fits_none x e local
  tries_none x e [] false is local = ap (λ (s : Bool). if s then carry_entry m x.segs x.budget (course_now m state x) e else None) is
  tries_none x e (f ∷ fs) true is local =
      ap (λ (s : Bool). if s then None else option_and_then (λ (d : Course S). carry_tries m x.segs x.budget d f fs) (carry_entry m x.segs x.budget (course_now m state x) e)) is
  tries_none x e (f ∷ fs) false is local =
      ap (λ (s : Bool). if s then None else option_and_then (λ (d : Course S). carry_tries m x.segs x.budget d f fs) (carry_entry m x.segs x.budget (course_now m state x) e)) is
      ∙ ap (option_and_then (λ (d : Course S). carry_tries m x.segs x.budget d f fs)) (fits_none x e local)

  -- so its instruction has no entry of its own, and the swap does not end it
  record IsLocalStep (y : Board C) (own : List Entry) : Type 0 where
    pub none : own ≡ []
    pub unswapped : is_swapped y.ended ≡ false

  local_step : (x y : Board C) (own : List Entry) → x.ended ≡ None → m.wants (state x.cpu) ≡ Local → TakesInstruction m (runner_of m state x) own (runner_of m state y) → IsLocalStep y own
  local_step x y [] going local (Carried carried is) = record { none = refl; unswapped = ap (λ (r : Runner S). r.swapped) is ∙ ap is_swapped going }
  local_step x y (e ∷ es) going local (Carried carried is) = let fits = tries_none x e es (is_answer e) refl local in absurd (cc)
  local_step x y [] going local (Swapped [] e last all is) = absurd (cc)
  local_step x y [] going local (Swapped (f ∷ fs) e last all is) = absurd (cc)
  local_step x y (e ∷ es) going local (Swapped faults f last all is) = let fits = fits_none x e local in let stands = all.0 in absurd (cc)

  pub local-steps-leave-the-history : LocalStepsLeaveTheHistory m state
  local-steps-leave-the-history b before after olds news x there going local s =
      let same : s.old ≡ x = one_at olds b s.old x s.there there in
      let step : IsLocalStep s.new (own_entries s.entries b) =
      local_step s.old s.new (own_entries s.entries b) (ap (λ (z : Board C). z.ended) same ∙ going) (ap (λ (z : Board C). m.wants (state z.cpu)) same ∙ local) s.takes in
      s.history ∙ ap (λ (es : List Entry). before ++ es) (none_behind b s.entries (s.reaches step.unswapped) step.none) ∙ append-nil before
