-- A board takes an instruction by its own entries, wherever these stand in the history with the logs.
use Rattle.std.proofs.Common.{◌≡◌, ◌≢◌, ◌∙◌, ℕ, zero, suc, ◌+◌, ◌<◌, Bool, if◌then◌else◌, ap, sym, refl, subst, List, [], ◌∷◌, ◌++◌, Some, arith, append-nil}
use Rattle.std.specs.Prelude.{slice_get}
use Rattle.std.specs.List.{AllByRecursion}
use Rattle.std.proofs.Math.ListN.{set}
use Rattle.std.proofs.lemmas.List.{append_assoc, map-set}
use Rattle.spur_flat.specs.declared.entry.Entry.{Entry}
use Rattle.spur_flat.specs.Blocks.{board_of}
use Rattle.spur_flat.specs.History.{own_entries}
use Rattle.spur_flat.proofs.HistoryFacts.{own_entries-append}
use Rattle.spur_cpu.specs.Meaning.{Meaning}
use Rattle.spur_commute.specs.Logs.{IsLogOf, joined_logs}
use Rattle.spur_board.specs.declared.board.Board.{Board}
use Rattle.spur_board.specs.Boards.{course_now}
use Rattle.spur_board.specs.Own.{OwnEvent}
use Rattle.spur_board.specs.OwnLaws.{IsInstruction, IsKept}
use Rattle.spur_board.proofs.CarryFacts.{event-is-an-instruction}
use Rattle.spur_board.proofs.EventFacts.{event_going, event_kept}
use Rattle.spur_core.specs.Boards.{is_swapped, logs_of, whole}
use Rattle.spur_core.specs.Own.{EventsTakeInstructions}
use Rattle.spur_core.specs.Step.{Carried, StepsTakeInstructions, runner_of}
use Rattle.spur_core.proofs.GoodFacts.{own_other}
use Rattle.spur_core.proofs.OwnEventFacts.{event_unswapped}
use Rattle.spur_core.proofs.OwnLogFacts.{logged_own, own_all, own_boards}

-- entries of one board are no other's own
pub none_own : (b i : ℕ) (es : List Entry) → AllByRecursion (λ (e : Entry). board_of e ≡ b) es → i ≢ b → own_entries es i ≡ []
none_own b i [] all apart = refl
none_own b i (e ∷ es) all apart = ap (λ (t : Bool). if t then e ∷ own_entries es i else own_entries es i) (own_other e b i all.0 apart) ∙ none_own b i es all.1 apart

-- each log has its board's own entries alone, where the first board has the number k
record AreTheirs {C : Type 0} (k : ℕ) (bs : List (Board C)) : Type 0 where
  each : (i : ℕ) (c : Board C) → slice_get bs i ≡ Some c → IsLogOf (k + i) c.log.entries

first_theirs : {C : Type 0} (k : ℕ) (z : Board C) (zs : List (Board C)) → AreTheirs k (z ∷ zs) → IsLogOf k z.log.entries
first_theirs k z zs theirs = let same : k + 0 ≡ k = omega arith in subst (λ (n : ℕ). IsLogOf n z.log.entries) same (theirs.each 0 z refl)

rest_theirs : {C : Type 0} (k : ℕ) (z : Board C) (zs : List (Board C)) → AreTheirs k (z ∷ zs) → AreTheirs (k + 1) zs
rest_theirs k z zs theirs = record {
  each = λ i c at. let same : k + suc i ≡ (k + 1) + i = omega arith in subst (λ (n : ℕ). IsLogOf n c.log.entries) same (theirs.each (suc i) c at);
}

-- the boards from k on have no entry of one before these
none_behind : {C : Type 0} (bs : List (Board C)) (k b : ℕ) → AreTheirs k bs → b < k → own_entries (joined_logs (logs_of bs)) b ≡ []
none_behind [] k b theirs less = refl
none_behind (z ∷ zs) k b theirs less =
    own_entries-append z.log.entries (joined_logs (logs_of zs)) b
    ∙ ap (λ (es : List Entry). es ++ own_entries (joined_logs (logs_of zs)) b) (none_own k b z.log.entries (own_boards k z.log.entries (first_theirs k z zs theirs)) (λ h. absurd (omega arith)))
    ∙ none_behind zs (k + 1) b (rest_theirs k z zs theirs) (omega arith)

-- the log of one board has grown: so have its own entries
own_grows : {C : Type 0} (bs : List (Board C)) (k b n : ℕ) (x y : Board C) (logged : List Entry) → AreTheirs k bs → slice_get bs b ≡ Some x → n ≡ k + b → y.log.entries ≡ x.log.entries ++ logged → IsLogOf n logged
    → own_entries (joined_logs (logs_of (set bs b y))) n ≡ own_entries (joined_logs (logs_of bs)) n ++ logged
own_grows [] k b n x y logged theirs there is log own = absurd cc
own_grows {C} (z ∷ zs) k zero n x y logged theirs there is log own =
    let same : z ≡ x = cc in
    let rest : List Entry = joined_logs (logs_of zs) in
    let none : own_entries rest n ≡ [] = none_behind zs (k + 1) n (rest_theirs k z zs theirs) (omega arith) in
    let mine : own_entries y.log.entries n ≡ own_entries z.log.entries n ++ logged =
    ap (λ (es : List Entry). own_entries es n) (log ∙ ap (λ (c : Board C). c.log.entries ++ logged) (sym same)) ∙ own_entries-append z.log.entries logged n
    ∙ ap (λ (es : List Entry). own_entries z.log.entries n ++ es) (own_all n logged own) in
    own_entries-append y.log.entries rest n
    ∙ ap (λ (es : List Entry). own_entries y.log.entries n ++ es) none ∙ append-nil (own_entries y.log.entries n) ∙ mine
    ∙ ap (λ (es : List Entry). es ++ logged) (sym (own_entries-append z.log.entries rest n ∙ ap (λ (es : List Entry). own_entries z.log.entries n ++ es) none ∙ append-nil (own_entries z.log.entries n)))
own_grows (z ∷ zs) k (suc b) n x y logged theirs there is log own =
    let before : List Entry = own_entries z.log.entries n in
    own_entries-append z.log.entries (joined_logs (logs_of (set zs b y))) n
    ∙ ap (λ (es : List Entry). before ++ es) (own_grows zs (k + 1) b n x y logged (rest_theirs k z zs theirs) there (omega arith) log own)
    ∙ sym (append_assoc before (own_entries (joined_logs (logs_of zs)) n) logged)
    ∙ ap (λ (es : List Entry). es ++ logged) (sym (own_entries-append z.log.entries (joined_logs (logs_of zs)) n))

-- and those of no other board
own_stays : {C : Type 0} (bs : List (Board C)) (b i : ℕ) (x y : Board C) (logged : List Entry) → slice_get bs b ≡ Some x → y.log.entries ≡ x.log.entries ++ logged → own_entries logged i ≡ []
    → own_entries (joined_logs (logs_of (set bs b y))) i ≡ own_entries (joined_logs (logs_of bs)) i
own_stays [] b i x y logged there log none = absurd cc
own_stays {C} (z ∷ zs) zero i x y logged there log none =
    let same : z ≡ x = cc in
    let rest : List Entry = joined_logs (logs_of zs) in
    let mine : own_entries y.log.entries i ≡ own_entries z.log.entries i =
    ap (λ (es : List Entry). own_entries es i) (log ∙ ap (λ (c : Board C). c.log.entries ++ logged) (sym same)) ∙ own_entries-append z.log.entries logged i
    ∙ ap (λ (es : List Entry). own_entries z.log.entries i ++ es) none ∙ append-nil (own_entries z.log.entries i) in
    own_entries-append y.log.entries rest i ∙ ap (λ (es : List Entry). es ++ own_entries rest i) mine ∙ sym (own_entries-append z.log.entries rest i)
own_stays (z ∷ zs) (suc b) i x y logged there log none =
    own_entries-append z.log.entries (joined_logs (logs_of (set zs b y))) i
    ∙ ap (λ (es : List Entry). own_entries z.log.entries i ++ es) (own_stays zs b i x y logged there log none)
    ∙ sym (own_entries-append z.log.entries (joined_logs (logs_of zs)) i)

module _ {C S : Type 0} (m : Meaning S) (state : C → S) (spare : C → ℕ) where
  pub events-take-instructions : {B : Type 0} → EventsTakeInstructions m state spare B
  events-take-instructions store boards b x y logs there number event =
      let is : IsInstruction m state spare x y = event-is-an-instruction m state spare x y event in
      let kept : IsKept m state spare x y = event_kept m state spare x y event in
      let logged : List Entry = is.logged in
      let h : List Entry = store.history.entries in
      let olds : List Entry = joined_logs (logs_of boards) in
      let news : List Entry = joined_logs (logs_of (set boards b y)) in
      let own : IsLogOf b logged = subst (λ (i : ℕ). IsLogOf i logged) number is.own in
      let on : is_swapped y.ended ≡ is_swapped x.ended = event_unswapped m state spare x y event ∙ sym (ap is_swapped (event_going m state spare x y event)) in
      let theirs : AreTheirs 0 boards = record { each = λ i c at. let same : i ≡ 0 + i = omega arith in subst (λ (n : ℕ). IsLogOf n c.log.entries) same (logged_own i c.log.entries (logs.each i c at).entries) } in
      record {
        own = logged;
        mine = own_entries-append h news b
            ∙ ap (λ (es : List Entry). own_entries h b ++ es) (own_grows boards 0 b b x y logged theirs there (omega arith) is.log own)
            ∙ sym (append_assoc (own_entries h b) (own_entries olds b) logged)
            ∙ ap (λ (es : List Entry). es ++ logged) (sym (own_entries-append h olds b));
        others = λ i apart. own_entries-append h news i
            ∙ ap (λ (es : List Entry). own_entries h i ++ es) (own_stays boards b i x y logged there is.log (none_own b i logged (own_boards b logged own) apart))
            ∙ sym (own_entries-append h olds i);
        old = x;
        there = there;
        new = y;
        takes = Carried is.carried (λ k. record { segs = kept.segs k; budget = kept.budget k; course = course_now m state y; swapped = on k });
        boards = map-set (runner_of m state) boards b y;
      }

module _ {C S : Type 0} (m : Meaning S) (state : C → S) where
  pub steps-take-instructions : StepsTakeInstructions m state
  steps-take-instructions b before after olds news s = record {
    own = own_entries s.entries b;
    mine = ap (λ (es : List Entry). own_entries es b) s.history ∙ own_entries-append before s.entries b;
    others = λ i apart. ap (λ (es : List Entry). own_entries es i) s.history ∙ own_entries-append before s.entries i
        ∙ ap (λ (es : List Entry). own_entries before i ++ es) (none_own b i s.entries s.turns apart) ∙ append-nil (own_entries before i);
    old = s.old;
    there = s.there;
    new = s.new;
    takes = s.takes;
    boards = s.boards;
  }
