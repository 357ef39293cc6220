-- Own steps: events one after another.
use Rattle.std.proofs.Common.{true, ◌∷◌, ◌++◌, ◌≡◌, ◌∙◌, ℕ, zero, suc, ◌+◌, ◌<◌, ◌≤◌, ap, sym, refl, subst, List, [], Some, None, arith, append-nil}
use Rattle.std.proofs.lemmas.List.{append_assoc}
use Rattle.spur_flat.specs.declared.access.FaultKind.{FaultKind}
use Rattle.spur_flat.specs.declared.entry.Entry.{Entry}
use Rattle.spur_bus.specs.Calls.{cache_tags}
use Rattle.spur_cpu.specs.Meaning.{Meaning}
use Rattle.spur_board.specs.declared.board.Board.{Board}
use Rattle.spur_board.specs.declared.ending.Ending.TheVariants as ending
use Rattle.spur_board.specs.Own.{LedByEvents}
use Rattle.spur_board.specs.OwnLaws.{EventKeepsSound, EventsCount, FaultIsWithin, IsKept, StandingIsAStep, StepsChain, StepsKeep}
use Rattle.std.specs.List.{AllByRecursion}
use Rattle.spur_flat.specs.History.{is_own}
use Rattle.spur_cpu.specs.After.{Course, IsLed}
use Rattle.spur_cpu.specs.Onward.{carry_instruction}
use Rattle.spur_cpu.proofs.Instructions.{instruction-leads-on}
use Rattle.spur_board.specs.Boards.{course_now}
use Rattle.spur_board.specs.OwnLaws.{IsInstruction, LeadsOn, StepLeadsOn}
use Rattle.spur_board.proofs.CarryFacts.{event-is-an-instruction}
use Rattle.spur_board.proofs.EndingFacts.{some_none}
use Rattle.spur_board.proofs.EventFacts.{event_falls, event_going, event_kept, event_most, event_retired, event_sound}

module _ {C S : Type 0} (m : Meaning S) (state : C → S) (spare : C → ℕ) where
  pub events-count : EventsCount m state spare
  events-count zero old new is =
      let same : new.retired ≡ old.retired = ap (λ (b : Board C). b.retired) is in
      record { most = omega arith; going = λ none. omega arith }
  events-count (suc n) old new r =
      let mid : Board C = r.0 in
      let before = events-count n old mid r.1.before in
      let was : mid.retired ≡ old.retired + n = before.going (event_going m state spare mid new r.1.event) in
      let most = event_most m state spare mid new r.1.event in
      record { most = omega arith; going = λ none. (let more = event_retired m state spare mid new r.1.event none in omega arith) }

  -- own steps
  pub standing-is-a-step : StandingIsAStep m state spare
  standing-is-a-step i b number sound = record { number = number; sound = sound; count = 0; follows = refl }

  pub event-keeps-sound : EventKeepsSound m state spare
  event-keeps-sound old new sound event = event_sound m state spare old new sound event

  follow_on : (n k : ℕ) (old mid new : Board C) → LedByEvents m state spare n old mid → LedByEvents m state spare k mid new → LedByEvents m state spare (k + n) old new
  follow_on n zero old mid new a b = let none : 0 + n ≡ n = omega arith in subst (λ (j : ℕ). LedByEvents m state spare j old new) (sym none) (subst (λ (x : Board C). LedByEvents m state spare n old x) (sym b) a)
  follow_on n (suc k) old mid new a b = let more : suc k + n ≡ suc (k + n) = omega arith in
      subst (λ (j : ℕ). LedByEvents m state spare j old new) (sym more) (b.0, record { before = follow_on n k old mid b.0 a b.1.before; event = b.1.event })

  pub steps-chain : StepsChain m state spare
  steps-chain i old mid new a b = record { number = a.number; sound = a.sound; count = b.count + a.count; follows = follow_on a.count b.count old mid new a.follows b.follows }

  follows_kept : (n : ℕ) (old new : Board C) → LedByEvents m state spare n old new → IsKept m state spare old new
  follows_kept zero old new is = record {
    number = ap (λ (b : Board C). b.number) is;
    segs = ap (λ (b : Board C). b.segs) is;
    budget = ap (λ (b : Board C). b.budget) is;
    tags = ap (λ (b : Board C). cache_tags b.cache) is;
    more = [];
    log = ap (λ (b : Board C). b.log.entries) is ∙ sym (append-nil old.log.entries);
  }
  follows_kept (suc n) old new r =
      let a = follows_kept n old r.0 r.1.before in
      let b = event_kept m state spare r.0 new r.1.event in
      record {
        number = b.number ∙ a.number;
        segs = b.segs ∙ a.segs;
        budget = b.budget ∙ a.budget;
        tags = b.tags ∙ a.tags;
        more = a.more ++ b.more;
        log = b.log ∙ ap (λ (es : List Entry). es ++ b.more) a.log ∙ append_assoc old.log.entries a.more b.more;
      }

  pub steps-keep : StepsKeep m state spare
  steps-keep i old new step = follows_kept step.count old new step.follows

  falls_within : (n at_most : ℕ) (old new : Board C) (kind : FaultKind) (at : ℕ) → LedByEvents m state spare n old new → n ≤ at_most → old.ended ≡ None → new.ended ≡ Some (ending.Faulted kind at) → new.retired < old.retired + at_most
  falls_within zero at_most old new kind at is few none ended = absurd (some_none (sym ended ∙ ap (λ (b : Board C). b.ended) is ∙ none))
  falls_within (suc n) at_most old new kind at r few none ended =
      let was : r.0.retired ≡ old.retired + n = (events-count n old r.0 r.1.before).going (event_going m state spare r.0 new r.1.event) in
      let same : new.retired ≡ r.0.retired = event_falls m state spare r.0 new kind at r.1.event ended in
      omega arith

  pub fault-is-within : FaultIsWithin m state spare
  fault-is-within at_most old new result kind at turned none ended = falls_within turned.step.count at_most old new kind at turned.step.follows turned.few none ended

  all_append : (P : Entry → Type 0) (first second : List Entry) → AllByRecursion P first → AllByRecursion P second → AllByRecursion P (first ++ second)
  all_append P [] second a b = b
  all_append P (e ∷ rest) second a b = (a.0, all_append P rest second a.1 b)

  follows_lead : (n : ℕ) (c : Course S) (es : List Entry) (old new : Board C) → LedByEvents m state spare n old new → IsLed m old.segs old.budget c es (course_now m state old) → LeadsOn m state spare c es old new
  follows_lead zero c es old new is led = record {
    logged = [];
    log = ap (λ (b : Board C). b.log.entries) is ∙ sym (append-nil old.log.entries);
    own = tt;
    led = subst (λ (b : Board C). IsLed m old.segs old.budget c (es ++ []) (course_now m state b)) (sym is)
        (subst (λ (l : List Entry). IsLed m old.segs old.budget c l (course_now m state old)) (sym (append-nil es)) led);
  }
  follows_lead (suc n) c es old new r led =
      let mid : Board C = r.0 in
      let before : LeadsOn m state spare c es old mid = follows_lead n c es old mid r.1.before led in
      let kept = follows_kept n old mid r.1.before in
      let one : IsInstruction m state spare mid new = event-is-an-instruction m state spare mid new r.1.event in
      let carried : carry_instruction m old.segs old.budget (course_now m state mid) one.logged ≡ Some (course_now m state new) =
      subst (λ (k : ℕ). carry_instruction m old.segs k (course_now m state mid) one.logged ≡ Some (course_now m state new)) kept.budget
      (subst (λ (segs : List ℕ). carry_instruction m segs mid.budget (course_now m state mid) one.logged ≡ Some (course_now m state new)) kept.segs one.carried) in
      record {
        logged = before.logged ++ one.logged;
        log = one.log ∙ ap (λ (l : List Entry). l ++ one.logged) before.log ∙ append_assoc old.log.entries before.logged one.logged;
        own = all_append (λ e. is_own old.number e ≡ true) before.logged one.logged before.own
            (subst (λ (k : ℕ). AllByRecursion (λ e. is_own k e ≡ true) one.logged) kept.number one.own);
        led = subst (λ (l : List Entry). IsLed m old.segs old.budget c l (course_now m state new)) (append_assoc es before.logged one.logged)
            (instruction-leads-on m old.segs old.budget c (course_now m state mid) (course_now m state new) (es ++ before.logged) one.logged before.led carried);
      }

  pub step-leads-on : StepLeadsOn m state spare
  step-leads-on i c es old new step led = follows_lead step.count c es old new step.follows led
