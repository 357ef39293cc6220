-- An event carries the board's program on by one whole instruction.
use Rattle.std.proofs.Common.{◌≡◌, ◌∙◌, ℕ, ◌+◌, ◌&&◌, ◌==◌, Bool, true, false, if◌then◌else◌, ap, sym, refl, List, [], ◌∷◌, Option, Some, None, append-nil, eq-eqb}
use Rattle.spur_addr.specs.Address.{global_of}
use Rattle.spur_cache.specs.declared.line.Line.{Line}
use Rattle.spur_cache.specs.Lines.{found, word_in}
use Rattle.spur_flat.specs.declared.access.AccessKind.{AccessKind}
use Rattle.spur_flat.specs.declared.access.AccessKind.TheVariants as access
use Rattle.spur_flat.specs.declared.access.FaultKind.{FaultKind}
use Rattle.spur_flat.specs.declared.access.FaultKind.TheVariants as fault
use Rattle.spur_flat.specs.declared.entry.Entry.{Entry}
use Rattle.spur_flat.specs.declared.entry.Entry.TheVariants as entry
use Rattle.spur_flat.specs.History.{is_own}
use Rattle.spur_flat.specs.Past.{Past}
use Rattle.spur_cpu.specs.declared.cpu.Want.{Want}
use Rattle.spur_cpu.specs.declared.cpu.Want.TheVariants.{Access, Ended, Local}
use Rattle.spur_cpu.specs.declared.cpu.Answer.TheVariants.{Done}
use Rattle.spur_cpu.specs.Meaning.{Meaning, is_ending}
use Rattle.spur_cpu.specs.After.{Course, Spent, Stop, carry_access, carry_entry, carry_local, carry_want, ending_at, is_local, retire, same_access, stop}
use Rattle.spur_cpu.specs.Onward.{carry_instruction, is_answer}
use Rattle.spur_walk.specs.Laws.{done_entry}
use Rattle.spur_board.specs.declared.board.Board.{Board}
use Rattle.spur_board.specs.declared.ending.Ending.TheVariants as ending
use Rattle.spur_board.specs.Boards.{Asks, HasDone, HasFaulted, HasRan, IsGoing, course_ending, course_now, done_lines, done_value, ended_at}
use Rattle.spur_board.specs.Own.{ByFault, ByHit, ByItself, IsOwnFault}
use Rattle.spur_board.specs.OwnLaws.{EventIsAnInstruction}

pub same_self : (kind : AccessKind) → same_access kind kind ≡ true
same_self access.Load = refl
same_self access.Store = refl
same_self access.Tas = refl

pub both_true : (a b : Bool) → a ≡ true → b ≡ true → (a && b) ≡ true
both_true true true h k = refl
both_true true false h k = absurd cc
both_true false b h k = absurd cc

pub if_true : {A : Type 0} (b : Bool) (x y : A) → b ≡ true → (if b then x else y) ≡ x
if_true true x y h = refl
if_true false x y h = absurd cc

spent_too : (b : Bool) → course_ending (if b then Some ending.Spent else None) ≡ (if b then Some Spent else None)
spent_too true = refl
spent_too false = refl

-- the board's ending after a completed instruction is its program's
pub same_ending : (w : Want) (budget retired : ℕ) → course_ending (ended_at w budget retired) ≡ ending_at w budget retired
same_ending Ended budget retired = refl
same_ending Local budget retired = spent_too (retired == budget)
same_ending (Access kind va value) budget retired = spent_too (retired == budget)

-- an access that is done answers, and so does a fault that a board's own cache tells
done_answers : (kind : AccessKind) (b at word value : ℕ) → is_answer (done_entry kind b at word value) ≡ true
done_answers access.Load b at word value = refl
done_answers access.Store b at word value = refl
done_answers access.Tas b at word value = refl

done_own : (kind : AccessKind) (b at word value : ℕ) → is_own b (done_entry kind b at word value) ≡ true
done_own access.Load b at word value = eq-eqb b b refl
done_own access.Store b at word value = eq-eqb b b refl
done_own access.Tas b at word value = eq-eqb b b refl

pub own_fault_ends : (lines : List (Option Line)) (kind : AccessKind) (at : ℕ) (why : FaultKind) → IsOwnFault lines kind at why → is_ending why ≡ true
own_fault_ends lines kind at fault.Align cause = refl
own_fault_ends lines kind at fault.Protection cause = refl
own_fault_ends lines kind at why cause = absurd cause

module _ {C S : Type 0} (m : Meaning S) (state : C → S) (spare : C → ℕ) where
  -- the processor's want and the board's ending, read
  pub carry_reads : (segs : List ℕ) (budget : ℕ) (c : Course S) (kind : AccessKind) (va value : ℕ) (e : Entry) → m.wants c.cpu ≡ Access kind va value → c.ending ≡ None
      → carry_entry m segs budget c e ≡ carry_access m segs budget c kind (global_of segs va) value e
  carry_reads segs budget c kind va value e wants none = ap (λ (z : Want × Option Stop). carry_want m segs budget c z.0 z.1 e) (λ k. (wants k, none k))

  -- a local instruction
  pub ran_carried : (x y : Board C) → IsGoing m state spare x → m.wants (state x.cpu) ≡ Local → HasRan m state spare x y
      → carry_local m x.segs x.budget (course_now m state x) ≡ Some (course_now m state y)
  ran_carried x y going wants ran =
      let c : Course S = course_now m state x in
      let s : S = m.local (state x.cpu) in
      let none : course_ending x.ended ≡ None = ap course_ending going.not_ended in
      let ends : course_ending y.ended ≡ ending_at (m.wants s) x.budget (x.retired + 1) = ap course_ending ran.ended ∙ same_ending (m.wants s) x.budget (x.retired + 1) in
      let at : is_local m x.segs x.budget (m.wants (state x.cpu)) (course_ending x.ended) ≡ true = ap (λ (z : Want × Option Stop). is_local m x.segs x.budget z.0 z.1) (λ k. (wants k, none k)) in
      if_true (is_local m x.segs x.budget (m.wants (state x.cpu)) (course_ending x.ended)) (Some (retire m x.segs x.budget c s)) None at
      ∙ ap (λ (d : Course S). Some d) (λ k. record { cpu = sym ran.cpu k; retired = sym ran.retired k; ending = sym ends k })

  -- an access that is done
  done_course : (x y : Board C) (value : ℕ) → HasDone m state spare x value y → retire m x.segs x.budget (course_now m state x) (m.answer (state x.cpu) (Done value)) ≡ course_now m state y
  done_course x y value done =
      let s : S = m.answer (state x.cpu) (Done value) in
      let ends : course_ending y.ended ≡ ending_at (m.wants s) x.budget (x.retired + 1) = ap course_ending done.ended ∙ same_ending (m.wants s) x.budget (x.retired + 1) in
      λ k. record { cpu = sym done.cpu k; retired = sym done.retired k; ending = sym ends k }

  access_done : (segs : List ℕ) (budget b at value word : ℕ) (kind : AccessKind) (c : Course S)
      → carry_access m segs budget c kind at value (done_entry kind b at word value) ≡ Some (retire m segs budget c (m.answer c.cpu (Done (done_value kind word value))))
  access_done segs budget b at value word access.Load c = if_true (at == at) _ _ (eq-eqb at at refl)
  access_done segs budget b at value word access.Store c = if_true (at == at && value == value) _ _ (both_true (at == at) (value == value) (eq-eqb at at refl) (eq-eqb value value refl))
  access_done segs budget b at value word access.Tas c = if_true (at == at) _ _ (eq-eqb at at refl)

  pub done_carried : (b at value word : ℕ) (kind : AccessKind) (x y : Board C) → Asks m state spare b kind at value x → HasDone m state spare x (done_value kind word value) y
      → carry_entry m x.segs x.budget (course_now m state x) (done_entry kind b at word value) ≡ Some (course_now m state y)
  done_carried b at value word kind x y asks done =
      let c : Course S = course_now m state x in
      carry_reads x.segs x.budget c kind asks.va value (done_entry kind b at word value) asks.wants (ap course_ending asks.going.not_ended)
      ∙ ap (λ (g : ℕ). carry_access m x.segs x.budget c kind g value (done_entry kind b at word value)) (sym asks.at_is)
      ∙ access_done x.segs x.budget b at value word kind c
      ∙ ap (λ (d : Course S). Some d) (done_course x y (done_value kind word value) done)

  -- a fault that ends the board
  pub ended_carried : (b at value : ℕ) (kind : AccessKind) (why : FaultKind) (x y : Board C) → Asks m state spare b kind at value x → is_ending why ≡ true → HasFaulted m state spare x why at y
      → carry_entry m x.segs x.budget (course_now m state x) (entry.Fault b why kind at) ≡ Some (course_now m state y)
  ended_carried b at value kind why x y asks ends faulted =
      let c : Course S = course_now m state x in
      let g : ℕ = global_of x.segs asks.va in
      carry_reads x.segs x.budget c kind asks.va value (entry.Fault b why kind at) asks.wants (ap course_ending asks.going.not_ended)
      ∙ if_true (same_access kind kind && at == g) (if is_ending why then Some (stop m x.segs x.budget c why at) else Some c) None
      (both_true (same_access kind kind) (at == g) (same_self kind) (eq-eqb at g asks.at_is))
      ∙ ap (λ (t : Bool). if t then Some (stop m x.segs x.budget c why at) else Some c) ends
      ∙ ap (λ (d : Course S). Some d) (λ k. record { cpu = sym faulted.cpu k; retired = sym faulted.retired k; ending = sym (ap course_ending faulted.ended) k })

  -- an entry that answers its access is the whole instruction
  one_entry : (segs : List ℕ) (budget : ℕ) (c : Course S) (e : Entry) → is_answer e ≡ true → carry_instruction m segs budget c (e ∷ []) ≡ carry_entry m segs budget c e
  one_entry segs budget c e answer = if_true (is_answer e) (carry_entry m segs budget c e) None answer

  -- what a board asks, whatever its lines and its log
  asks_too : (b : ℕ) (kind : AccessKind) (at value : ℕ) (x : Board C) (lines : List (Option Line)) (log : Past) → Asks m state spare b kind at value x
      → Asks m state spare b kind at value (record x { cache = lines; log = log })
  asks_too b kind at value x lines log asks = record {
    number = asks.number;
    going = record { not_ended = asks.going.not_ended; running = asks.going.running; left = asks.going.left; room = asks.going.room };
    va = asks.va;
    wants = asks.wants;
    at_is = asks.at_is;
  }

  pub event-is-an-instruction : EventIsAnInstruction m state spare
  event-is-an-instruction old new (ByItself r) = record {
    logged = [];
    log = ap (λ (b : Board C). b.log.entries) r.ran.stays.is ∙ sym (append-nil old.log.entries);
    own = tt;
    carried = ran_carried old new r.going r.wants r.ran;
  }
  event-is-an-instruction old new (ByHit h) =
      let word : ℕ = word_in (found old.cache h.at) h.at in
      let e : Entry = done_entry h.kind old.number h.at word h.value in
      let mid : Board C = record old { cache = done_lines h.kind old.cache h.at h.value; log = new.log } in
      record {
        logged = e ∷ [];
        log = h.does.logged.entries;
        own = (done_own h.kind old.number h.at word h.value, tt);
        carried = one_entry old.segs old.budget (course_now m state old) e (done_answers h.kind old.number h.at word h.value)
            ∙ done_carried old.number h.at h.value word h.kind mid new (asks_too old.number h.kind h.at h.value old (done_lines h.kind old.cache h.at h.value) new.log h.asks) h.does.done;
      }
  event-is-an-instruction old new (ByFault f) =
      let e : Entry = entry.Fault old.number f.why f.kind f.at in
      let mid : Board C = record old { log = new.log } in
      let ends : is_ending f.why ≡ true = own_fault_ends old.cache f.kind f.at f.why f.cause in
      record {
        logged = e ∷ [];
        log = f.falls.logged.entries;
        own = (eq-eqb old.number old.number refl, tt);
        carried = one_entry old.segs old.budget (course_now m state old) e ends
            ∙ ended_carried old.number f.at f.value f.kind f.why mid new (asks_too old.number f.kind f.at f.value old old.cache new.log f.asks) ends f.falls.faulted;
      }
