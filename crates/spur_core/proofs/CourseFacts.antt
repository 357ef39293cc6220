-- A board takes its access: its program is carried on.
use Rattle.std.proofs.Common.{◌≡◌, ◌∙◌, ℕ, zero, suc, ◌+◌, ◌&&◌, ◌==◌, Bool, true, false, if◌then◌else◌, ap, sym, refl, subst, List, [], ◌∷◌, ◌++◌, Option, Some, None, eq-eqb, append-nil}
use Rattle.std.specs.Prelude.{slice_get}
use Rattle.std.specs.List.{AllByRecursion}
use Rattle.std.proofs.lemmas.List.{append_assoc}
use Rattle.spur_addr.specs.Address.{global_of}
use Rattle.spur_cache.specs.declared.line.Line.{Line}
use Rattle.spur_flat.specs.declared.access.AccessKind.{AccessKind}
use Rattle.spur_flat.specs.declared.access.AccessKind.TheVariants as access
use Rattle.spur_flat.specs.declared.access.FaultKind.{FaultKind}
use Rattle.spur_flat.specs.declared.entry.Entry.{Entry}
use Rattle.spur_flat.specs.declared.entry.Entry.TheVariants as entry
use Rattle.spur_cpu.specs.declared.cpu.Want.{Want}
use Rattle.spur_cpu.specs.declared.cpu.Want.TheVariants.{Access, Ended, Local}
use Rattle.spur_cpu.specs.declared.cpu.Answer.TheVariants.{Done}
use Rattle.spur_cpu.specs.Meaning.{Meaning, is_ending}
use Rattle.spur_cpu.specs.After.{Course, IsLed, Spent, Stop, carry_access, carry_entry, carry_want, ending_at, retire, same_access, stop}
use Rattle.spur_cpu.proofs.Led.{led_entry}
use Rattle.spur_walk.specs.Laws.{done_entry}
use Rattle.spur_cache.specs.Lens.{with_caches}
use Rattle.spur_board.specs.declared.board.Board.{Board}
use Rattle.spur_board.specs.declared.ending.Ending.TheVariants as ending
use Rattle.spur_board.specs.Boards.{Asks, course_ending, course_now}
use Rattle.spur_board.proofs.CarryFacts.{both_true, carry_reads, if_true, same_self}
use Rattle.spur_core.specs.Boards.{board_lens}
use Rattle.spur_core.specs.Takes.{OnlyItsLines}
use Rattle.spur_core.specs.Comes.{IsServedFault}

-- boards of which only lines changed
pub lens_get : {C : Type 0} (olds : List (Board C)) (cs : List (List (Option Line))) (i : ℕ) (x : Board C) → slice_get (with_caches (board_lens {C = C}) olds cs) i ≡ Some x → OnlyItsLines olds i x
lens_get [] cs i x e = cc
lens_get (b ∷ bs) [] i x e = record { old = x; there = e; is = refl }
lens_get {C} (b ∷ bs) (c ∷ cs) zero x e =
    let same : record b { cache = c } ≡ x = cc in
    record { old = b; there = refl; is = sym same ∙ ap (λ (ls : List (Option Line)). record b { cache = ls }) (ap (λ (y : Board C). y.cache) same) }
lens_get (b ∷ bs) (c ∷ cs) (suc i) x e = let r = lens_get bs cs i x e in record { old = r.old; there = r.there; is = r.is }

module _ {C S : Type 0} (m : Meaning S) (state : C → S) (spare : C → ℕ) where
  -- a served fault leaves the course where it is
  pub fault_stays : (b at value : ℕ) (kind : AccessKind) (x : Board C) (e : Entry) → Asks m state spare b kind at value x → IsServedFault b at kind e → carry_entry m x.segs x.budget (course_now m state x) e ≡ Some (course_now m state x)
  fault_stays b at value kind x e asks f =
      let c : Course S = course_now m state x in
      let g : ℕ = global_of x.segs asks.va in
      ap (carry_entry m x.segs x.budget c) f.is
      ∙ carry_reads m state spare x.segs x.budget c kind asks.va value (entry.Fault b f.kind kind at) asks.wants (ap course_ending asks.going.not_ended)
      ∙ if_true (same_access kind kind && at == g) (if is_ending f.kind then Some (stop m x.segs x.budget c f.kind at) else Some c) None (both_true (same_access kind kind) (at == g) (same_self kind) (eq-eqb at g asks.at_is))
      ∙ ap (λ (t : Bool). if t then Some (stop m x.segs x.budget c f.kind at) else Some c) f.served

  -- and all of them do
  pub faults_stay : (b at value : ℕ) (kind : AccessKind) (x : Board C) (c0 : Course S) (es fs : List Entry) → Asks m state spare b kind at value x → AllByRecursion (IsServedFault b at kind) fs
      → IsLed m x.segs x.budget c0 es (course_now m state x) → IsLed m x.segs x.budget c0 (es ++ fs) (course_now m state x)
  faults_stay b at value kind x c0 es [] asks all led = subst (λ (l : List Entry). IsLed m x.segs x.budget c0 l (course_now m state x)) (sym (append-nil es)) led
  faults_stay b at value kind x c0 es (f ∷ fs) asks all led =
      subst (λ (l : List Entry). IsLed m x.segs x.budget c0 l (course_now m state x)) (append_assoc es (f ∷ []) fs)
      (faults_stay b at value kind x c0 (es ++ f ∷ []) fs asks all.1 (led_entry m x.segs x.budget c0 (course_now m state x) (course_now m state x) es f led (fault_stays b at value kind x f asks all.0)))

  -- a fault for which the swap failed
  pub swap_carried : (b at value : ℕ) (kind : AccessKind) (why : FaultKind) (x : Board C) → Asks m state spare b kind at value x → is_ending why ≡ false
      → carry_entry m x.segs x.budget (course_now m state x) (entry.Fault b why kind at) ≡ Some (course_now m state (record x { ended = Some ending.SwapFault }))
  swap_carried b at value kind why x asks served =
      fault_stays b at value kind x (entry.Fault b why kind at) asks (record { kind = why; is = refl; served = served })
      ∙ ap (λ (e : Option Stop). Some record { cpu = state x.cpu; retired = x.retired; ending = e }) (ap course_ending asks.going.not_ended)
