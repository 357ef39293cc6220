-- Where global addresses come from: the boards' programs.
use Rattle.std.proofs.Common.{◌≡◌, ℕ, zero, suc, ◌+◌, ◌*◌, ◌/◌, ◌%◌, ◌^◌, ◌<◌, ◌==◌, ◌&&◌, Bool, true, false, if◌then◌else◌, ◌⊎◌, inl, inr, List, [], ◌∷◌, Option, Some, None, refl, sym, subst, cond, arith, slice_index}
use Rattle.std.specs.List.{AllByRecursion}
use Rattle.std.proofs.lemmas.Bool.{and_parts, eq-eqb, eqb-true, false≢true}
use Rattle.std.proofs.lemmas.List.Elements.{All-from_recursion, recursion_from_All}
use Rattle.spur_addr.specs.Address.{global_of}
use Rattle.spur_flat.specs.declared.access.AccessKind.TheVariants as access
use Rattle.spur_flat.specs.declared.entry.Entry.{Entry}
use Rattle.spur_flat.specs.declared.entry.Entry.TheVariants.{Load, Store, Tas, Fault}
use Rattle.spur_flat.specs.Blocks.{board_of}
use Rattle.spur_flat.specs.History.{is_own, own_entries}
use Rattle.spur_flat.specs.Laws.{address_of}
use Rattle.spur_cpu.specs.Meaning.{Meaning}
use Rattle.spur_cpu.specs.declared.cpu.Want.{Want}
use Rattle.spur_cpu.specs.declared.cpu.Want.TheVariants.{Local, Access, Ended}
use Rattle.spur_cpu.specs.After.{Stop, Course, after, begun, carry_entry, carry_local, carry_want, is_done, same_access, wants_local}
use Rattle.spur_cpu.proofs.Afters.{at_zero, tested, way}
use Rattle.spur_plain.specs.PlainHistory.{is_plain, plain_entries}
use Rattle.spur_plain.specs.Runs.{HasCome, ProgramsAreGlobal}
use Rattle.spur_plain.proofs.InvisibleFacts.{IsSmall, first_small, rest_small}

abbrev IsSegment : ℕ → Type 0
IsSegment s = s < 2 ^ 8

seg_small : (segs : List ℕ) (k : ℕ) → AllByRecursion IsSegment segs → slice_index segs k < 2 ^ 8
seg_small [] k all = let r : 0 < 2 ^ 8 = omega arith in r
seg_small (s ∷ segs) zero all = all.0
seg_small (s ∷ segs) (suc k) all = seg_small segs k all.1

global_small : (segs : List ℕ) (va : ℕ) → AllByRecursion IsSegment segs → global_of segs va < 2 ^ 38
global_small segs va all =
    let seg : slice_index segs (va / 2 ^ 30) < 2 ^ 8 = seg_small segs (va / 2 ^ 30) all in
    let r : slice_index segs (va / 2 ^ 30) * 2 ^ 30 + va % 2 ^ 30 < 2 ^ 38 = omega arith in
    r

module _ {S : Type 0} (m : Meaning S) (segs : List ℕ) (budget : ℕ) (all : AllByRecursion IsSegment segs) where
  here : (at va : ℕ) → at ≡ global_of segs va → at < 2 ^ 38
  here at va is = subst (λ (n : ℕ). n < 2 ^ 38) (sym is) (global_small segs va all)

  passed_first : {A : Type 0} (t k : Bool) (x y z : A) → (if t then (if k then Some x else Some y) else None) ≡ Some z → t ≡ true
  passed_first true k x y z h = refl
  passed_first false k x y z h = absurd cc

  carried_small : (c d : Course S) (w : Want) (s : Option Stop) (e : Entry) → carry_want m segs budget c w s e ≡ Some d → address_of e < 2 ^ 38
  carried_small c d Local s e h = absurd cc
  carried_small c d Ended s e h = absurd cc
  carried_small c d (Access kind va value) (Some s) e h = absurd cc
  carried_small c d (Access kind va value) None (Load board at v) h =
      here at va (eqb-true at (global_of segs va) (and_parts (same_access kind access.Load) (at == global_of segs va) (tested (same_access kind access.Load && (at == global_of segs va)) _ d h)).1)
  carried_small c d (Access access.Store va value) None (Store board at v) h =
      here at va (eqb-true at (global_of segs va) (and_parts (at == global_of segs va) (v == value) (tested ((at == global_of segs va) && (v == value)) _ d h)).0)
  carried_small c d (Access kind va value) None (Tas board at v) h =
      here at va (eqb-true at (global_of segs va) (and_parts (same_access kind access.Tas) (at == global_of segs va) (tested (same_access kind access.Tas && (at == global_of segs va)) _ d h)).1)
  carried_small c d (Access kind va value) None (Fault board k w at) h =
      here at va (eqb-true at (global_of segs va) (and_parts (same_access kind w) (at == global_of segs va) (passed_first _ _ _ _ d h)).1)
  carried_small c d (Access kind va value) None e h = absurd cc

  after_small : (c d : Course S) (es : List Entry) (n : ℕ) → after m segs budget c es n ≡ Some d → AllByRecursion IsSmall es
  after_small c d [] n h = tt
  after_small c d (e ∷ es) zero h =
      let x = at_zero (is_done e) (carry_entry m segs budget c e) (λ y. after m segs budget y es zero) d h in
      (carried_small c x.1.0 (m.wants c.cpu) c.ending e x.1.1, after_small x.1.0 d es zero x.1.2)
  after_small c d (e ∷ es) (suc n) h =
      elim (way (wants_local m segs budget c) (is_done e) (carry_local m segs budget c) (carry_entry m segs budget c e) (λ y. after m segs budget y (e ∷ es) n) (λ y. after m segs budget y es n) (λ y. after m segs budget y es (suc n)) d h) [
        | inl l ↦ after_small l.0 d (e ∷ es) n l.2
        | inr (inl r) ↦ (carried_small c r.1.0 (m.wants c.cpu) c.ending e r.1.1, after_small r.1.0 d es n r.1.2)
        | inr (inr r) ↦ (carried_small c r.1.0 (m.wants c.cpu) c.ending e r.1.1, after_small r.1.0 d es (suc n) r.1.2)
      ]

-- a plain entry is its board's own
own_of_plain : (e : Entry) → is_plain e ≡ true → is_own (board_of e) e ≡ true
own_of_plain (Load board at value) h = eq-eqb board board refl
own_of_plain (Store board at value) h = eq-eqb board board refl
own_of_plain (Tas board at old) h = eq-eqb board board refl
own_of_plain (Fault board kind access at) h = eq-eqb board board refl
own_of_plain _ h = absurd (false≢true h)

join_small : (b : Bool) (e : Entry) (es : List Entry) → (b ≡ true → address_of e < 2 ^ 38) → AllByRecursion IsSmall es → AllByRecursion IsSmall (cond b (e ∷ es) es)
join_small true e es this rest = (this refl, rest)
join_small false e es this rest = rest

boards_small : (history : List Entry) → ((b : ℕ) → AllByRecursion IsSmall (own_entries history b)) → AllByRecursion IsSmall (plain_entries history)
boards_small [] each = tt
boards_small (e ∷ es) each =
    join_small (is_plain e) e (plain_entries es)
    (λ plain. first_small (is_own (board_of e) e) e (own_entries es (board_of e)) (each (board_of e)) (own_of_plain e plain))
    (boards_small es (λ b. rest_small (is_own b e) e (own_entries es b) (each b)))

module _ {S : Type 0} (m : Meaning S) where
  come_small : (history : List Entry) (b : ℕ) → (own_entries history b ≡ []) ⊎ HasCome m history b → AllByRecursion IsSmall (own_entries history b)
  come_small history b (inl none) = subst (AllByRecursion IsSmall) (sym none) tt
  come_small history b (inr c) =
      after_small m c.segs c.budget (recursion_from_All IsSegment c.segs c.small) (begun c.first) c.course (own_entries history b) c.completed c.comes

  pub programs-are-global : ProgramsAreGlobal m
  programs-are-global history boards =
      All-from_recursion IsSmall (plain_entries history) (boards_small history (λ b. come_small history b (boards b)))
