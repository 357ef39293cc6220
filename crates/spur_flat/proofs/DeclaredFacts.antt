-- A page is declared exactly where its entry is valid or on swap.
use Rattle.std.proofs.Common.{◌≡◌, ℕ, ◌^◌, ◌<◌, ◌==◌, ◌||◌, not, Bool, true, false, Option, Some, None, refl, sym, ap, ◌∙◌, arith, slice_index}
use Rattle.std.proofs.lemmas.Bool.{eq-eqb}
use Rattle.std.proofs.lemmas.List.Folds.{list_any_at}
use Rattle.spur_addr.specs.Address.{page_of}
use Rattle.spur_addr.specs.PageEntry.{is_on_swap, is_valid}
use Rattle.spur_flat.specs.declared.flat.Flat.{Flat}
use Rattle.spur_flat.specs.Table.{entry_at}
use Rattle.spur_flat.specs.Validity.{IsDeclared, IsValidFlat}
use Rattle.spur_flat.specs.Pager.{is_declared, or_zero, word_of}
use Rattle.spur_flat.proofs.PagerFacts.{declared_stands}
use Rattle.spur_flat.proofs.WalkFacts.{walk_of-entry}

same_bool : (a b : Bool) → (a ≡ true → b ≡ true) → (b ≡ true → a ≡ true) → a ≡ b
same_bool true true f g = refl
same_bool false false f g = refl
same_bool true false f g = sym (f refl)
same_bool false true f g = g refl

-- of two bits exactly one is set
one_of : (v s : Bool) → v ≡ not s → (v || s) ≡ true
one_of true s e = refl
one_of false true e = refl
one_of false false e = absurd cc

-- where a bit of an entry is set, there is an entry
found : (o : Option ℕ) → (is_valid (or_zero o) || is_on_swap (or_zero o)) ≡ true → (e : ℕ) × (o ≡ Some e)
found None h = let no : false ≡ true = h in absurd cc
found (Some e) h = (e, refl)

-- of the entry to which the walk leads
pub declared_by_bits : (F : Flat) (g : ℕ) → IsValidFlat F → g < 2 ^ 38 → is_declared F g ≡ (is_valid (word_of F g) || is_on_swap (word_of F g))
declared_by_bits F g ok small = same_bool (is_declared F g) (is_valid (word_of F g) || is_on_swap (word_of F g)) to from where
  to : is_declared F g ≡ true → (is_valid (word_of F g) || is_on_swap (word_of F g)) ≡ true
  to h = one_of (is_valid (word_of F g)) (is_on_swap (word_of F g)) (declared_stands F g ok small h).stands.one

  from : (is_valid (word_of F g) || is_on_swap (word_of F g)) ≡ true → is_declared F g ≡ true
  from h =
      let p : ℕ = page_of g in
      let small_p : p < 2 ^ 26 = omega arith in
      let walk : word_of F g ≡ or_zero (entry_at F.words p) = ap or_zero (walk_of-entry F g) in
      let bits : (is_valid (or_zero (entry_at F.words p)) || is_on_swap (or_zero (entry_at F.words p))) ≡ true = ap (λ (w : ℕ). is_valid w || is_on_swap w) (sym walk) ∙ h in
      let e = found (entry_at F.words p) bits in
      let here : (is_valid e.0 || is_on_swap e.0) ≡ true = ap (λ (o : Option ℕ). is_valid (or_zero o) || is_on_swap (or_zero o)) (sym e.1) ∙ bits in
      let declared : IsDeclared F.pages p = ok.tables.declared p e.0 small_p e.1 here in
      list_any_at (λ page. page == p) F.pages declared.position 0 declared.within (eq-eqb (slice_index F.pages declared.position) p declared.is)

-- so the word of the page's entry says it
pub declared_by_entry : (F : Flat) (g e : ℕ) → IsValidFlat F → g < 2 ^ 38 → e ≡ word_of F g → is_declared F g ≡ (is_valid e || is_on_swap e)
declared_by_entry F g e ok small is = declared_by_bits F g ok small ∙ sym (ap (λ (w : ℕ). is_valid w || is_on_swap w) is)
