-- The first probes were shown an entry, whatever they wished.
use Rattle.std.proofs.Common.{◌≡◌, ℕ, zero, suc, List, [], ◌∷◌, length, map, set, sym, refl, ap, ◌∙◌, subst, Some}
use Rattle.std.specs.Prelude.{slice_get}
use Rattle.std.proofs.lemmas.List.{map-set}
use lib.ListN.{length-map}
use Rattle.spur_flat.specs.declared.entry.Entry.{Entry}
use Rattle.spur_probe.specs.Shown.{Told, moved}
use Rattle.spur_probe.proofs.ShownFacts.{read, some_same}

abbrev pub IsMoved : Entry → ℕ → List Told → List Told → Type 0
IsMoved e zero ts us = ts ≡ us
IsMoved e (suc i) [] us = ⊥
IsMoved e (suc i) (t ∷ ts) [] = ⊥
IsMoved e (suc i) (t ∷ ts) (u ∷ us) = (t ≡ moved e u) × IsMoved e i ts us

one_more : (e : Entry) (i : ℕ) (ts us : List Told) (t : Told) → IsMoved e i ts us → slice_get ts i ≡ Some t → IsMoved e (suc i) (set ts i (moved e t)) us
one_more e zero [] us t h at = absurd cc
one_more e zero (x ∷ xs) us t h at = subst (λ (l : List Told). IsMoved e (suc zero) (moved e t ∷ xs) l) h (ap (moved e) (sym (some_same at)), refl)
one_more e (suc i) [] us t h at = absurd h
one_more e (suc i) (x ∷ xs) [] t h at = absurd h
one_more e (suc i) (x ∷ xs) (u ∷ us) t h at = (h.0, one_more e i xs us t h.1 at)

each : (e : Entry) (ts us : List Told) → IsMoved e (length ts) ts us → ts ≡ map (moved e) us
each e [] us h = subst (λ (l : List Told). [] ≡ map (moved e) l) h refl
each e (t ∷ ts) [] h = absurd h
each e (t ∷ ts) (u ∷ us) h = λ i. h.0 i ∷ each e ts us h.1 i

pub record AreMoved {A : Type 0} (f : A → Told) (e : Entry) (i : ℕ) (xs us : List A) : Type 0 where
  pub is : IsMoved e i (map f xs) (map f us)

module _ {A : Type 0} (f : A → Told) (e : Entry) where
  pub moved_more : (i j : ℕ) (xs us : List A) (old new : A) → j ≡ suc i → AreMoved f e i xs us → slice_get xs i ≡ Some old → f new ≡ moved e (f old) → AreMoved f e j (set xs i new) us
  moved_more i j xs us old new next h at same = record {
    is = subst (λ (k : ℕ). IsMoved e k (map f (set xs i new)) (map f us)) (sym next)
        (subst (λ (l : List Told). IsMoved e (suc i) l (map f us)) (sym (map-set f xs i new ∙ ap (set (map f xs) i) same)) (one_more e i (map f xs) (map f us) (f old) h.is (read f e xs i old at)));
  }

  pub moved_all : (i : ℕ) (xs us : List A) → i ≡ length xs → AreMoved f e i xs us → map f xs ≡ map (moved e) (map f us)
  moved_all i xs us whole h = each e (map f xs) (map f us) (subst (λ (k : ℕ). IsMoved e k (map f xs) (map f us)) (whole ∙ sym (length-map xs f)) h.is)
