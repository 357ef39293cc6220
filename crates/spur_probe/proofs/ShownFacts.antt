-- The first probes were shown an entry, and none of them wished a stop.
use Rattle.std.proofs.Common.{◌≡◌, ℕ, zero, suc, ◌+◌, Bool, true, false, List, [], ◌∷◌, length, map, set, sym, refl, ap, ◌∙◌, subst, arith, Some, None, if◌then◌else◌}
use Rattle.std.specs.Prelude.{slice_get}
use Rattle.std.specs.List.{position_from}
use Rattle.std.proofs.lemmas.List.{map-set}
use lib.ListN.{length-map}
use Rattle.spur_probe.specs.declared.probe.Wish.{Wish}
use Rattle.spur_probe.specs.declared.probe.Wish.TheVariants.{GoOn, Stop}
use Rattle.spur_flat.specs.declared.entry.Entry.{Entry}
use Rattle.spur_probe.specs.Shown.{Told, told, moved, stops, wants_stop, after_entry}
use Rattle.spur_probe.specs.Rules.{Rule}

abbrev pub IsShown : Entry → ℕ → List Told → List Told → Type 0
IsShown e zero ts us = ts ≡ us
IsShown e (suc i) [] us = ⊥
IsShown e (suc i) (t ∷ ts) [] = ⊥
IsShown e (suc i) (t ∷ ts) (u ∷ us) = (t ≡ moved e u) × (stops e u ≡ false) × IsShown e i ts us

pub some_same : {x y : Told} → Some x ≡ Some y → x ≡ y
some_same e = cc

halted : (e : Entry) (k : ℕ) (t : Told) (ts : List Told) → stops e t ≡ true → (moved e t ∷ ts ≡ after_entry e (t ∷ ts)) × (position_from (stops e) k (t ∷ ts) ≡ Some k)
halted e k t ts h = (sym (ap (λ (b : Bool). moved e t ∷ if◌then◌else◌ b ts (after_entry e ts)) h), ap (λ (b : Bool). if◌then◌else◌ b (Some k) (position_from (stops e) (k + 1) ts)) h)

pub goes : (e : Entry) (i : ℕ) (ts us : List Told) (t : Told) → IsShown e i ts us → slice_get ts i ≡ Some t → stops e t ≡ false → IsShown e (suc i) (set ts i (moved e t)) us
goes e zero [] us t h at go = absurd cc
goes e zero (x ∷ xs) us t h at go = subst (λ (l : List Told). IsShown e (suc zero) (moved e t ∷ xs) l) h (ap (moved e) (sym (some_same at)), ap (stops e) (some_same at) ∙ go, refl)
goes e (suc i) [] us t h at go = absurd h
goes e (suc i) (x ∷ xs) [] t h at go = absurd h
goes e (suc i) (x ∷ xs) (u ∷ us) t h at go = (h.0, h.1, goes e i xs us t h.2 at go)

pub ends : (e : Entry) (k : ℕ) (ts us : List Told) → IsShown e (length ts) ts us → (ts ≡ after_entry e us) × (position_from (stops e) k us ≡ None)
ends e k [] us h = subst (λ (l : List Told). ([] ≡ after_entry e l) × (position_from (stops e) k l ≡ None)) h (refl, refl)
ends e k (t ∷ ts) [] h = absurd h
ends e k (t ∷ ts) (u ∷ us) h = let r = ends e (k + 1) ts us h.2 in (
  (λ i. h.0 i ∷ r.0 i) ∙ sym (ap (λ (b : Bool). moved e u ∷ if◌then◌else◌ b us (after_entry e us)) h.1),
  ap (λ (b : Bool). if◌then◌else◌ b (Some k) (position_from (stops e) (k + 1) us)) h.1 ∙ r.1,
)

pub halts : (e : Entry) (i k : ℕ) (ts us : List Told) (t : Told) → IsShown e i ts us → slice_get ts i ≡ Some t → stops e t ≡ true → (set ts i (moved e t) ≡ after_entry e us) × (position_from (stops e) k us ≡ Some (k + i))
halts e zero k [] us t h at stop = absurd cc
halts e zero k (x ∷ xs) us t h at stop =
    let r = halted e k x xs (ap (stops e) (some_same at) ∙ stop) in
    subst (λ (l : List Told). (moved e t ∷ xs ≡ after_entry e l) × (position_from (stops e) k l ≡ Some (k + zero))) h
    (ap (λ (y : Told). moved e y ∷ xs) (sym (some_same at)) ∙ r.0, r.1 ∙ ap (λ (n : ℕ). Some n) (omega arith))
halts e (suc i) k [] us t h at stop = absurd h
halts e (suc i) k (x ∷ xs) [] t h at stop = absurd h
halts e (suc i) k (x ∷ xs) (u ∷ us) t h at stop = let r = halts e i (k + 1) xs us t h.2 at stop in (
  (λ j. h.0 j ∷ r.0 j) ∙ sym (ap (λ (b : Bool). moved e u ∷ if◌then◌else◌ b us (after_entry e us)) h.1),
  ap (λ (b : Bool). if◌then◌else◌ b (Some k) (position_from (stops e) (k + 1) us)) h.1 ∙ (r.1 ∙ ap (λ (n : ℕ). Some n) (omega arith)),
)

-- what a call told of one probe
pub one : (f f' : Rule) (r r' : List ℕ → ℕ) (s s' : List ℕ) (w : Wish) (e : Entry) → ◌≡◌ {A = List ℕ × Wish} (s', w) (f s e) → f' ≡ f → r' ≡ r → (told f' r' s' ≡ moved e (told f r s)) × (stops e (told f r s) ≡ wants_stop w)
one f f' r r' s s' w e is rule reads = ((λ i. told (rule i) (reads i) ((is i).0)), ap (λ (p : List ℕ × Wish). wants_stop p.1) (sym is))

pub record Shown {A : Type 0} (f : A → Told) (e : Entry) (i : ℕ) (xs us : List A) : Type 0 where
  pub is : IsShown e i (map f xs) (map f us)

module _ {A : Type 0} (f : A → Told) (e : Entry) where
  pub read : (xs : List A) (i : ℕ) (x : A) → slice_get xs i ≡ Some x → slice_get (map f xs) i ≡ Some (f x)
  read [] i x h = absurd (cc)
  read (y ∷ ys) zero x h = ap (λ (a : A). Some (f a)) (inner h)
    where
      inner : {a b : A} → Some a ≡ Some b → a ≡ b
      inner q = cc
  read (y ∷ ys) (suc i) x h = read ys i x h

  pub shown_more : (i j : ℕ) (xs us : List A) (old new : A) → j ≡ suc i → Shown f e i xs us → slice_get xs i ≡ Some old → f new ≡ moved e (f old) → stops e (f old) ≡ false → Shown f e j (set xs i new) us
  shown_more i j xs us old new next h at same go = record {
    is = subst (λ (k : ℕ). IsShown e k (map f (set xs i new)) (map f us)) (sym next)
        (subst (λ (l : List Told). IsShown e (suc i) l (map f us)) (sym (map-set f xs i new ∙ ap (set (map f xs) i) same)) (goes e i (map f xs) (map f us) (f old) h.is (read xs i old at) go));
  }

  pub shown_all : (i : ℕ) (xs us : List A) → i ≡ length xs → Shown f e i xs us → (map f xs ≡ after_entry e (map f us)) × (position_from (stops e) 0 (map f us) ≡ None)
  shown_all i xs us whole h = ends e 0 (map f xs) (map f us) (subst (λ (k : ℕ). IsShown e k (map f xs) (map f us)) (whole ∙ sym (length-map xs f)) h.is)

  pub shown_stop : (i : ℕ) (xs us : List A) (old new : A) → Shown f e i xs us → slice_get xs i ≡ Some old → f new ≡ moved e (f old) → stops e (f old) ≡ true → (map f (set xs i new) ≡ after_entry e (map f us)) × (position_from (stops e) 0 (map f us) ≡ Some i)
  shown_stop i xs us old new h at same stop = let r = halts e i 0 (map f xs) (map f us) (f old) h.is (read xs i old at) stop in
      (map-set f xs i new ∙ (ap (set (map f xs) i) same ∙ r.0), r.1 ∙ ap (λ (n : ℕ). Some n) (omega arith))

pub not_stop : (w : Wish) → (w ≡ Stop → ⊥) → wants_stop w ≡ false
not_stop GoOn h = refl
not_stop Stop h = absurd (h refl)
