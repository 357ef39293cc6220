-- Fronts of texts.
use Rattle.std.proofs.Common.{◌≡◌, ◌∙◌, ap, ℕ, Bool, true, false, ◌&&◌, cond, eqb, List, [], ◌∷◌, ◌++◌, Option, Some, None, refl}
use Rattle.std.proofs.lemmas.Bool.{eqb-true, eq-eqb}
use Rattle.spur_trace.specs.Reading.{◌>>=◌, behind}

pub some_is : {A : Type 0} (x y : A) → Some x ≡ Some y → x ≡ y
some_is x y e = cc

pub none_some : {A : Type 0} (o : Option A) (x : A) → o ≡ None → o ≡ Some x → ⊥
none_some o x e h = cc

pub and_second : (a b : Bool) → b ≡ false → (a && b) ≡ false
and_second true b e = e
and_second false b e = refl

pub behind_again : (front rest : List ℕ) → behind front (front ++ rest) ≡ Some rest
behind_again [] rest = refl
behind_again (c ∷ cs) rest = rw (eq-eqb c c refl) (behind_again cs rest)

step : (b c : ℕ) (cs bytes rest : List ℕ) (t : Bool) → eqb b c ≡ t → (behind cs bytes ≡ Some rest → bytes ≡ cs ++ rest)
    → cond t (behind cs bytes) None ≡ Some rest → b ∷ bytes ≡ (c ∷ cs) ++ rest
step b c cs bytes rest false e tail h = absurd cc
step b c cs bytes rest true e tail h = rw (eqb-true b c e, tail h) refl

pub behind_is : (front bytes rest : List ℕ) → behind front bytes ≡ Some rest → bytes ≡ front ++ rest
behind_is [] bytes rest e = some_is bytes rest e
behind_is (c ∷ cs) [] rest e = absurd cc
behind_is (c ∷ cs) (b ∷ bytes) rest e = step b c cs bytes rest (eqb b c) refl (behind_is cs bytes rest) e

none : (front bytes : List ℕ) (o : Option (List ℕ)) → behind front bytes ≡ o → ((rest : List ℕ) → bytes ≡ front ++ rest → ⊥) → behind front bytes ≡ None
none front bytes None e not = e
none front bytes (Some rest) e not = absurd (not rest (behind_is front bytes rest e))

pub behind_none : (front bytes : List ℕ) → ((rest : List ℕ) → bytes ≡ front ++ rest → ⊥) → behind front bytes ≡ None
behind_none front bytes not = none front bytes (behind front bytes) refl not

pub behind_at : (front bytes rest : List ℕ) → bytes ≡ front ++ rest → behind front bytes ≡ Some rest
behind_at front bytes rest e = rw e (behind_again front rest)

-- ---- a front in two pieces

onward : (cs more bytes : List ℕ) (t : Bool) → behind (cs ++ more) bytes ≡ (behind cs bytes >>= behind more)
    → cond t (behind (cs ++ more) bytes) None ≡ (cond t (behind cs bytes) None >>= behind more)
onward cs more bytes false tail = refl
onward cs more bytes true tail = tail

behind_append : (front more bytes : List ℕ) → behind (front ++ more) bytes ≡ (behind front bytes >>= behind more)
behind_append [] more bytes = refl
behind_append (c ∷ cs) more [] = refl
behind_append (c ∷ cs) more (b ∷ bytes) = onward cs more bytes (eqb b c) (behind_append cs more bytes)

and_then : (o : Option (List ℕ)) (front more bytes : List ℕ) → behind front bytes ≡ o → behind (front ++ more) bytes ≡ (o >>= behind more)
and_then o front more bytes is = behind_append front more bytes ∙ ap (λ (x : Option (List ℕ)). x >>= behind more) is

-- a word stands in front with a space behind it, or not
pub word_found : (word bytes left rest : List ℕ) → bytes ≡ word ++ left → left ≡ (32 ∷ []) ++ rest → behind (word ++ 32 ∷ []) bytes ≡ Some rest
word_found word bytes left rest first second =
    and_then (Some left) word (32 ∷ []) bytes (behind_at word bytes left first) ∙ behind_at (32 ∷ []) left rest second

pub word_lacks : (word bytes : List ℕ) → ((rest : List ℕ) → bytes ≡ word ++ rest → ⊥) → behind (word ++ 32 ∷ []) bytes ≡ None
word_lacks word bytes not = and_then None word (32 ∷ []) bytes (behind_none word bytes not)

pub space_lacks : (word bytes left : List ℕ) → bytes ≡ word ++ left → ((rest : List ℕ) → left ≡ (32 ∷ []) ++ rest → ⊥) → behind (word ++ 32 ∷ []) bytes ≡ None
space_lacks word bytes left first not =
    and_then (Some left) word (32 ∷ []) bytes (behind_at word bytes left first) ∙ behind_none (32 ∷ []) left not
