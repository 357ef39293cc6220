-- Each field with the byte behind it is read as it is written, and written as it is read.
use Rattle.std.proofs.Common.{◌≡◌, ◌∙◌, sym, ℕ, ◌+◌, ◌*◌, ◌%◌, ◌^◌, ◌<◌, ◌≤◌, Bool, true, false, ◌&&◌, cond, eqb, ltb, List, [], ◌∷◌, ◌++◌, Option, Some, None, refl, ap, arith, append_assoc}
use Rattle.std.specs.Char.{is_ascii_digit}
use Rattle.std.specs.Fmt.{decimal}
use Rattle.std.proofs.lemmas.Bool.{and_from, and_parts, ltb-true, lt-ltb, eqb-true, eq-eqb}
use Rattle.std.proofs.lemmas.Option.{cond_some, some_pair_parts}
use Rattle.spur_text.specs.Digits.{hex_digits, address_digits, word_digits}
use Rattle.spur_trace.proofs.PartFacts.{IsAt}
use Rattle.spur_trace.specs.Reading.{◌>>=◌, address_at, behind, below_at, hex_at, mark_at, number_at, or_word, value_at, word_at}
use Rattle.spur_trace.proofs.FrontFacts.{behind_is}
use Rattle.spur_trace.proofs.NumberFacts.{number_is, number_again}
use Rattle.spur_trace.proofs.HexFacts.{hex_is, hex_again}

pub bind_then : {A B P : Type 0} (f : A → Option B) (o : Option A) (y : B) → (o >>= f) ≡ Some y → ((x : A) → o ≡ Some x → f x ≡ Some y → P) → P
bind_then f None y e next = absurd cc
bind_then f (Some x) y e next = next x refl e

abbrev marked : List ℕ → Option (Unit {0} × List ℕ)
marked bytes = Some (tt, bytes)

mark_step : (c b : ℕ) (bytes : List ℕ) (u : Unit {0}) (rest : List ℕ) (t : Bool) → eqb b c ≡ t → cond t (marked bytes) None ≡ Some (u, rest) → b ∷ bytes ≡ c ∷ rest
mark_step c b bytes u rest false e h = absurd cc
mark_step c b bytes u rest true e h = let p = some_pair_parts tt u bytes rest h in rw (eqb-true b c e, p.1) refl

pub mark_is : (c : ℕ) (bytes : List ℕ) (u : Unit {0}) (rest : List ℕ) → mark_at c bytes ≡ Some (u, rest) → bytes ≡ c ∷ rest
mark_is c [] u rest e = absurd cc
mark_is c (b ∷ bytes) u rest e = mark_step c b bytes u rest (eqb b c) refl e

pub mark_again : (c : ℕ) (rest : List ℕ) → mark_at c (c ∷ rest) ≡ Some (tt, rest)
mark_again c rest = rw (eq-eqb c c refl) refl

-- ---- decimal numbers

-- the text of a field stands in front, with a byte behind it
pub record Stands (bytes text : List ℕ) (mark : ℕ) (rest : List ℕ) (P : Type 0) : Type 0 where
  pub text_is : bytes ≡ text ++ mark ∷ rest
  pub holds : P

pub below_is : (limit mark : ℕ) (bytes : List ℕ) (n : ℕ) (rest : List ℕ) → below_at limit mark bytes ≡ Some (n, rest) → Stands bytes (decimal n) mark rest (n < limit)
unfolding below_at
below_is limit mark bytes n rest e =
    bind_then _ (number_at bytes) (n, rest) e (λ p read e1.
    bind_then _ (mark_at mark p.1) (n, rest) e1 (λ m marked e2.
    let g = cond_some (ltb p.0 limit) (p.0, m.1) (n, rest) e2 in
    let number : p.0 ≡ n = ap (λ (x : ℕ × List ℕ). x.0) g.1 in
    let left : m.1 ≡ rest = ap (λ (x : ℕ × List ℕ). x.1) g.1 in
    let text = number_is bytes p.0 p.1 read in
    let behind = mark_is mark p.1 m.0 m.1 marked in
    record {
      text_is = text ∙ rw (behind, number, left) refl;
      holds = rw (sym number) (ltb-true p.0 limit g.0);
    }))

pub below_again : (limit mark n : ℕ) (rest : List ℕ) → n < limit → limit ≤ 10000 → is_ascii_digit mark ≡ false
    → below_at limit mark (decimal n ++ mark ∷ rest) ≡ Some (n, rest)
unfolding below_at
below_again limit mark n rest below few other =
    rw (number_again n mark rest (omega arith) other, mark_again mark rest, lt-ltb n limit below) refl

-- ---- hexadecimal numbers

pub address_is : (multiple mark : ℕ) (bytes : List ℕ) (g : ℕ) (rest : List ℕ) → address_at multiple mark bytes ≡ Some (g, rest)
    → Stands bytes (address_digits g) mark rest (IsAt multiple g)
unfolding address_at address_digits hex_at
address_is multiple mark bytes g rest e =
    bind_then _ (hex_at 10 bytes) (g, rest) e (λ p read e1.
    bind_then _ (mark_at mark p.1) (g, rest) e1 (λ m marked e2.
    let t = cond_some (ltb p.0 (2 ^ 38) && eqb (p.0 % multiple) 0) (p.0, m.1) (g, rest) e2 in
    let tests = and_parts (ltb p.0 (2 ^ 38)) (eqb (p.0 % multiple) 0) t.0 in
    let number : p.0 ≡ g = ap (λ (x : ℕ × List ℕ). x.0) t.1 in
    let left : m.1 ≡ rest = ap (λ (x : ℕ × List ℕ). x.1) t.1 in
    let text = (hex_is 10 0 p.0 bytes p.1 read).text_is in
    let behind = mark_is mark p.1 m.0 m.1 marked in
    let same : hex_digits 10 p.0 ++ p.1 ≡ hex_digits 10 g ++ mark ∷ rest =
    ap (λ (x : List ℕ). hex_digits 10 p.0 ++ x) behind ∙ (ap (λ (x : ℕ). hex_digits 10 x ++ mark ∷ m.1) number ∙ ap (λ (x : List ℕ). hex_digits 10 g ++ mark ∷ x) left) in
    record {
      text_is = text ∙ same;
      holds = (rw (sym number) (ltb-true p.0 (2 ^ 38) tests.0), rw (sym number) (eqb-true (p.0 % multiple) 0 tests.1));
    }))

whole_10 : (g : ℕ) → g < 2 ^ 38 → 0 * 16 ^ 10 + g % 16 ^ 10 ≡ g
whole_10 g small = omega arith

whole_8 : (v : ℕ) → v < 2 ^ 32 → 0 * 16 ^ 8 + v % 16 ^ 8 ≡ v
whole_8 v small = omega arith

hex_10 : (g : ℕ) (rest : List ℕ) → g < 2 ^ 38 → hex_at 10 (address_digits g ++ rest) ≡ Some (g, rest)
unfolding address_digits hex_at
hex_10 g rest small = hex_again 10 0 g rest ∙ ap (λ (x : ℕ). Some (x, rest)) (whole_10 g small)

hex_8 : (v : ℕ) (rest : List ℕ) → v < 2 ^ 32 → hex_at 8 (word_digits v ++ rest) ≡ Some (v, rest)
unfolding word_digits hex_at
hex_8 v rest small = hex_again 8 0 v rest ∙ ap (λ (x : ℕ). Some (x, rest)) (whole_8 v small)

address_tests : (multiple g : ℕ) → IsAt multiple g → (ltb g (2 ^ 38) && eqb (g % multiple) 0) ≡ true
address_tests multiple g at = and_from (ltb g (2 ^ 38)) (eqb (g % multiple) 0) (lt-ltb g (2 ^ 38) at.0) (eq-eqb (g % multiple) 0 at.1)

pub address_again : (multiple mark g : ℕ) (rest : List ℕ) → IsAt multiple g → address_at multiple mark (address_digits g ++ mark ∷ rest) ≡ Some (g, rest)
unfolding address_at
address_again multiple mark g rest at = rw (hex_10 g (mark ∷ rest) at.0, mark_again mark rest, address_tests multiple g at) refl

pub value_is : (bytes : List ℕ) (v : ℕ) (rest : List ℕ) → value_at bytes ≡ Some (v, rest) → Stands bytes (word_digits v) 10 rest (v < 2 ^ 32)
unfolding value_at word_digits hex_at
value_is bytes v rest e =
    bind_then _ (hex_at 8 bytes) (v, rest) e (λ p read e1.
    bind_then _ (mark_at 10 p.1) (v, rest) e1 (λ m marked e2.
    let t = some_pair_parts p.0 v m.1 rest e2 in
    let digits = hex_is 8 0 p.0 bytes p.1 read in
    let behind = mark_is 10 p.1 m.0 m.1 marked in
    let same : hex_digits 8 p.0 ++ p.1 ≡ hex_digits 8 v ++ 10 ∷ rest =
    ap (λ (x : List ℕ). hex_digits 8 p.0 ++ x) behind ∙ (ap (λ (x : ℕ). hex_digits 8 x ++ 10 ∷ m.1) t.0 ∙ ap (λ (x : List ℕ). hex_digits 8 v ++ 10 ∷ x) t.1) in
    record {
      text_is = digits.text_is ∙ same;
      holds = omega (arith, digits.small, digits.sum, t.0);
    }))

pub value_again : (v : ℕ) (rest : List ℕ) → v < 2 ^ 32 → value_at (word_digits v ++ 10 ∷ rest) ≡ Some (v, rest)
unfolding value_at
value_again v rest small = rw (hex_8 v (10 ∷ rest) small) refl

-- ---- words

or_word_is : {A : Type 0} (x y : A) (bytes rest front : List ℕ) (word : A → List ℕ) (o : Option (List ℕ)) (others : Option (A × List ℕ))
    → behind (word x ++ 32 ∷ []) bytes ≡ o → (others ≡ Some (y, rest) → bytes ≡ word y ++ 32 ∷ rest) → or_word x o others ≡ Some (y, rest)
    → bytes ≡ word y ++ 32 ∷ rest
or_word_is x y bytes rest front word None others e tail h = tail h
or_word_is x y bytes rest front word (Some left) others e tail h =
    let p = some_pair_parts x y left rest h in
    let text = behind_is (word x ++ 32 ∷ []) bytes left e ∙ append_assoc (word x) (32 ∷ []) left in
    text ∙ rw (p.0, p.1) refl

pub word_is : {A : Type 0} (word : A → List ℕ) (xs : List A) (bytes : List ℕ) (y : A) (rest : List ℕ) → word_at word xs bytes ≡ Some (y, rest)
    → bytes ≡ word y ++ 32 ∷ rest
word_is word [] bytes y rest e = absurd cc
word_is word (x ∷ xs) bytes y rest e =
    or_word_is x y bytes rest [] word (behind (word x ++ 32 ∷ []) bytes) (word_at word xs bytes) refl (word_is word xs bytes y rest) e
