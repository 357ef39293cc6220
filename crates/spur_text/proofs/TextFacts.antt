-- The digits of numbers, and pieces that are put one behind another.
use Rattle.std.proofs.Common.{refl, ◌≡◌, ◌∙◌, ℕ, ◌+◌, ◌/◌, ◌%◌, ◌^◌, ◌<◌, ◌≤◌, List, [], ◌∷◌, ◌++◌, length, ap, arith, append_assoc, length-append}
use Rattle.std.specs.Fmt.{decimal}
use Rattle.std.proofs.lemmas.Fmt.{length-decimal-le, decimal_step, decimal_digit}
use Rattle.spur_text.specs.Digits.{address_digits, word_digits}
use Rattle.spur_text.specs.Written.{Written, onto}

pub one_digit : (n : ℕ) → n < 10 → decimal n ≡ (48 + n) ∷ []
one_digit n small = decimal_digit n small

pub more_digits : (n : ℕ) → 10 ≤ n → n < 2 ^ 32 → decimal n ≡ decimal (n / 10) ++ (48 + n % 10) ∷ []
more_digits n large small = decimal_step n large (omega arith)

pub two_digits : (n : ℕ) → n < 100 → length (decimal n) ≤ 2
two_digits n small = length-decimal-le 2 n (omega arith) (omega arith) (omega arith)

pub four_digits : (n : ℕ) → n < 10000 → length (decimal n) ≤ 4
four_digits n small = length-decimal-le 4 n (omega arith) (omega arith) (omega arith)

pub ten_digits : (n : ℕ) → n < 2 ^ 32 → length (decimal n) ≤ 10
ten_digits n small = length-decimal-le 10 n (omega arith) (omega arith) (omega arith)

pub address_length : (at : ℕ) → length (address_digits at) ≡ 10
unfolding address_digits
address_length at = refl

pub word_length : (word : ℕ) → length (word_digits word) ≡ 8
unfolding word_digits
word_length word = refl

-- two pieces, one behind the other, are one
pub then_onto : (p q r : Written) (a b : List ℕ) → q ≡ onto p a → r ≡ onto q b → r ≡ onto p (a ++ b)
then_onto p q r a b first second =
    second ∙ (ap (λ (x : Written). onto x b) first ∙ ap (λ (x : List ℕ). record { items = x; room = p.room }) (append_assoc p.items a b))

-- a piece may be told otherwise
pub as_piece : (p q : Written) (a b : List ℕ) → a ≡ b → q ≡ onto p a → q ≡ onto p b
as_piece p q a b same put = put ∙ ap (λ (x : List ℕ). onto p x) same

-- a text is longer by so many bytes, in the same room
pub record IsLonger (p q : Written) (n : ℕ) : Type 0 where
  pub items : length q.items ≡ length p.items + n
  pub room : q.room ≡ p.room

pub longer : (p q : Written) (a : List ℕ) → q ≡ onto p a → IsLonger p q (length a)
longer p q a put = record { items = ap (λ (x : Written). length x.items) put ∙ length-append p.items a; room = ap (λ (x : Written). x.room) put }
