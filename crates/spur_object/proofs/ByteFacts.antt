-- The bytes of fields: four a field, one number's alone.
use Rattle.std.specs.Prelude.{slice_index}
use Rattle.std.specs.Int.{w32, from_be_bytes}
use Rattle.byteorder.specs.Endian.{big_number}
use Rattle.byteorder.specs.Numbers.{big_number-reads_back, length-bytes_high_first}
use Rattle.std.proofs.Common.{◌≡◌, ℕ, ◌^◌, ◌<◌, List, [], ◌∷◌, ◌++◌, length, take, drop, refl, sym, ap, ◌∙◌, arith, append_assoc}
use Rattle.std.proofs.lemmas.Grind.{flat_map-append}
use Rattle.std.proofs.lemmas.List.{drop_at, take_at}
use Rattle.std.proofs.lemmas.Nat.{be_bytes_4}
use Rattle.spur_object.specs.declared.fault.ObjKind.{ObjKind}
use Rattle.spur_object.specs.Fields.{ObjField, bytes_of, number_bytes, number_field}

-- ---- lists that go on

-- two lists with fronts of one length
pub record Same {X : Type 0} (xs ys r s : List X) : Type 0 where
  pub fronts : xs ≡ ys
  pub rests : r ≡ s

pub same_fronts : {X : Type 0} (xs ys r s : List X) → length xs ≡ length ys → xs ++ r ≡ ys ++ s → Same xs ys r s
same_fronts xs ys r s long e = record {
  fronts = sym (take_at xs r (length ys) long) ∙ ap (λ l. take (length ys) l) e ∙ take_at ys s (length ys) refl;
  rests = sym (drop_at xs r (length ys) long) ∙ ap (λ l. drop (length ys) l) e ∙ drop_at ys s (length ys) refl;
}

-- ---- one number

pub length_number : (n : ℕ) → length (number_bytes n) ≡ 4
unfolding number_bytes
length_number n = length-bytes_high_first 4 n

pub number_reads : (n : ℕ) (r : List ℕ) → n < 2 ^ 32 → big_number 4 (number_bytes n ++ r) ≡ n
unfolding number_bytes
number_reads n r below = big_number-reads_back 4 n r below

pub number_once : (n m : ℕ) (r s : List ℕ) → n < 2 ^ 32 → m < 2 ^ 32 → number_bytes n ++ r ≡ number_bytes m ++ s → n ≡ m
number_once n m r s n_below m_below e = sym (number_reads n r n_below) ∙ ap (λ l. big_number 4 l) e ∙ number_reads m s m_below

-- the number that four bytes are has these bytes
pub number_again : (bs : List ℕ) (n : ℕ) → length bs ≡ 4 → ((i : ℕ) → slice_index bs i < 256) → n ≡ big_number 4 bs → number_bytes n ≡ bs
unfolding number_bytes
number_again bs n long small is =
    let read : n ≡ from_be_bytes w32 bs = omega arith in
    be_bytes_4 bs n long small read

-- ---- fields

pub bytes_append : (fs gs : List ObjField) → bytes_of (fs ++ gs) ≡ bytes_of fs ++ bytes_of gs
bytes_append fs gs = flat_map-append (λ (field : ObjField). field.bytes) fs gs

-- what stands behind more fields
pub bytes_behind : (fs gs : List ObjField) (r : List ℕ) → bytes_of (fs ++ gs) ++ r ≡ bytes_of fs ++ (bytes_of gs ++ r)
bytes_behind fs gs r = ap (λ l. l ++ r) (bytes_append fs gs) ∙ append_assoc (bytes_of fs) (bytes_of gs) r

pub bytes_cons : (f : ObjField) (fs : List ObjField) (r : List ℕ) → bytes_of (f ∷ fs) ++ r ≡ f.bytes ++ (bytes_of fs ++ r)
bytes_cons f fs r = append_assoc f.bytes (bytes_of fs) r

-- a field in front is taken off on both sides
pub off : (f g : ObjField) (fs gs : List ObjField) (r s : List ℕ) → length f.bytes ≡ length g.bytes
    → bytes_of (f ∷ fs) ++ r ≡ bytes_of (g ∷ gs) ++ s → Same f.bytes g.bytes (bytes_of fs ++ r) (bytes_of gs ++ s)
off f g fs gs r s long e =
    same_fronts f.bytes g.bytes (bytes_of fs ++ r) (bytes_of gs ++ s) long (sym (bytes_cons f fs r) ∙ e ∙ bytes_cons g gs s)

-- a number's field in front is taken off on both sides
pub off_number : (j k : ObjKind) (n m : ℕ) (fs gs : List ObjField) (r s : List ℕ)
    → bytes_of (number_field j n ∷ fs) ++ r ≡ bytes_of (number_field k m ∷ gs) ++ s
    → Same (number_bytes n) (number_bytes m) (bytes_of fs ++ r) (bytes_of gs ++ s)
off_number j k n m fs gs r s e =
    off (number_field j n) (number_field k m) fs gs r s (length_number n ∙ sym (length_number m)) e

-- numbers of 32 bits are one where their bytes are
pub same_number : (n m : ℕ) → n < 2 ^ 32 → m < 2 ^ 32 → number_bytes n ≡ number_bytes m → n ≡ m
same_number n m n_below m_below e = number_once n m [] [] n_below m_below (ap (λ l. l ++ []) e)
