-- What the cursor reads of one field, or why it stops there.
use Rattle.std.specs.Prelude.{slice_index}
use Rattle.std.specs.List.{All}
use Rattle.byteorder.specs.Endian.{big_number}
use Rattle.std.proofs.Common.{◌≡◌, ℕ, ◌^◌, ◌<◌, ◌≤◌, List, [], ◌∷◌, ◌++◌, length, take, drop, refl, sym, ap, ◌∙◌, subst, arith, Result, Err, IfErr}
use Rattle.std.proofs.lemmas.List.{append-nil, length-take-le, take-append-drop}
use Rattle.std.proofs.lemmas.List.Elements.{All-replicate}
use Rattle.spur_object.specs.declared.fault.ObjKind.{ObjKind}
use Rattle.spur_object.specs.declared.fault.ObjKind.TheVariants.{Magic, Version, Short, Trailing, BadWord, Field}
use Rattle.spur_object.specs.declared.stop.Stop.{Stop}
use Rattle.spur_object.specs.declared.stop.Stop.TheVariants.{Fault, NoMemory}
use Rattle.spur_object.specs.Fields.{ObjField, bytes_of, number_bytes, number_field}
use Rattle.spur_object.specs.Reading.{AreSegments, Begins, IsFieldKind, IsStop, NoneGoesOn, Stops, Why, one_field, segment_fields, IsWithin}
use Rattle.spur_object.proofs.ByteFacts.{bytes_behind, number_again, number_once}
use Rattle.spur_object.proofs.StopFacts.{IsPart, lift}

-- ---- the exits

-- what is returned where a call stopped
pub out : {X T : Type 0} (IsX : X → Type 0) (fields : X → List ObjField) (all left : List ℕ) (r : Result T Stop) (s : Stop)
    → r ≡ Err s → IsStop IsX fields all left s → IfErr r (λ stop. IsStop IsX fields all left stop)
out {X = X} {T = T} IsX fields all left r s e stop = subst (λ (x : Result T Stop). IfErr x (λ stop. IsStop IsX fields all left stop)) (sym e) stop

-- where a part stops, the whole stops
pub lift_stop : {X Y : Type 0} (IsX : X → Type 0) (part : X → List ObjField) (IsY : Y → Type 0) (whole : Y → List ObjField) (front : List ObjField)
    → IsPart IsX part IsY whole front → (all bytes left : List ℕ) → all ≡ bytes_of front ++ bytes
    → (s : Stop) → IsStop IsX part bytes left s → IsStop IsY whole all left s
lift_stop IsX part IsY whole front is all bytes left all_are (Fault kind) stop = lift IsX part IsY whole front is all bytes left kind all_are stop
lift_stop IsX part IsY whole front is all bytes left all_are NoMemory stop = tt

-- ---- stops at one field

-- the bytes end before a thing of one field is read
pub short_stop : {X : Type 0} (IsX : X → Type 0) (fields : X → List ObjField) (left : List ℕ) (like : X) (next : ObjField)
    → IsX like → fields like ≡ next ∷ [] → (s : Stop) → (s ≡ Fault Short) × (length left < 4) → IsStop IsX fields left left s
short_stop IsX fields left like next is field s short =
    let stops : Stops IsX fields left Short left = record {
      like = like;
      limits = is;
      before = [];
      next = next;
      after = [];
      fields_are = field;
      bytes_are = refl;
      why = short.1;
    } in
    subst (λ (x : Stop). IsStop IsX fields left left x) (sym short.0) stops

why_of : (kind : ObjKind) (next : ObjField) (left : List ℕ) (None : Type 0) → IsFieldKind kind → kind ≡ next.kind → 4 ≤ length left → None → Why kind next left None
why_of Magic next left None is same long none = (same, long, none)
why_of Version next left None is same long none = (same, long, none)
why_of Short next left None is same long none = absurd is
why_of Trailing next left None is same long none = absurd is
why_of BadWord next left None is same long none = (same, long, none)
why_of Field next left None is same long none = (same, long, none)

-- the four bytes are those of no number that may stand here
pub wrong_stop : {X : Type 0} (IsX : X → Type 0) (kind : ObjKind) (to : X → ℕ) (left : List ℕ) (n : ℕ) (like : X) → IsX like → IsFieldKind kind
    → 4 ≤ length left → take 4 left ≡ number_bytes n → n < 2 ^ 32
    → ((x : X) → IsX x → to x < 2 ^ 32) → ((x : X) → IsX x → to x ≡ n → ⊥) → Stops IsX (λ x. one_field kind (to x)) left kind left
wrong_stop {X = X} IsX kind to left n like is kind_is long four below fits none =
    let goes : NoneGoesOn IsX (λ x. one_field kind (to x)) [] (take 4 left) =
    λ x rest more x_is e.
    let own : number_bytes (to x) ++ rest ≡ number_bytes n ++ more =
    ap (λ l. l ++ rest) (sym (append-nil (number_bytes (to x)))) ∙ e ∙ ap (λ l. l ++ more) four in
    none x x_is (number_once (to x) n rest more (fits x x_is) below own) in
    record {
      like = like;
      limits = is;
      before = [];
      next = number_field kind (to like);
      after = [];
      fields_are = refl;
      bytes_are = refl;
      why = why_of kind (number_field kind (to like)) left (NoneGoesOn IsX (λ x. one_field kind (to x)) [] (take 4 left)) kind_is refl long goes;
    }

-- ---- what is read

pub one_begins : {X : Type 0} (IsX : X → Type 0) (kind : ObjKind) (to : X → ℕ) (left rest : List ℕ) (n : ℕ) (x : X) → IsX x → n ≡ to x
    → take 4 left ≡ number_bytes n → rest ≡ drop 4 left → Begins IsX (λ x. one_field kind (to x)) left x rest
one_begins IsX kind to left rest n x is is_number four rest_is =
    let bytes : take 4 left ≡ number_bytes (to x) ++ [] = four ∙ ap number_bytes is_number ∙ sym (append-nil (number_bytes (to x))) in
    record {
      limits = is;
      bytes_are = sym (take-append-drop 4 left) ∙ ap (λ l. l ++ drop 4 left) bytes ∙ ap (λ l. (number_bytes (to x) ++ []) ++ l) (sym rest_is);
    }

-- the bytes of the number that four bytes are
pub number_is : (left four : List ℕ) (n : ℕ) → 4 ≤ length left → four ≡ take 4 left → ((i : ℕ) → slice_index four i < 256) → n ≡ big_number 4 four
    → take 4 left ≡ number_bytes n
number_is left four n long four_is small read =
    let four_long : length four ≡ 4 = ap (λ (l : List ℕ). length l) four_is ∙ length-take-le 4 left long in
    sym (number_again four n four_long small read ∙ four_is)

pub segments_begin : (left four rest : List ℕ) → 4 ≤ length left → four ≡ take 4 left → All (λ b. b < 256) four → rest ≡ drop 4 left
    → Begins AreSegments segment_fields left four rest
segments_begin left four rest long four_is small rest_is = record {
  limits = record { four = ap (λ (l : List ℕ). length l) four_is ∙ length-take-le 4 left long; each = small };
  bytes_are = sym (take-append-drop 4 left) ∙ ap (λ l. l ++ drop 4 left) (sym four_is ∙ sym (append-nil four)) ∙ ap (λ l. (four ++ []) ++ l) (sym rest_is);
}

pub four_zeros : AreSegments (0 ∷ 0 ∷ 0 ∷ 0 ∷ [])
four_zeros = record { four = refl; each = All-replicate (λ (seg : ℕ). seg < 256) 4 0 (omega arith) }

-- ---- one part behind the other

-- what is read, and then more
pub read_on : {X : Type 0} (IsX : X → Type 0) (part : X → List ObjField) (all bytes rest : List ℕ) (front : List ObjField) (x : X)
    → all ≡ bytes_of front ++ bytes → Begins IsX part bytes x rest → all ≡ bytes_of (front ++ part x) ++ rest
read_on IsX part all bytes rest front x so_far begins =
    so_far ∙ ap (λ l. bytes_of front ++ l) begins.bytes_are ∙ sym (bytes_behind front (part x) rest)

-- the one number that may stand here is read
pub read_same : (number : ℕ) (kind : ObjKind) (all bytes rest : List ℕ) (front : List ObjField) (n : ℕ)
    → all ≡ bytes_of front ++ bytes → Begins (IsWithin number number) (one_field kind) bytes n rest → all ≡ bytes_of (front ++ one_field kind number) ++ rest
read_same number kind all bytes rest front n so_far begins =
    let low = begins.limits.low in
    let high = begins.limits.high in
    let same : n ≡ number = omega arith in
    read_on (IsWithin number number) (one_field kind) all bytes rest front n so_far begins
    ∙ ap (λ m. bytes_of (front ++ one_field kind m) ++ rest) same
