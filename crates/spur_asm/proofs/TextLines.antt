-- A text and its lines, both ways.
use Rattle.std.proofs.Common.{◌≡◌, ◌≢◌, ℕ, List, [], ◌∷◌, ◌++◌, refl, sym, ap, ◌∙◌, inl, inr, slice_index_or, subst}
use Rattle.std.specs.Prelude.{◌⊎◌}
use Rattle.std.proofs.lemmas.Bool.{cases_Bool, eqb-true, eqb-false, ne_eqb}
use Rattle.std.proofs.lemmas.List.{append-nil, append_assoc}
use Rattle.std.proofs.lemmas.List.Elements.{All-from_recursion, recursion_from_All}
use Rattle.std.specs.List.{All, AllByRecursion, onto_first}
use Rattle.spur_asm.specs.Bytes.{is_feed}
use Rattle.spur_asm.specs.Says.{ended, EndsOpen, HasLines}
use Rattle.spur_asm.specs.Text.{lines_of}

-- no byte is a line feed
abbrev IsWhole : List ℕ → Type 0
IsWhole line = AllByRecursion (λ b. b ≢ 10) line

abbrev AreWhole : List (List ℕ) → Type 0
AreWhole lines = AllByRecursion IsWhole lines

-- ---- the lines of a text that is put together from lines

line_read : (line rest : List ℕ) → IsWhole line → lines_of (line ++ (10 ∷ rest)) ≡ line ∷ lines_of rest
line_read [] rest whole = refl
line_read (b ∷ line) rest whole = rw (ne_eqb b 10 whole.0, line_read line rest whole.1) refl

ended_line : (line rest : List ℕ) → (line ++ (10 ∷ [])) ++ rest ≡ line ++ (10 ∷ rest)
ended_line line rest = append_assoc line (10 ∷ []) rest

-- whole lines with a line feed each, and more behind them
lines_read : (lines : List (List ℕ)) (more : List ℕ) → AreWhole lines → lines_of (ended lines ++ more) ≡ lines ++ lines_of more
lines_read [] more whole = refl
lines_read (line ∷ lines) more whole =
    ap lines_of (append_assoc (line ++ (10 ∷ [])) (ended lines) more ∙ ended_line line (ended lines ++ more))
    ∙ line_read line (ended lines ++ more) whole.0
    ∙ ap (λ (ls : List (List ℕ)). line ∷ ls) (lines_read lines more whole.1)

last_read : (b : ℕ) (line : List ℕ) → IsWhole (b ∷ line) → lines_of (b ∷ line) ≡ (b ∷ line) ∷ []
last_read b [] whole = rw (ne_eqb b 10 whole.0) refl
last_read b (c ∷ line) whole = rw (ne_eqb b 10 whole.0, last_read c line whole.1) refl

some_last_read : (line : List ℕ) → line ≢ [] → IsWhole line → lines_of line ≡ line ∷ []
some_last_read [] some whole = absurd (some refl)
some_last_read (b ∷ line) some whole = last_read b line whole

whole_last : (front : List (List ℕ)) (last : List ℕ) → AreWhole (front ++ (last ∷ [])) → AreWhole front × IsWhole last
whole_last [] last whole = (tt, whole.0)
whole_last (line ∷ front) last whole = (let on = whole_last front last whole.1 in ((whole.0, on.0), on.1))

open_read : (text : List ℕ) (lines : List (List ℕ)) (o : EndsOpen text lines) → AreWhole lines → lines_of text ≡ lines
open_read text lines o whole =
    let parts = whole_last o.front o.last (subst AreWhole o.are whole) in
    ap lines_of o.joined
    ∙ lines_read o.front o.last parts.0
    ∙ ap (λ (ls : List (List ℕ)). o.front ++ ls) (some_last_read o.last o.some parts.1)
    ∙ sym o.are

ended_read : (text : List ℕ) (lines : List (List ℕ)) → text ≡ ended lines → AreWhole lines → lines_of text ≡ lines
ended_read text lines joined whole = ap lines_of (joined ∙ sym (append-nil (ended lines))) ∙ lines_read lines [] whole ∙ append-nil lines

whole_lines : (lines : List (List ℕ)) → All (λ line. All (λ b. b ≢ 10) line) lines → AreWhole lines
whole_lines lines h = recursion_from_All IsWhole lines (λ k d lt. recursion_from_All (λ b. b ≢ 10) (slice_index_or lines k d) (h k d lt))

-- the lines that a text has are those that are cut out of it
pub are_lines_of : (text : List ℕ) (lines : List (List ℕ)) → HasLines text lines → lines_of text ≡ lines
are_lines_of text lines h = elim h.joined [
  | inl joined ↦ ended_read text lines joined (whole_lines lines h.whole)
  | inr o ↦ open_read text lines o (whole_lines lines h.whole)
]

-- ---- the lines that are cut out of a text

onto_whole : (b : ℕ) (lines : List (List ℕ)) → b ≢ 10 → AreWhole lines → AreWhole (onto_first b lines)
onto_whole b [] apart whole = ((apart, tt), tt)
onto_whole b (line ∷ lines) apart whole = ((apart, whole.0), whole.1)

whole_at : (b : ℕ) (bytes : List ℕ) → AreWhole (lines_of bytes) → AreWhole (lines_of (b ∷ bytes))
whole_at b bytes whole =
    elim (cases_Bool (is_feed b)) [
      | inl at ↦ rw at (tt, whole)
      | inr on ↦ rw on (onto_whole b (lines_of bytes) (eqb-false b 10 on) whole)
    ]

lines_whole : (text : List ℕ) → AreWhole (lines_of text)
lines_whole [] = tt
lines_whole (b ∷ bytes) = whole_at b bytes (lines_whole bytes)

-- the text is these lines, of which the last may lack its line feed
abbrev IsJoined : List ℕ → List (List ℕ) → Type 0
IsJoined text lines = (text ≡ ended lines) ⊎ EndsOpen text lines

-- behind a line feed
joined_feed : (b : ℕ) (bytes : List ℕ) (lines : List (List ℕ)) → b ≡ 10 → IsJoined bytes lines → IsJoined (b ∷ bytes) ([] ∷ lines)
joined_feed b bytes lines feed h = elim h [
  | inl joined ↦ inl (λ k. feed k ∷ joined k)
  | inr o ↦ inr (record {
    front = [] ∷ o.front;
    last = o.last;
    are = ap (λ (ls : List (List ℕ)). [] ∷ ls) o.are;
    some = o.some;
    joined = (let joined = o.joined in λ k. feed k ∷ joined k);
  })
]

-- behind another byte
open_onto : (b : ℕ) (bytes : List ℕ) (lines front : List (List ℕ)) (last : List ℕ) → lines ≡ front ++ (last ∷ []) → last ≢ [] → bytes ≡ ended front ++ last → EndsOpen (b ∷ bytes) (onto_first b lines)
open_onto b bytes lines [] last are some joined = record {
  front = [];
  last = b ∷ last;
  are = ap (onto_first b) are;
  some = λ same. absurd cc;
  joined = ap (λ (bs : List ℕ). b ∷ bs) joined;
}
open_onto b bytes lines (line ∷ front) last are some joined = record {
  front = (b ∷ line) ∷ front;
  last = last;
  are = ap (onto_first b) are;
  some = some;
  joined = ap (λ (bs : List ℕ). b ∷ bs) joined;
}

ended_onto : (b : ℕ) (bytes : List ℕ) (lines : List (List ℕ)) → bytes ≡ ended lines → IsJoined (b ∷ bytes) (onto_first b lines)
ended_onto b bytes [] joined = inr (record {
  front = [];
  last = b ∷ [];
  are = refl;
  some = λ same. absurd cc;
  joined = ap (λ (bs : List ℕ). b ∷ bs) joined;
})
ended_onto b bytes (line ∷ lines) joined = inl (ap (λ (bs : List ℕ). b ∷ bs) joined)

joined_onto : (b : ℕ) (bytes : List ℕ) (lines : List (List ℕ)) → IsJoined bytes lines → IsJoined (b ∷ bytes) (onto_first b lines)
joined_onto b bytes lines h = elim h [
  | inl joined ↦ ended_onto b bytes lines joined
  | inr o ↦ inr (open_onto b bytes lines o.front o.last o.are o.some o.joined)
]

joined_at : (b : ℕ) (bytes : List ℕ) → IsJoined bytes (lines_of bytes) → IsJoined (b ∷ bytes) (lines_of (b ∷ bytes))
joined_at b bytes h =
    elim (cases_Bool (is_feed b)) [
      | inl at ↦ rw at (joined_feed b bytes (lines_of bytes) (eqb-true b 10 at) h)
      | inr on ↦ rw on (joined_onto b bytes (lines_of bytes) h)
    ]

lines_joined : (text : List ℕ) → IsJoined text (lines_of text)
lines_joined [] = inl refl
lines_joined (b ∷ bytes) = joined_at b bytes (lines_joined bytes)

from_whole : (lines : List (List ℕ)) → AreWhole lines → All (λ line. All (λ b. b ≢ 10) line) lines
from_whole lines h = λ k d lt. All-from_recursion (λ b. b ≢ 10) (slice_index_or lines k d) (All-from_recursion IsWhole lines h k d lt)

-- a text has the lines that are cut out of it
pub has_lines : (text : List ℕ) → HasLines text (lines_of text)
has_lines text = record { joined = lines_joined text; whole = from_whole (lines_of text) (lines_whole text) }
