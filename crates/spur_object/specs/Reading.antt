-- What a reader of one part of an object has read, or why it stops.
use Rattle.std.specs.Prelude.{◌≡◌, ℕ, ◌%◌, ◌^◌, ◌<◌, ◌≤◌, List, [], ◌∷◌, ◌++◌, length, take, ⊤}
use Rattle.std.specs.List.{All, flat_map}
use Rattle.spur_addr.specs.declared.page_entry.Protection.{Protection}
use Rattle.spur_addr.specs.PageEntry.{protection_number}
use Rattle.spur_object.specs.declared.counts.Counts.{Counts}
use Rattle.spur_object.specs.declared.fault.ObjKind.{ObjKind}
use Rattle.spur_object.specs.declared.fault.ObjKind.TheVariants.{Magic, Version, Short, Trailing, BadWord, Field}
use Rattle.spur_object.specs.declared.stop.Stop.{Stop}
use Rattle.spur_object.specs.declared.stop.Stop.TheVariants.{Fault, NoMemory}
use Rattle.spur_object.specs.Faults.{IsFaulty}
use Rattle.spur_object.specs.Fields.{ObjField, bytes_of, number_field}

-- the bytes begin with the fields of a thing that is within its limits, and the rest is left
pub record Begins {X : Type 0} (IsX : X → Type 0) (fields : X → List ObjField) (bytes : List ℕ) (x : X) (rest : List ℕ) : Type 0 where
  pub limits : IsX x
  pub bytes_are : bytes ≡ bytes_of (fields x) ++ rest

-- no thing within its limits has fields that go on like this
abbrev pub NoneGoesOn : {X : Type 0} → (X → Type 0) → (X → List ObjField) → List ObjField → List ℕ → Type 0
NoneGoesOn {X = X} IsX fields before four =
    (x : X) (rest more : List ℕ) → IsX x → bytes_of (fields x) ++ rest ≡ bytes_of before ++ (four ++ more) → ⊥

-- why nobody can read on at a field: its bytes are not all there, or its bytes are none of those that may stand here
abbrev pub Why : ObjKind → ObjField → List ℕ → Type 0 → Type 0
Why Short next left NoneHas = length left < 4
Why Trailing next left NoneHas = ⊥
Why Magic next left NoneHas = (Magic ≡ next.kind) × (4 ≤ length left) × NoneHas
Why Version next left NoneHas = (Version ≡ next.kind) × (4 ≤ length left) × NoneHas
Why BadWord next left NoneHas = (BadWord ≡ next.kind) × (4 ≤ length left) × NoneHas
Why Field next left NoneHas = (Field ≡ next.kind) × (4 ≤ length left) × NoneHas

-- the bytes begin with the first fields of some such thing, behind which its next field can't be read
pub record Stops {X : Type 0} (IsX : X → Type 0) (fields : X → List ObjField) (bytes : List ℕ) (kind : ObjKind) (left : List ℕ) : Type 0 where
  pub like : X
  pub limits : IsX like
  pub before : List ObjField
  pub next : ObjField
  pub after : List ObjField
  pub fields_are : fields like ≡ before ++ next ∷ after
  pub bytes_are : bytes ≡ bytes_of before ++ left
  pub why : Why kind next left (NoneGoesOn IsX fields before (take 4 left))

-- why a reader of such a thing stopped, with these bytes left
abbrev pub IsStop : {X : Type 0} → (X → Type 0) → (X → List ObjField) → List ℕ → List ℕ → Stop → Type 0
IsStop IsX fields bytes left (Fault kind) = Stops IsX fields bytes kind left
IsStop IsX fields bytes left NoMemory = ⊤

-- why the reader of a whole object stopped, with these bytes left
pub record IsAtFault (bytes : List ℕ) (kind : ObjKind) (left : List ℕ) : Type 0 where
  pub front : List ℕ
  pub bytes_are : bytes ≡ front ++ left
  pub faulty : IsFaulty kind front left

abbrev pub IsEnd : List ℕ → List ℕ → Stop → Type 0
IsEnd bytes left (Fault kind) = IsAtFault bytes kind left
IsEnd bytes left NoMemory = ⊤

-- a field may have this kind of fault
abbrev pub IsFieldKind : ObjKind → Type 0
IsFieldKind Magic = ⊤
IsFieldKind Version = ⊤
IsFieldKind Short = ⊥
IsFieldKind Trailing = ⊥
IsFieldKind BadWord = ⊤
IsFieldKind Field = ⊤

-- a number from `least` to `most`, and its field
pub record IsWithin (least most n : ℕ) : Type 0 where
  pub low : least ≤ n
  pub high : n ≤ most

abbrev pub one_field : ObjKind → ℕ → List ObjField
one_field kind n = number_field kind n ∷ []

-- the place of a word in its segment
pub record IsOffset (offset : ℕ) : Type 0 where
  pub aligned : offset % 4 ≡ 0
  pub below : offset < 2 ^ 30

-- four segment registers, and their field
pub record AreSegments (segs : List ℕ) : Type 0 where
  pub four : length segs ≡ 4
  pub each : All (λ seg. seg < 256) segs

abbrev pub segment_fields : List ℕ → List ObjField
segment_fields segs = record { kind = Field; bytes = segs } ∷ []

-- a protection's field
abbrev pub IsProtection : Protection → Type 0
IsProtection prot = ⊤

abbrev pub protection_fields : Protection → List ObjField
protection_fields prot = one_field Field (protection_number prot)

-- so many things, each within its limits
pub record IsCounted {X : Type 0} (IsX : X → Type 0) (count : ℕ) (xs : List X) : Type 0 where
  pub as_many : length xs ≡ count
  pub each : All IsX xs

abbrev pub list_fields : {X : Type 0} → (X → List ObjField) → List X → List ObjField
list_fields fields xs = flat_map fields xs

-- how many boards, pages and words there may be
pub record AreCounts (counts : Counts) : Type 0 where
  pub some_board : 1 ≤ counts.boards
  pub few_boards : counts.boards ≤ 12
  pub few_pages : counts.pages ≤ 2048
  pub few_words : counts.words ≤ 65536
