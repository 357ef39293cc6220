-- The four shapes of a line: empty, a label, a statement, a label and a statement.
use Rattle.std.proofs.Common.{◌≡◌, ℕ, List, [], ◌∷◌, None, refl}
use Rattle.spur_asm.specs.Item.{Item, Label, Page, Word, Board, Seg, Code, IsLine, IsStatement}
use Rattle.spur_asm.proofs.Levels.{label_of}

pub data Shape (items : List Item) : Type 0 where
  Blank : items ≡ [] → Shape items
  Labelled : (name : List ℕ) → items ≡ Label name ∷ [] → Shape items
  Bare : (item : Item) → label_of item ≡ None → items ≡ item ∷ [] → Shape items
  Both : (name : List ℕ) (item : Item) → label_of item ≡ None → items ≡ Label name ∷ item ∷ [] → Shape items

-- no statement follows another
no_more : (one two : Item) (items : List Item) → IsStatement (one ∷ two ∷ items) → ⊥
no_more (Label name) two items is = is
no_more (Page segment place prot) two items is = is
no_more (Word segment offset value) two items is = is
no_more Board two items is = is
no_more (Seg first second third fourth) two items is = is
no_more (Code instr label) two items is = is

-- a statement is no label
plain_one : (item : Item) → IsStatement (item ∷ []) → label_of item ≡ None
plain_one (Label name) is = absurd is
plain_one (Page segment place prot) is = refl
plain_one (Word segment offset value) is = refl
plain_one Board is = refl
plain_one (Seg first second third fourth) is = refl
plain_one (Code instr label) is = refl

bare_line : (item : Item) (items : List Item) → label_of item ≡ None → IsLine (item ∷ items) → IsStatement (item ∷ items)
bare_line (Label name) items plain is = absurd cc
bare_line (Page segment place prot) items plain is = is
bare_line (Word segment offset value) items plain is = is
bare_line Board items plain is = is
bare_line (Seg first second third fourth) items plain is = is
bare_line (Code instr label) items plain is = is

behind_name : (name : List ℕ) (items : List Item) → IsStatement items → Shape (Label name ∷ items)
behind_name name [] is = Labelled name refl
behind_name name (item ∷ []) is = Both name item (plain_one item is) refl
behind_name name (one ∷ two ∷ items) is = absurd (no_more one two items is)

bare_shape : (item : Item) (items : List Item) → label_of item ≡ None → IsLine (item ∷ items) → Shape (item ∷ items)
bare_shape item [] plain is = Bare item plain refl
bare_shape item (two ∷ items) plain is = absurd (no_more item two items (bare_line item (two ∷ items) plain is))

pub shape : (items : List Item) → IsLine items → Shape items
shape [] is = Blank refl
shape (Label name ∷ items) is = behind_name name items is
shape (Page segment place prot ∷ items) is = bare_shape (Page segment place prot) items refl is
shape (Word segment offset value ∷ items) is = bare_shape (Word segment offset value) items refl is
shape (Board ∷ items) is = bare_shape Board items refl is
shape (Seg first second third fourth ∷ items) is = bare_shape (Seg first second third fourth) items refl is
shape (Code instr label ∷ items) is = bare_shape (Code instr label) items refl is

-- a statement alone, and one behind a label, are lines
pub statement_alone : (item : Item) → label_of item ≡ None → IsStatement (item ∷ [])
statement_alone (Label name) plain = absurd cc
statement_alone (Page segment place prot) plain = tt
statement_alone (Word segment offset value) plain = tt
statement_alone Board plain = tt
statement_alone (Seg first second third fourth) plain = tt
statement_alone (Code instr label) plain = tt

pub bare_is_line : (item : Item) → label_of item ≡ None → IsLine (item ∷ [])
bare_is_line (Label name) plain = absurd cc
bare_is_line (Page segment place prot) plain = tt
bare_is_line (Word segment offset value) plain = tt
bare_is_line Board plain = tt
bare_is_line (Seg first second third fourth) plain = tt
bare_is_line (Code instr label) plain = tt
