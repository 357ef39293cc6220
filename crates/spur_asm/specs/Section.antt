-- What the lines of one board say, from its `.board` up to the next. Nothing here reads.
use Rattle.std.specs.Prelude.{◌≡◌, ◌≢◌, ℕ, ◌+◌, ◌*◌, ◌^◌, ◌≤◌, List, [], ◌∷◌, length, Option, Some, None, ℤ, pos, ◌+ℤ◌, ⊤, IfSome, unsigned_abs}
use Rattle.std.specs.Int.{int_rem_euclid}
use Rattle.std.specs.List.{AllPairs, Contains, filter_map}
use Rattle.spur_isa.specs.declared.instr.Instr.{Instr}
use Rattle.spur_isa.specs.declared.instr.Instr.TheVariants.{Beq, Bne, Blt, Bge, Jmp, Call}
use Rattle.spur_object.specs.declared.unit.BoardText.{BoardText}
use Rattle.spur_object.specs.declared.unit.PageText.{PageText}
use Rattle.spur_object.specs.declared.unit.WordText.{WordText}
use Rattle.spur_asm.specs.Item.{Item, Label, Page, Word, Seg, Code}

-- ---- what an item adds to the unit

-- a number modulo 2 ^ 32
abbrev pub low_word : ℤ → ℕ
low_word z = unsigned_abs (int_rem_euclid z (pos (2 ^ 32)))

-- a declared page: segment * 2 ^ 18 + page in the segment
abbrev pub page_text_in : Item → Option PageText
page_text_in (Page segment place prot) = Some (record { page = segment * 2 ^ 18 + place; prot = prot })
page_text_in other = None

-- a word at segment * 2 ^ 30 + byte in the segment; its value is taken modulo 2 ^ 32
abbrev pub word_text_in : Item → Option WordText
word_text_in (Word segment offset value) = Some (record { at = segment * 2 ^ 30 + offset; value = low_word value })
word_text_in other = None

abbrev pub segs_in : Item → Option (List ℕ)
segs_in (Seg first second third fourth) = Some (first ∷ second ∷ third ∷ fourth ∷ [])
segs_in other = None

abbrev pub code_in : Item → Option Instr
code_in (Code instr label) = Some instr
code_in other = None

-- ---- labels

-- a label's name, and its place: the number of the board's instructions before it
pub record Named : Type 0 where
  pub name : List ℕ
  pub place : ℕ

-- the labels among these items, before which the board has n instructions
abbrev pub labels_in : ℕ → List Item → List Named
labels_in n [] = []
labels_in n (Label name ∷ items) = record { name = name; place = n } ∷ labels_in n items
labels_in n (Code instr label ∷ items) = labels_in (n + 1) items
labels_in n (other ∷ items) = labels_in n items

-- the immediate of an instruction that goes to a label
abbrev pub jump_of : Instr → Option ℤ
jump_of (Beq a b i) = Some i
jump_of (Bne a b i) = Some i
jump_of (Blt a b i) = Some i
jump_of (Bge a b i) = Some i
jump_of (Jmp i) = Some i
jump_of (Call a i) = Some i
jump_of other = None

-- from the place behind this one, the immediate leads to the label of this name
pub record LeadsTo (labels : List Named) (here : ℕ) (name : List ℕ) (i : ℤ) : Type 0 where
  pub there : ℕ
  pub named : Contains labels (record { name = name; place = there })
  pub distance : pos there ≡ pos (here + 1) +ℤ i

-- each instruction among these items that goes to a label goes to one of these; before them the board has n instructions
abbrev pub AllLead : List Named → ℕ → List Item → Type 0
AllLead labels n [] = ⊤
AllLead labels n (Code instr label ∷ items) = IfSome (jump_of instr) (λ i. LeadsTo labels n label i) × AllLead labels (n + 1) items
AllLead labels n (other ∷ items) = AllLead labels n items

-- ---- boards

-- the segment registers with which a board begins
abbrev pub first_segs : List ℕ
first_segs = 0 ∷ 1 ∷ 2 ∷ 3 ∷ []

-- the segment registers that at most one `.seg` sets
abbrev pub SetsSegs : List (List ℕ) → List ℕ → Type 0
SetsSegs [] segs = segs ≡ first_segs
SetsSegs (set ∷ []) segs = segs ≡ set
SetsSegs (set ∷ again ∷ more) segs = ⊥

-- the items behind a `.board` make this board: its code is their instructions in order, no label is there twice, and each instruction that
-- goes to a label leads to that label of the board
pub record SaysBoard (items : List Item) (board : BoardText) : Type 0 where
  pub code : board.code ≡ filter_map code_in items
  pub few : length board.code ≤ 4096
  pub segs : SetsSegs (filter_map segs_in items) board.segs
  pub once : AllPairs (λ one other. one.name ≢ other.name) (labels_in 0 items)
  pub lead : AllLead (labels_in 0 items) 0 items
