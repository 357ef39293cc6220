-- Histories of one board, worked out: which of their entries are needed, and which are refused. Addresses are in
-- hexadecimal. Page 0 has its entry at 3fc0000000 and its root entry at 3fcff00000. A block has 32 bytes.
use Rattle.std.specs.Prelude.{ℕ, ◌≡◌, List, [], ◌∷◌, Option, Some, None}
use Rattle.spur_snoop.specs.declared.Need.TheVariants.{Read, Write}
use Rattle.spur_flat.specs.declared.flat.Flat.{Flat}
use Rattle.spur_flat.specs.declared.tag.Tag.{Tag}
use Rattle.spur_flat.specs.declared.access.AccessKind.TheVariants as access
use Rattle.spur_flat.specs.declared.access.FaultKind.TheVariants.{Missing, Dirty}
use Rattle.spur_flat.specs.declared.illegal.Clause.TheVariants as clause
use Rattle.spur_flat.specs.declared.entry.Layer.TheVariants.{RootBlock, PteBlock, UserBlock}
use Rattle.spur_flat.specs.declared.entry.Entry.{Entry}
use Rattle.spur_flat.specs.declared.entry.Entry.TheVariants.{Load, Store, Fault, Fill, Claim, WriteBack, Refresh, PageIn, SetDirty}
use Rattle.spur_flat.specs.Refused.{refused}
use Rattle.spur_flat.specs.History.{IsLegal}
use Rattle.spur_flat.specs.TagRules.{tags_refusal}
use Rattle.spur_flat.specs.Needed.{TooMany, Useless, Greedy, lack_of, open_on}
use Rattle.spur_flat.specs.State.{State, IsNeeded, IsTagged, open_after, state_refusal, history_refusal}

-- one board, with nothing open, whose open entries have no numbers
abbrev pub none_open : List (List Entry)
none_open = [] ∷ []

abbrev pub no_numbers : List (List ℕ)
no_numbers = [] ∷ []

-- page 0 comes in, its word at 40 is loaded and then stored. Among 4096 lines the word's
-- block has one of its own, and the other two share one
abbrev pub many_lines : List Entry
many_lines =
    Fill 0 RootBlock Read 0x3fcff00000
    ∷ Fill 0 PteBlock Read 0x3fc0000000
    ∷ Fault 0 Missing access.Load 0x40
    ∷ Claim 0 0x3fc0000000
    ∷ PageIn 0 0 65
    ∷ Fill 0 UserBlock Read 0x40
    ∷ Load 0 0x40 41
    ∷ Fault 0 Dirty access.Store 0x40
    ∷ SetDirty 0 0
    ∷ Refresh 0 0x40
    ∷ Claim 0 0x40
    ∷ Store 0 0x40 42
    ∷ []

abbrev pub ManyLinesAreNeeded : Type 0
ManyLinesAreNeeded = IsNeeded 4096 none_open many_lines

-- the same of its word at 0. Among 16 lines the three blocks are on one: so each fill replaces what stood there, and the
-- block of the page's entry, which is owned, is written back first
abbrev pub one_line : List Entry
one_line =
    Fill 0 RootBlock Read 0x3fcff00000
    ∷ Fill 0 PteBlock Read 0x3fc0000000
    ∷ Fault 0 Missing access.Load 0
    ∷ Claim 0 0x3fc0000000
    ∷ PageIn 0 0 65
    ∷ WriteBack 0 0x3fc0000000
    ∷ Fill 0 UserBlock Read 0
    ∷ Load 0 0 41
    ∷ Fill 0 RootBlock Read 0x3fcff00000
    ∷ Fill 0 PteBlock Read 0x3fc0000000
    ∷ Fault 0 Dirty access.Store 0
    ∷ Claim 0 0x3fc0000000
    ∷ SetDirty 0 0
    ∷ WriteBack 0 0x3fc0000000
    ∷ Fill 0 UserBlock Write 0
    ∷ Store 0 0 42
    ∷ []

abbrev pub OneLineIsNeeded : Type 0
OneLineIsNeeded = IsNeeded 16 none_open one_line

-- a load of the word at 40 finds its page missing
abbrev pub missing : Entry
missing = Fault 0 Missing access.Load 0x40

-- the block of other root entries serves nothing there
abbrev pub other_root : Entry
other_root = Fill 0 RootBlock Read 0x3fcff00020

abbrev pub OtherRootIsUseless : Type 0
OtherRootIsUseless = lack_of 4096 (open_on none_open other_root) missing ≡ Some (Useless 0)

-- and the block of its root entry serves, but is not to be owned
abbrev pub owned_root : Entry
owned_root = Fill 0 RootBlock Write 0x3fcff00000

abbrev pub OwnedRootIsGreedy : Type 0
OwnedRootIsGreedy = lack_of 4096 (open_on none_open owned_root) missing ≡ Some (Greedy 0)

-- a block on a line of none of the three is written back for nothing: that of the word at 1020 is on line 129
abbrev pub other_line : Entry
other_line = WriteBack 0 0x1020

abbrev pub OtherLineIsUseless : Type 0
OtherLineIsUseless = lack_of 4096 (open_on none_open other_line) missing ≡ Some (Useless 0)

-- and before a load of the word at 40 the block of its page's entry is of use, but is not to be owned
abbrev pub load : Entry
load = Load 0 0x40 41

abbrev pub claimed_entry : Entry
claimed_entry = Claim 0 0x3fc0000000

abbrev pub ClaimedEntryIsGreedy : Type 0
ClaimedEntryIsGreedy = lack_of 4096 (open_on none_open claimed_entry) load ≡ Some (Greedy 0)

-- a fill of the block of the word at 40, and six of them
abbrev pub one_fill : Entry
one_fill = Fill 0 UserBlock Read 0x40

abbrev pub six_fills : List Entry
six_fills = one_fill ∷ one_fill ∷ one_fill ∷ one_fill ∷ one_fill ∷ one_fill ∷ []

-- a seventh open entry is too many, whatever it is of; a sixth is not
abbrev pub SeventhIsTooMany : Type 0
SeventhIsTooMany = lack_of 4096 (open_after none_open six_fills) one_fill ≡ Some TooMany

abbrev pub SixthIsNot : Type 0
SixthIsNot = IsNeeded 4096 none_open six_fills

-- the state of one board with these open entries and 4096 lines
abbrev pub with_open : Flat → List (List (Option Tag)) → List (List Entry) → State
with_open F T opened = record { flat = F; tags = T; opened = opened; lines = 4096 }

-- a history of an open entry and one that it is to serve, which is legal and tagged, is refused by the condition with this
-- number: FOUND is 1, the number of the first
abbrev pub IsRefusedBy : ℕ → Entry → Entry → Type 0
IsRefusedBy condition opens serves = (F : Flat) (T : List (List (Option Tag)))
    → IsLegal F (opens ∷ serves ∷ []) → IsTagged F T (opens ∷ serves ∷ [])
    → history_refusal 0 no_numbers (with_open F T none_open) (opens ∷ serves ∷ []) ≡ refused clause.Needed condition 1

abbrev pub OtherRootIsRefused : Type 0
OtherRootIsRefused = IsRefusedBy 2 other_root missing

abbrev pub OwnedRootIsRefused : Type 0
OwnedRootIsRefused = IsRefusedBy 3 owned_root missing

abbrev pub OtherLineIsRefused : Type 0
OtherLineIsRefused = IsRefusedBy 2 other_line missing

abbrev pub ClaimedEntryIsRefused : Type 0
ClaimedEntryIsRefused = IsRefusedBy 3 claimed_entry load

-- a seventh fill, which the tags allow, is refused by the first condition: FOUND is 7, whatever the numbers of the others
abbrev pub SeventhIsRefused : Type 0
SeventhIsRefused = (F : Flat) (T : List (List (Option Tag))) (numbers : List (List ℕ)) → tags_refusal F T one_fill ≡ None
    → state_refusal numbers (with_open F T (open_after none_open six_fills)) one_fill ≡ refused clause.Needed 1 7
