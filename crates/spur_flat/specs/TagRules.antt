-- What the cache lines of the boards ask of an entry: the ownership rules, as eighteen conditions with their numbers.
use Rattle.std.specs.Prelude.{ℕ, ◌+◌, ◌/◌, ◌^◌, ◌==◌, ◌&&◌, ◌||◌, not, Bool, true, false, if◌then◌else◌, List, [], ◌∷◌, slice_index, Option, Some, None}
use Rattle.std.specs.List.{list_any}
use Rattle.spur_addr.specs.Address.{block_of}
use Rattle.spur_addr.specs.PageEntry.{is_valid, is_referenced, is_dirty, is_leaving}
use Rattle.spur_snoop.specs.declared.BlockState.{BlockState}
use Rattle.spur_snoop.specs.declared.BlockState.TheVariants.{Invalid, UnOwned, OwnedNonExclusive, OwnedExclusive}
use Rattle.spur_snoop.specs.declared.Need.{Need}
use Rattle.spur_snoop.specs.declared.Need.TheVariants as need
use Rattle.spur_snoop.specs.Protocol.{is_alive, is_exclusive, is_owned}
use Rattle.spur_flat.specs.declared.flat.Flat.{Flat}
use Rattle.spur_flat.specs.declared.access.AccessKind.TheVariants as access
use Rattle.spur_flat.specs.declared.access.AccessKind.{AccessKind}
use Rattle.spur_flat.specs.Access.{allows}
use Rattle.spur_flat.specs.declared.tag.Tag.{Tag}
use Rattle.spur_flat.specs.declared.illegal.Illegal.{Illegal}
use Rattle.spur_flat.specs.declared.illegal.Clause.TheVariants as clause
use Rattle.spur_flat.specs.declared.entry.Layer.{Layer}
use Rattle.spur_flat.specs.declared.entry.Layer.TheVariants as layer
use Rattle.spur_flat.specs.declared.entry.Entry.{Entry}
use Rattle.spur_flat.specs.declared.entry.Entry.TheVariants.{Load, Store, Tas, Fault, Fill, Claim, WriteBack, Refresh, BlockFlush, Leave, PageOut, PageIn, SetRef, SetDirty, ClearRef}
use Rattle.spur_flat.specs.Refused.{refused, unless}
use Rattle.spur_flat.specs.Blocks.{entry_block, root_word_of, layer_of, is_layer}
use Rattle.spur_flat.specs.Pager.{word_of}
use Rattle.spur_flat.specs.TagLines.{block_state, standing_tag, tag_at, lines_at}

-- the numbers of the states
abbrev pub state_number : BlockState → ℕ
state_number Invalid = 0
state_number UnOwned = 1
state_number OwnedNonExclusive = 2
state_number OwnedExclusive = 3

-- a condition on tags, by its number, with the number that is found
abbrev pub tag_condition : Bool → ℕ → ℕ → Option Illegal → Option Illegal
tag_condition test number found rest = unless clause.Tags test number found rest

-- the dirty copy of a line: clear where it holds nothing
abbrev pub dirty_copy : Option Tag → Bool
dirty_copy None = false
dirty_copy (Some tag) = tag.dirty

-- condition 1: the block of a load is valid at its board
abbrev pub load_refusal : Option Tag → Option Illegal
load_refusal own = tag_condition (is_alive (block_state own)) 1 (state_number (block_state own)) None

-- conditions 2 and 3: the block of a store or a test-and-set is exclusive at its board, with its dirty copy set
abbrev pub write_refusal : Option Tag → Option Illegal
write_refusal own = tag_condition (is_exclusive (block_state own)) 2 (state_number (block_state own)) (tag_condition (dirty_copy own) 3 0 None)

-- condition 4: the block of the page-table entry that an entry of the pager changes is exclusive at its board; this is
-- its state
abbrev pub pager_refusal : BlockState → Option Illegal → Option Illegal
pager_refusal state rest = tag_condition (is_exclusive state) 4 (state_number state) rest

-- the access that a fill is for
abbrev pub access_of : Need → AccessKind
access_of need.Read = access.Load
access_of need.Write = access.Store

abbrev pub is_read : Need → Bool
is_read need.Read = true
is_read need.Write = false

-- whether a user's block may be filled under an entry: valid and referenced, not leaving, the need allowed, and dirty
-- where it is filled for writing
abbrev pub may_fill : ℕ → Need → Bool
may_fill e need = is_valid e && is_referenced e && not (is_leaving e) && allows e (access_of need) && (is_dirty e || is_read need)

-- conditions 8 to 11: what a fill needs of the tables, by its layer. For a user's block the block of its page-table entry
-- is valid at the board (8), and that entry lets it (10); for a block of the page table the same of the root entry (9 and
-- 11); for one of the root nothing. `above` is the state of the block of that entry.
abbrev pub table_refusal : Flat → Layer → Need → ℕ → BlockState → Option Illegal
table_refusal F layer.UserBlock need at above = tag_condition (is_alive above) 8 (state_number above) (tag_condition (may_fill (word_of F at) need) 10 (word_of F at) None)
table_refusal F layer.PteBlock need at above = tag_condition (is_alive above) 9 (state_number above) (tag_condition (is_valid (slice_index F.words (root_word_of at))) 11 (slice_index F.words (root_word_of at)) None)
table_refusal F layer.RootBlock need at above = None

-- conditions 5 to 11: a fill is of its address's layer, of a block that the board lacks, and replaces no owned block. own is
-- the tag of the block, there what stands on its place, above the tag of the block of the entry above.
abbrev pub fill_refusal : Flat → Layer → Need → ℕ → Option Tag → Option Tag → Option Tag → Option Illegal
fill_refusal F layer need at own there above =
    tag_condition (is_layer (layer_of at) layer) 5 0
    (tag_condition (not (is_alive (block_state own))) 6 (state_number (block_state own))
    (tag_condition (not (is_owned (block_state there))) 7 (state_number (block_state there))
    (table_refusal F layer need at (block_state above))))

-- condition 12: a claimed block is there, and not yet owned alone
abbrev pub may_claim : BlockState → Bool
may_claim Invalid = false
may_claim UnOwned = true
may_claim OwnedNonExclusive = true
may_claim OwnedExclusive = false

abbrev pub claim_refusal : BlockState → Option Illegal
claim_refusal state = tag_condition (may_claim state) 12 (state_number state) None

-- condition 13: a block that is written back is owned
abbrev pub write_back_refusal : BlockState → Option Illegal
write_back_refusal state = tag_condition (is_owned state) 13 (state_number state) None

-- conditions 14 and 15: a block that is refreshed is there with its dirty copy clear, the block of its page's entry is
-- there, and that entry is dirty and not leaving
abbrev pub refresh_refusal : ℕ → Option Tag → BlockState → Option Illegal
refresh_refusal e own above =
    tag_condition (is_alive (block_state own) && not (dirty_copy own) && is_alive above) 14 (state_number above)
    (tag_condition (is_dirty e && not (is_leaving e)) 15 e None)

-- conditions 16 and 17: a block that is flushed is there, and its page is leaving
abbrev pub flush_refusal : ℕ → BlockState → Option Illegal
flush_refusal e state = tag_condition (is_alive state) 16 (state_number state) (tag_condition (is_valid e && is_leaving e) 17 e None)

-- whether a line holds a block of a page, and whether one of a board's lines does
abbrev pub is_tag_of_page : ℕ → Option Tag → Bool
is_tag_of_page page None = false
is_tag_of_page page (Some tag) = tag.block / 2 ^ 7 == page

abbrev pub holds_page : ℕ → List (Option Tag) → Bool
holds_page page lines = list_any (is_tag_of_page page) lines

-- the first board, from number k on, that has a block of a page
abbrev pub holder_from : ℕ → ℕ → List (List (Option Tag)) → Option ℕ
holder_from page k [] = None
holder_from page k (lines ∷ rest) = if holds_page page lines then Some k else holder_from page (k + 1) rest

-- condition 18: no board holds a block of a page that goes out: FOUND is the first that does
abbrev pub unheld : Option ℕ → Option Illegal
unheld None = None
unheld (Some board) = refused clause.Tags 18 board

-- the state of the block of the entry of the page of g, at a board
abbrev pub entry_state : List (List (Option Tag)) → ℕ → ℕ → BlockState
entry_state T board at = block_state (tag_at T board (entry_block at))

-- why an entry is refused by the tags: None where it is not
abbrev pub tags_refusal : Flat → List (List (Option Tag)) → Entry → Option Illegal
tags_refusal F T (Load board at value) = load_refusal (tag_at T board (block_of at))
tags_refusal F T (Store board at value) = write_refusal (tag_at T board (block_of at))
tags_refusal F T (Tas board at old) = write_refusal (tag_at T board (block_of at))
tags_refusal F T (Fault board kind access at) = None
tags_refusal F T (Fill board layer need at) = fill_refusal F layer need at (tag_at T board (block_of at)) (standing_tag (lines_at T board) (block_of at)) (tag_at T board (entry_block at))
tags_refusal F T (Claim board at) = claim_refusal (block_state (tag_at T board (block_of at)))
tags_refusal F T (WriteBack board at) = write_back_refusal (block_state (tag_at T board (block_of at)))
tags_refusal F T (Refresh board at) = refresh_refusal (word_of F at) (tag_at T board (block_of at)) (entry_state T board at)
tags_refusal F T (BlockFlush board holder at) = flush_refusal (word_of F at) (block_state (tag_at T holder (block_of at)))
tags_refusal F T (Leave board at) = pager_refusal (entry_state T board at) None
tags_refusal F T (PageOut board at) = pager_refusal (entry_state T board at) (unheld (holder_from (at / 2 ^ 12) 0 T))
tags_refusal F T (PageIn board at frame) = pager_refusal (entry_state T board at) None
tags_refusal F T (SetRef board at) = pager_refusal (entry_state T board at) None
tags_refusal F T (SetDirty board at) = pager_refusal (entry_state T board at) None
tags_refusal F T (ClearRef board at) = pager_refusal (entry_state T board at) None
