-- What each board's lines are known to hold, and what an entry changes there.
use Rattle.std.specs.Prelude.{◌<◌, ◌≡◌, ⊤, ℕ, ◌+◌, ◌%◌, ◌==◌, true, if◌then◌else◌, List, [], ◌∷◌, length, get_or, replicate, slice_get, slice_index, slice_set, Option, Some, None}
use Rattle.spur_addr.specs.Address.{block_of}
use Rattle.spur_addr.specs.PageEntry.{is_dirty, protection_of, number_of}
use Rattle.spur_addr.specs.declared.page_entry.Protection.TheVariants as allow
use Rattle.spur_snoop.specs.declared.BlockState.{BlockState}
use Rattle.spur_snoop.specs.declared.BlockState.TheVariants.{Invalid, UnOwned, OwnedNonExclusive, OwnedExclusive}
use Rattle.spur_snoop.specs.declared.Need.{Need}
use Rattle.spur_snoop.specs.declared.Need.TheVariants as need
use Rattle.spur_snoop.specs.declared.BusKind.{BusKind}
use Rattle.spur_snoop.specs.declared.BusKind.TheVariants as bus
use Rattle.spur_snoop.specs.Protocol.{snooped_of}
use Rattle.spur_flat.specs.declared.flat.Flat.{Flat}
use Rattle.spur_flat.specs.declared.tag.Tag.{Tag}
use Rattle.spur_flat.specs.declared.entry.Layer.{Layer}
use Rattle.spur_flat.specs.declared.entry.Layer.TheVariants as layer
use Rattle.spur_flat.specs.declared.entry.Entry.{Entry}
use Rattle.spur_flat.specs.declared.entry.Entry.TheVariants.{Load, Store, Tas, Fault, Fill, Claim, WriteBack, Refresh, BlockFlush, Leave, PageOut, PageIn, SetRef, SetDirty, ClearRef}
use Rattle.spur_flat.specs.Blocks.{wired_frame, root_word_of}
use Rattle.spur_flat.specs.Pager.{word_of}

-- a place that is not there holds nothing
abbrev pub joined : Option (Option Tag) → Option Tag
joined None = None
joined (Some tag) = tag

-- the place of a block
abbrev pub tag_index : List (Option Tag) → ℕ → ℕ
tag_index lines block = block % length lines

-- what stands on the place of a block
abbrev pub standing_tag : List (Option Tag) → ℕ → Option Tag
standing_tag lines block = joined (slice_get lines (tag_index lines block))

-- a tag, where it is that of a block
abbrev pub of_block : ℕ → Option Tag → Option Tag
of_block block None = None
of_block block (Some tag) = if tag.block == block then Some tag else None

-- the tag of a block
abbrev pub tag_in : List (Option Tag) → ℕ → Option Tag
tag_in lines block = of_block block (standing_tag lines block)

-- a tag is that of a block, where there is one
abbrev pub IsOfBlock : ℕ → Option Tag → Type 0
IsOfBlock block None = ⊤
IsOfBlock block (Some tag) = tag.block ≡ block

-- there are lines, and each tag stands on the place of its block
pub record AreInPlace (lines : List (Option Tag)) : Type 0 where
  pub some : 0 < length lines
  pub each : (k : ℕ) (tag : Tag) → slice_get lines k ≡ Some (Some tag) → tag_index lines tag.block ≡ k

-- the state of a block whose tag this is: Invalid where there is none
abbrev pub block_state : Option Tag → BlockState
block_state None = Invalid
block_state (Some tag) = tag.state

-- the lines with another tag, or none, on the place of a block
abbrev pub with_tag : List (Option Tag) → ℕ → Option Tag → List (Option Tag)
with_tag lines block tag = slice_set lines (tag_index lines block) tag

-- a tag in another state: none where it is Invalid
abbrev pub tag_in_state : BlockState → Tag → Option Tag
tag_in_state Invalid tag = None
tag_in_state UnOwned tag = Some (record tag { state = UnOwned })
tag_in_state OwnedNonExclusive tag = Some (record tag { state = OwnedNonExclusive })
tag_in_state OwnedExclusive tag = Some (record tag { state = OwnedExclusive })

-- the lines after another board's transaction on a block whose tag they have this
abbrev pub snooped_tag : List (Option Tag) → ℕ → BusKind → Option Tag → List (Option Tag)
snooped_tag lines block kind None = lines
snooped_tag lines block kind (Some tag) = with_tag lines block (tag_in_state (snooped_of tag.state kind) tag)

-- the lines after another board's transaction on a block, by the protocol's table
abbrev pub snooped_tags : List (Option Tag) → ℕ → BusKind → List (Option Tag)
snooped_tags lines block kind = snooped_tag lines block kind (tag_in lines block)

-- each value changed by its number
abbrev pub each_from : {X : Type 0} → (ℕ → X → X) → ℕ → List X → List X
each_from change k [] = []
each_from change k (x ∷ xs) = change k x ∷ each_from change (k + 1) xs

-- board k after a transaction of board `own` on a block: the own board then has `mine` on the block's place, and each
-- other one sees the table
abbrev pub snooped_board : ℕ → ℕ → BusKind → Option Tag → ℕ → List (Option Tag) → List (Option Tag)
snooped_board own block kind mine k lines = if k == own then with_tag lines block mine else snooped_tags lines block kind

-- all boards after it
abbrev pub bus_on : List (List (Option Tag)) → ℕ → ℕ → BusKind → Option Tag → List (List (Option Tag))
bus_on T own block kind mine = each_from (snooped_board own block kind mine) 0 T

-- the lines of a board
abbrev pub lines_at : List (List (Option Tag)) → ℕ → List (Option Tag)
lines_at T board = get_or T board []

-- a board's tag of a block
abbrev pub tag_at : List (List (Option Tag)) → ℕ → ℕ → Option Tag
tag_at T board block = tag_in (lines_at T board) block

-- the state in which a block is filled, and the transaction that fills it
abbrev pub filled_state : Need → BlockState
filled_state need.Read = UnOwned
filled_state need.Write = OwnedExclusive

abbrev pub kind_of : Need → BusKind
kind_of need.Read = bus.ReadShared
kind_of need.Write = bus.ReadOwned

-- the tag that a fill gives: frame, protection and dirty copy of the page's entry for a user's block; the root entry's
-- frame, read and write and set for a block of the page table; the wired frame, read only and set for one of the root
abbrev pub fresh_tag : Flat → Layer → Need → ℕ → Tag
fresh_tag F layer.UserBlock need at = record { block = block_of at; state = filled_state need; frame = number_of (word_of F at); prot = protection_of (word_of F at); dirty = is_dirty (word_of F at) }
fresh_tag F layer.PteBlock need at = record { block = block_of at; state = filled_state need; frame = number_of (slice_index F.words (root_word_of at)); prot = allow.ReadWrite; dirty = true }
fresh_tag F layer.RootBlock need at = record { block = block_of at; state = filled_state need; frame = wired_frame at; prot = allow.ReadOnly; dirty = true }

-- a tag with another state that is not Invalid, where there is one
abbrev pub restated_tag : Option Tag → BlockState → Option Tag
restated_tag None state = None
restated_tag (Some tag) state = Some (record tag { state = state })

-- a tag with its dirty copy set, where there is one
abbrev pub dirtied_tag : Option Tag → Option Tag
dirtied_tag None = None
dirtied_tag (Some tag) = Some (record tag { dirty = true })

-- the tags with one board's place of a block changed
abbrev pub with_tag_at : List (List (Option Tag)) → ℕ → ℕ → Option Tag → List (List (Option Tag))
with_tag_at T board block tag = slice_set T board (with_tag (lines_at T board) block tag)

-- the tags after an entry, in the flat state before it: the tag step
abbrev pub tags_on : Flat → List (List (Option Tag)) → Entry → List (List (Option Tag))
tags_on F T (Load board at value) = T
tags_on F T (Store board at value) = T
tags_on F T (Tas board at old) = T
tags_on F T (Fault board kind access at) = T
tags_on F T (Fill board layer need at) = bus_on T board (block_of at) (kind_of need) (Some (fresh_tag F layer need at))
tags_on F T (Claim board at) = bus_on T board (block_of at) bus.Claim (restated_tag (tag_at T board (block_of at)) OwnedExclusive)
tags_on F T (WriteBack board at) = bus_on T board (block_of at) bus.WriteBack (restated_tag (tag_at T board (block_of at)) UnOwned)
tags_on F T (Refresh board at) = with_tag_at T board (block_of at) (dirtied_tag (tag_at T board (block_of at)))
tags_on F T (BlockFlush board holder at) = with_tag_at T holder (block_of at) None
tags_on F T (Leave board at) = T
tags_on F T (PageOut board at) = T
tags_on F T (PageIn board at frame) = T
tags_on F T (SetRef board at) = T
tags_on F T (SetDirty board at) = T
tags_on F T (ClearRef board at) = T

-- the tags at the opening: no line of any board holds anything
abbrev pub no_tags : ℕ → ℕ → List (List (Option Tag))
no_tags boards lines = replicate boards (replicate lines None)
