-- Boards and blocks of entries: what serves an access or a page, and what an address is of.
use Rattle.std.specs.Prelude.{ℕ, ◌+◌, ◌/◌, ◌%◌, ◌^◌, ◌<◌, nat_lt, Bool, true, false, Option, Some, None, List, [], ◌∷◌}
use Rattle.spur_addr.specs.Address.{block_of, entry_address_of, table_start, root_start}
use Rattle.spur_flat.specs.declared.entry.Layer.{Layer}
use Rattle.spur_flat.specs.declared.entry.Layer.TheVariants.{RootBlock, PteBlock, UserBlock}
use Rattle.spur_flat.specs.declared.entry.Entry.{Entry}
use Rattle.spur_flat.specs.declared.entry.Entry.TheVariants.{Load, Store, Tas, Fault, Fill, Claim, WriteBack, Refresh, BlockFlush, Leave, PageOut, PageIn, SetRef, SetDirty, ClearRef}

-- the block of the page-table entry of g's page
abbrev pub entry_block : ℕ → ℕ
entry_block g = block_of (entry_address_of g)

-- the block of the root entry by which the entry of g's page is found
abbrev pub root_block : ℕ → ℕ
root_block g = block_of (entry_address_of (entry_address_of g))

abbrev pub layer_from : Bool → Bool → Bool → Option Layer
layer_from true table root = Some UserBlock
layer_from false true root = Some PteBlock
layer_from false false true = Some RootBlock
layer_from false false false = None

-- what an address is of: a user's page below segment 255, then the page table up to the root, then the root with its
-- 2 ^ 18 bytes, and above it nothing
abbrev pub layer_of : ℕ → Option Layer
layer_of g = layer_from (nat_lt g table_start) (nat_lt g root_start) (nat_lt g (root_start + 2 ^ 18))

abbrev pub is_layer : Option Layer → Layer → Bool
is_layer None layer = false
is_layer (Some RootBlock) RootBlock = true
is_layer (Some PteBlock) PteBlock = true
is_layer (Some UserBlock) UserBlock = true
is_layer (Some _) _ = false

-- where the root entry of the page of an address of the page table stands, as the number of a word of memory
abbrev pub root_word_of : ℕ → ℕ
root_word_of g = g / 2 ^ 12 % 2 ^ 16

-- the frame in which an address of the root is wired
abbrev pub wired_frame : ℕ → ℕ
wired_frame g = g / 2 ^ 12 % 2 ^ 6

-- the board that makes an entry
abbrev pub board_of : Entry → ℕ
board_of (Load board at value) = board
board_of (Store board at value) = board
board_of (Tas board at old) = board
board_of (Fault board kind access at) = board
board_of (Fill board layer need at) = board
board_of (Claim board at) = board
board_of (WriteBack board at) = board
board_of (Refresh board at) = board
board_of (BlockFlush board holder at) = board
board_of (Leave board at) = board
board_of (PageOut board at) = board
board_of (PageIn board at frame) = board
board_of (SetRef board at) = board
board_of (SetDirty board at) = board
board_of (ClearRef board at) = board

-- the boards that an entry names are there
abbrev pub IsOfBoards : ℕ → Entry → Type 0
IsOfBoards boards (BlockFlush board holder at) = (board < boards) × (holder < boards)
IsOfBoards boards entry = board_of entry < boards

-- what an entry is to the list of its board's open entries, which were made for an access or a page to come: it is one
-- more of them; or it is what they were made for, with the blocks that it uses and the one of these that it may need to
-- own; or it has nothing to do with them
pub data Role : Type 0 where
  Opens : Role
  Serves : List ℕ → Option ℕ → Role
  Apart : Role

-- the blocks that an access or a fault of one uses: the user's, that of the page-table entry and that of the root entry
abbrev pub access_blocks : ℕ → List ℕ
access_blocks at = block_of at ∷ entry_block at ∷ root_block at ∷ []

-- the blocks that an entry of the pager uses: that of the page-table entry and that of the root entry
abbrev pub pager_blocks : ℕ → List ℕ
pager_blocks at = entry_block at ∷ root_block at ∷ []

abbrev pub role_of : Entry → Role
role_of (Load board at value) = Serves (access_blocks at) None
role_of (Store board at value) = Serves (access_blocks at) (Some (block_of at))
role_of (Tas board at old) = Serves (access_blocks at) (Some (block_of at))
role_of (Fault board kind access at) = Serves (access_blocks at) None
role_of (Fill board layer need at) = Opens
role_of (Claim board at) = Opens
role_of (WriteBack board at) = Opens
role_of (Refresh board at) = Apart
role_of (BlockFlush board holder at) = Apart
role_of (Leave board at) = Serves (pager_blocks at) (Some (entry_block at))
role_of (PageOut board at) = Serves (pager_blocks at) (Some (entry_block at))
role_of (PageIn board at frame) = Serves (pager_blocks at) (Some (entry_block at))
role_of (SetRef board at) = Serves (pager_blocks at) (Some (entry_block at))
role_of (SetDirty board at) = Serves (pager_blocks at) (Some (entry_block at))
role_of (ClearRef board at) = Serves (pager_blocks at) (Some (entry_block at))
