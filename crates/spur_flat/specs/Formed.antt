-- Well-formed entries, and what kind of entries the walk and the pager make: of one board, and no accesses.
use Rattle.std.specs.Prelude.{ℕ, ◌≡◌, ◌%◌, ◌^◌, ◌<◌, ⊤, false}
use Rattle.spur_flat.specs.declared.entry.Entry.{Entry}
use Rattle.spur_flat.specs.declared.entry.Entry.TheVariants.{Fill, Claim, WriteBack, Refresh, BlockFlush, Leave, PageOut, PageIn, SetRef, SetDirty, ClearRef}
use Rattle.spur_flat.specs.Blocks.{IsOfBoards, board_of}
use Rattle.spur_flat.specs.History.{is_own}
use Rattle.spur_flat.specs.Laws.{address_of}

-- an entry of the bus is at the first byte of a block, and one of the pager at the first byte of a page
abbrev pub IsAtStart : Entry → Type 0
IsAtStart (Fill board layer need at) = at % 2 ^ 5 ≡ 0
IsAtStart (Claim board at) = at % 2 ^ 5 ≡ 0
IsAtStart (WriteBack board at) = at % 2 ^ 5 ≡ 0
IsAtStart (Refresh board at) = at % 2 ^ 5 ≡ 0
IsAtStart (BlockFlush board holder at) = at % 2 ^ 5 ≡ 0
IsAtStart (Leave board at) = at % 2 ^ 12 ≡ 0
IsAtStart (PageOut board at) = at % 2 ^ 12 ≡ 0
IsAtStart (PageIn board at frame) = at % 2 ^ 12 ≡ 0
IsAtStart (SetRef board at) = at % 2 ^ 12 ≡ 0
IsAtStart (SetDirty board at) = at % 2 ^ 12 ≡ 0
IsAtStart (ClearRef board at) = at % 2 ^ 12 ≡ 0
IsAtStart entry = ⊤

-- A well-formed entry: it names boards that are there, and its address is a global one; it is at the first byte of a block
-- or of a page where it is of one.
pub record IsFormed (boards : ℕ) (e : Entry) : Type 0 where
  pub there : IsOfBoards boards e
  pub small : address_of e < 2 ^ 38
  pub starts : IsAtStart e

-- An entry that a step of board b makes: it is well formed and of that board, and no access or fault of any.
pub record IsMade (b boards : ℕ) (e : Entry) : Type 0 where
  pub board : board_of e ≡ b
  pub apart : (i : ℕ) → is_own i e ≡ false
  pub there : IsOfBoards boards e
  pub small : address_of e < 2 ^ 38
  pub starts : IsAtStart e
