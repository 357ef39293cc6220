-- No idle bus traffic: entries of the bus are made for an access or a page that follows.
-- Each board has a list of its open entries: its fills, claims and write-backs since its last serving entry.
use Rattle.std.specs.Prelude.{ℕ, ◌+◌, ◌%◌, ◌==◌, nat_lt, Bool, true, false, if◌then◌else◌, List, [], ◌∷◌, ◌++◌, length, get_or, slice_index, slice_set, Option, Some, None}
use Rattle.std.specs.List.{list_any}
use Rattle.spur_addr.specs.Address.{block_of}
use Rattle.spur_snoop.specs.declared.Need.TheVariants as need
use Rattle.spur_flat.specs.declared.illegal.Illegal.{Illegal}
use Rattle.spur_flat.specs.declared.illegal.Clause.TheVariants as clause
use Rattle.spur_flat.specs.declared.entry.Entry.{Entry}
use Rattle.spur_flat.specs.declared.entry.Entry.TheVariants.{Fill, Claim, WriteBack}
use Rattle.spur_flat.specs.Refused.{refused}
use Rattle.spur_flat.specs.Blocks.{board_of, Role, Opens, Serves, Apart, role_of}

-- why an entry is not needed: too many are opened, or the opened one at a place (counted from 0) serves nothing, or asks to own what is only read
pub data Lack : Type 0 where
  TooMany : Lack
  Useless : ℕ → Lack
  Greedy : ℕ → Lack

-- whether a block is the one that may be needed as an owner
abbrev pub is_block : Option ℕ → ℕ → Bool
is_block None block = false
is_block (Some owned) block = owned == block

-- whether an open entry is of a block that serves, or is a write-back on the line of one
abbrev pub is_of_use : ℕ → List ℕ → Entry → Bool
is_of_use lines blocks (Fill board layer need at) = list_any (λ block. block == block_of at) blocks
is_of_use lines blocks (Claim board at) = list_any (λ block. block == block_of at) blocks
is_of_use lines blocks (WriteBack board at) = list_any (λ block. block % lines == block_of at % lines) blocks
is_of_use lines blocks _ = true

-- whether an open entry asks to own no block but the one that may be
abbrev pub is_modest : Option ℕ → Entry → Bool
is_modest owned (Fill board layer need.Write at) = is_block owned (block_of at)
is_modest owned (Claim board at) = is_block owned (block_of at)
is_modest owned _ = true

-- the place of the first entry, from k on, that fails a test
abbrev pub first_not : (Entry → Bool) → ℕ → List Entry → Option ℕ
first_not test k [] = None
first_not test k (e ∷ es) = if test e then first_not test (k + 1) es else Some k

abbrev pub greedy : Option ℕ → Option Lack
greedy None = None
greedy (Some k) = Some (Greedy k)

abbrev pub useless : Option ℕ → Option Lack → Option Lack
useless None rest = rest
useless (Some k) rest = Some (Useless k)

-- what an entry lacks after these open entries: a seventh one is too many; a serving entry asks of each that it is of
-- use, and then that it is modest
abbrev pub lack_in : ℕ → List Entry → Role → Option Lack
lack_in lines opened Opens = if nat_lt (length opened) 6 then None else Some TooMany
lack_in lines opened (Serves blocks owned) = useless (first_not (is_of_use lines blocks) 0 opened) (greedy (first_not (is_modest owned) 0 opened))
lack_in lines opened Apart = None

-- the open entries after an entry: a serving one empties the list
abbrev pub open_in : List Entry → Entry → Role → List Entry
open_in opened entry Opens = opened ++ entry ∷ []
open_in opened entry (Serves blocks owned) = []
open_in opened entry Apart = opened

-- the open entries of a board
abbrev pub open_at : List (List Entry) → ℕ → List Entry
open_at opened board = get_or opened board []

-- what an entry lacks after the open entries of its board: None where it is needed
abbrev pub lack_of : ℕ → List (List Entry) → Entry → Option Lack
lack_of lines opened entry = lack_in lines (open_at opened (board_of entry)) (role_of entry)

-- the open entries after an entry
abbrev pub open_on : List (List Entry) → Entry → List (List Entry)
open_on opened entry = slice_set opened (board_of entry) (open_in (open_at opened (board_of entry)) entry (role_of entry))

-- the numbers of the open entries of each board, where `entry` has a number
abbrev pub numbers_in : List ℕ → ℕ → Role → List ℕ
numbers_in numbers number Opens = numbers ++ number ∷ []
numbers_in numbers number (Serves blocks owned) = []
numbers_in numbers number Apart = numbers

abbrev pub numbers_at : List (List ℕ) → ℕ → List ℕ
numbers_at numbers board = get_or numbers board []

abbrev pub numbers_on : List (List ℕ) → ℕ → Entry → List (List ℕ)
numbers_on numbers number entry = slice_set numbers (board_of entry) (numbers_in (numbers_at numbers (board_of entry)) number (role_of entry))

-- the refusal, by the numbers of the open entries, counted over all entries
abbrev pub needed_refusal : List ℕ → Option Lack → Option Illegal
needed_refusal numbers None = None
needed_refusal numbers (Some TooMany) = refused clause.Needed 1 7
needed_refusal numbers (Some (Useless place)) = refused clause.Needed 2 (slice_index numbers place)
needed_refusal numbers (Some (Greedy place)) = refused clause.Needed 3 (slice_index numbers place)
