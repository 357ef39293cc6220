-- The boards of a world: their caches, their logs, and how many of them the swap ended.
use Rattle.std.specs.Prelude.{ℕ, ◌≡◌, ◌⊎◌, ⊤, ◌+◌, ◌≤◌, Bool, true, false, List, [], ◌++◌, filter, length, map, slice_get, Option, Some}
use Rattle.std.specs.List.{AllByRecursion}
use Rattle.spur_cache.specs.Lens.{Lens}
use Rattle.spur_flat.specs.declared.access.FaultKind.TheVariants as fault
use Rattle.spur_flat.specs.declared.entry.Entry.{Entry}
use Rattle.spur_flat.specs.declared.entry.Entry.TheVariants as entry
use Rattle.spur_flat.specs.Blocks.{board_of}
use Rattle.spur_commute.specs.Logs.{joined_logs}
use Rattle.spur_swap.specs.Meaning.{Swap}
use Rattle.spur_pager.specs.declared.store.Store.{Store}
use Rattle.spur_pager.specs.View.{View, seen}
use Rattle.spur_board.specs.declared.board.Board.{Board}
use Rattle.spur_board.specs.declared.ending.Ending.{Ending}
use Rattle.spur_board.specs.declared.ending.Ending.TheVariants as ending

-- the lines of a board's cache, as one part of it
abbrev pub board_lens : {C : Type 0} → Lens (Board C)
board_lens = record { lines_of = λ board. board.cache; with_lines = λ board lines. record board { cache = lines } }

-- what is seen of boards and of what they share
abbrev pub view_in : {B C : Type 0} → (B → Swap) → Store B → List (Board C) → View
view_in meaning store boards = seen meaning board_lens boards store

abbrev pub logs_of : {C : Type 0} → List (Board C) → List (List Entry)
logs_of boards = map (λ b. b.log.entries) boards

-- the whole history: what all boards share, and then the logs in board order
abbrev pub whole : {B C : Type 0} → Store B → List (Board C) → List Entry
whole store boards = store.history.entries ++ joined_logs (logs_of boards)

-- an entry of a log is an access that is done, or a fault that a board finds in its own cache
abbrev pub IsLocalEntry : Entry → Type 0
IsLocalEntry (entry.Load board at value) = ⊤
IsLocalEntry (entry.Store board at value) = ⊤
IsLocalEntry (entry.Tas board at old) = ⊤
IsLocalEntry (entry.Fault board kind access at) = (kind ≡ fault.Align) ⊎ (kind ≡ fault.Protection)
IsLocalEntry _ = ⊥

pub record IsLogged (i : ℕ) (e : Entry) : Type 0 where
  pub board : board_of e ≡ i
  pub local : IsLocalEntry e

-- the log of board i has at most 1024 entries, all of them its own, and room for so many
pub record IsBoardLog {C : Type 0} (i : ℕ) (b : Board C) : Type 0 where
  pub few : length b.log.entries ≤ 1024
  pub room : 1024 ≤ length b.log.entries + b.log.room
  pub entries : AllByRecursion (IsLogged i) b.log.entries

pub record AreBoardLogs {C : Type 0} (boards : List (Board C)) : Type 0 where
  pub each : (i : ℕ) (b : Board C) → slice_get boards i ≡ Some b → IsBoardLog i b

-- a board with its log emptied: the room of the entries is room again
abbrev pub emptied : {C : Type 0} → Board C → Board C
emptied b = record b { log = record { entries = []; room = b.log.room + length b.log.entries } }

-- all logs are empty
pub record LogsAreEmpty {C : Type 0} (boards : List (Board C)) : Type 0 where
  pub each : (i : ℕ) (b : Board C) → slice_get boards i ≡ Some b → b.log.entries ≡ []

-- whether a board was ended by the swap, and how many were
abbrev pub is_swapped : Option Ending → Bool
is_swapped (Some ending.SwapFault) = true
is_swapped other = false

abbrev pub swap_count : {C : Type 0} → List (Board C) → ℕ
swap_count boards = length (filter (λ b. is_swapped b.ended) boards)
