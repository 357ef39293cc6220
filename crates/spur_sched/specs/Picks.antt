-- How the schedule picks boards.
use Rattle.std.specs.Prelude.{ℕ, ◌+◌, ◌*◌, ◌/◌, ◌%◌, ◌^◌, Bool, true, false, List, [], ◌∷◌, length, is_some, map, slice_get, Option}
use Rattle.spur_board.specs.declared.board.Board.{Board}

-- the number after a number
abbrev pub next_number : ℕ → ℕ
next_number x = (x * 6364136223846793005 + 1442695040888963407) % 2 ^ 64

-- the boards that have not ended, in ascending order, where the first board has the number k: of each it is said
-- whether it has ended
abbrev pub running_from : ℕ → List Bool → List ℕ
running_from k [] = []
running_from k (true ∷ outs) = running_from (k + 1) outs
running_from k (false ∷ outs) = k ∷ running_from (k + 1) outs

abbrev pub running_boards : List Bool → List ℕ
running_boards outs = running_from 0 outs

-- the board that a number picks of these
abbrev pub picked_board : ℕ → List ℕ → Option ℕ
picked_board x boards = slice_get boards ((x / 2 ^ 33) % length boards)

-- whether each board has ended
abbrev pub are_out : {C : Type 0} → List (Board C) → List Bool
are_out boards = map (λ b. is_some b.ended) boards
