-- Own turns of a world's boards: what a board does alone, with its own cache and log.
use Rattle.std.specs.Prelude.{ℕ, ◌≡◌, ⊤, true, List, [], ◌∷◌, ◌++◌, slice_get, slice_set, Some, None}
use Rattle.spur_flat.specs.declared.entry.Entry.{Entry}
use Rattle.spur_flat.specs.History.{is_own}
use Rattle.spur_cpu.specs.Meaning.{Meaning}
use Rattle.spur_cpu.specs.Onward.{is_answer}
use Rattle.spur_swap.specs.Meaning.{Swap}
use Rattle.spur_pager.specs.declared.store.Store.{Store}
use Rattle.spur_board.specs.declared.board.Board.{Board}
use Rattle.spur_board.specs.declared.turn.Turn.{Turn}
use Rattle.spur_board.specs.declared.turn.Turn.TheVariants as turn
use Rattle.spur_board.specs.Boards.{IsSound}
use Rattle.spur_board.specs.Own.{HasTurned, IsOwnStep, OwnEvent}
use Rattle.spur_core.specs.Boards.{AreBoardLogs, LogsAreEmpty, whole}
use Rattle.spur_core.specs.Good.{IsGood}
use Rattle.spur_core.specs.Start.{Start}
use Rattle.spur_core.specs.Step.{HasTakenInstruction, IsStepped}

-- the board needs the bus
abbrev pub WantsBus : Turn → Type 0
WantsBus turn.Again = ⊥
WantsBus (turn.NeedsBus reason) = ⊤
WantsBus turn.Ended = ⊥

-- board b is there, and has not ended
pub record IsUnended {C : Type 0} (boards : List (Board C)) (b : ℕ) : Type 0 where
  pub board : Board C
  pub there : slice_get boards b ≡ Some board
  pub going : board.ended ≡ None

-- what board b logs in one event: nothing, or one entry of its own, which answers its access
pub data LogsOneAnswer (b : ℕ) (entries : List Entry) : Type 0 where
  LogsNothing : entries ≡ [] → LogsOneAnswer b entries
  LogsAnswer : (e : Entry) → entries ≡ e ∷ [] → is_own b e ≡ true → is_answer e ≡ true → LogsOneAnswer b entries

module _ {C S : Type 0} (m : Meaning S) (state : C → S) (spare : C → ℕ) where
  -- board b has made an own turn of at most so many instructions, which is over for the cause of its answer, and no other
  -- board has changed
  pub record HasTurnedAt (b at_most : ℕ) (olds : List (Board C)) (result : Turn) (news : List (Board C)) : Type 0 where
    pub old : Board C
    pub new : Board C
    pub there : slice_get olds b ≡ Some old
    pub is : news ≡ slice_set olds b new
    pub turned : HasTurned m state spare at_most old result new

  module _ {B : Type 0} (meaning : B → Swap) where
    -- no board of a good world is torn
    abbrev pub GoodBoardsAreSound : Type 0
    GoodBoardsAreSound = (start : Start S) (store : Store B) (boards : List (Board C)) (i : ℕ) (x : Board C)
        → IsGood m state spare meaning start store boards → slice_get boards i ≡ Some x → IsSound m state spare x

    -- so each of its boards is an own step after itself
    abbrev pub GoodRests : Type 0
    GoodRests = (start : Start S) (store : Store B) (boards : List (Board C)) (i : ℕ) (x : Board C)
        → IsGood m state spare meaning start store boards → slice_get boards i ≡ Some x → IsOwnStep m state spare i x x

    -- an event of one board keeps a good world, whatever the other boards and their logs are
    abbrev pub EventKeepsGood : Type 0
    EventKeepsGood = (start : Start S) (store : Store B) (boards : List (Board C)) (i : ℕ) (x y : Board C)
        → IsGood m state spare meaning start store boards → slice_get boards i ≡ Some x → OwnEvent m state spare x y
        → IsGood m state spare meaning start store (slice_set boards i y)

    -- and so does an own step
    abbrev pub OwnStepKeepsGood : Type 0
    OwnStepKeepsGood = (start : Start S) (store : Store B) (boards : List (Board C)) (i : ℕ) (x y : Board C)
        → IsGood m state spare meaning start store boards → slice_get boards i ≡ Some x → IsOwnStep m state spare i x y
        → IsGood m state spare meaning start store (slice_set boards i y)

  -- what an event logs is nothing, or the one entry that answers the board's access
  abbrev pub EventLogsOneAnswer : Type 0
  EventLogsOneAnswer = (old new : Board C) (logged : List Entry) → OwnEvent m state spare old new
      → new.log.entries ≡ old.log.entries ++ logged → LogsOneAnswer old.number logged

  -- where all logs are empty, an event of board b is one whole instruction over the history with the logs
  abbrev pub EventIsStepped : Type 0 → Type 0
  EventIsStepped B = (store : Store B) (boards : List (Board C)) (b : ℕ) (x y : Board C) → LogsAreEmpty boards
      → slice_get boards b ≡ Some x → x.number ≡ b → OwnEvent m state spare x y
      → IsStepped m state b (whole store boards) (whole store (slice_set boards b y)) boards (slice_set boards b y)

  -- and whatever entries of their boards the logs hold, it is one whole instruction of board b over the boards' own entries
  abbrev pub EventsTakeInstructions : Type 0 → Type 0
  EventsTakeInstructions B = (store : Store B) (boards : List (Board C)) (b : ℕ) (x y : Board C) → AreBoardLogs boards
      → slice_get boards b ≡ Some x → x.number ≡ b → OwnEvent m state spare x y
      → HasTakenInstruction m state b (whole store boards) (whole store (slice_set boards b y)) boards (slice_set boards b y)
