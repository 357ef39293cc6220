-- A board's turn on the bus, and its turns at the end, while the world is its own.
use Rattle.std.specs.Prelude.{ℕ, ◌≡◌, ◌≢◌, ◌<◌, ◌≤◌, List, IsSome, Some, None, slice_get}
use Rattle.spur_cpu.specs.Meaning.{Meaning}
use Rattle.spur_board.specs.declared.board.Board.{Board}
use Rattle.spur_board.specs.declared.turn.Turn.{Turn}
use Rattle.spur_board.specs.declared.turn.Turn.TheVariants as turn
use Rattle.spur_core.specs.Turn.{IsWanting}

-- a board's processor, its count of instructions and its ending are as they were
pub record IsAsIn {C : Type 0} (old new : Board C) : Type 0 where
  pub cpu : new.cpu ≡ old.cpu
  pub retired : new.retired ≡ old.retired
  pub ended : new.ended ≡ old.ended

-- so are those of every board but b
pub record OthersRest {C : Type 0} (b : ℕ) (olds news : List (Board C)) : Type 0 where
  pub each : (i : ℕ) (x y : Board C) → i ≢ b → slice_get olds i ≡ Some x → slice_get news i ≡ Some y → IsAsIn x y

-- board b, if it had not ended, has completed more instructions than it had, or has ended
pub record MovesOn {C : Type 0} (b : ℕ) (olds news : List (Board C)) : Type 0 where
  pub moved : (x y : Board C) → slice_get olds b ≡ Some x → slice_get news b ≡ Some y → x.ended ≡ None → y.ended ≡ None
      → x.retired < y.retired

-- board b is there, has not ended, and has completed so many instructions
pub record IsGoingAt {C : Type 0} (boards : List (Board C)) (b n : ℕ) : Type 0 where
  pub board : Board C
  pub there : slice_get boards b ≡ Some board
  pub going : board.ended ≡ None
  pub completed : board.retired ≡ n

-- board b has ended, if it is there
pub record HasEndedAt {C : Type 0} (boards : List (Board C)) (b : ℕ) : Type 0 where
  pub ended : (x : Board C) → slice_get boards b ≡ Some x → IsSome x.ended

-- what a board has done alone: it has gone on or ended; or it wants an access, and has lost no instruction
module _ {C S : Type 0} (m : Meaning S) (state : C → S) where
  pub record WantsOn (b : ℕ) (olds news : List (Board C)) : Type 0 where
    pub board : Board C
    pub there : slice_get news b ≡ Some board
    pub wanting : IsWanting m state board
    pub kept : (x : Board C) → slice_get olds b ≡ Some x → x.retired ≤ board.retired

  abbrev pub ComesTo : ℕ → List (Board C) → Turn → List (Board C) → Type 0
  ComesTo b olds turn.Again news = MovesOn b olds news
  ComesTo b olds (turn.NeedsBus reason) news = WantsOn b olds news
  ComesTo b olds turn.Ended news = MovesOn b olds news

  pub record HasGoneAlone (b : ℕ) (olds : List (Board C)) (result : Turn) (news : List (Board C)) : Type 0 where
    pub others : OthersRest b olds news
    pub comes : ComesTo b olds result news
