-- How a world begins: what is asked of its opening and its processors, and what is made of them.
use Rattle.std.specs.Prelude.{ℕ, ◌≡◌, ◌≢◌, ◌+◌, ◌≤◌, List, [], length, slice_get, Some}
use Rattle.std.specs.List.{All}
use Rattle.spur_frames.specs.Frames.{new_frames}
use Rattle.spur_cpu.specs.declared.cpu.Want.TheVariants.{Ended}
use Rattle.spur_cpu.specs.Meaning.{Meaning}
use Rattle.spur_loader.specs.declared.opening.Opening.{Opening}
use Rattle.spur_loader.specs.Opening.{board_count}
use Rattle.spur_loader.specs.Readings.{MayBegin}
use Rattle.spur_pager.specs.declared.store.Store.{Store}
use Rattle.spur_board.specs.declared.board.Board.{Board}
use Rattle.spur_board.specs.Boards.{IsNew}
use Rattle.spur_core.specs.declared.world.Beginning.{Beginning}

-- A world may begin with an opening and these processors: a run may begin with the opening, there is a processor for each
-- board, each of them wants something, and has room for what the budget lets it show. It looks at no code, and not at where
-- the opening came from.
pub record IsBeginning {C S : Type 0} (m : Meaning S) (state : C → S) (spare : C → ℕ) (opening : Opening) (cpus : List C) : Type 0 where
  pub begins : MayBegin opening
  pub count : length cpus ≡ board_count opening
  pub running : All (λ cpu. m.wants (state cpu) ≢ Ended) cpus
  pub room : All (λ cpu. opening.options.budget ≤ spare cpu) cpus

-- as many boards as processors, and each is new: it has the number of its place, its processor and its segment registers
pub record AreNewBoards {C : Type 0} (segs : List (List ℕ)) (lines budget : ℕ) (cpus : List C) (boards : List (Board C)) : Type 0 where
  pub count : length boards ≡ length cpus
  pub each : (i : ℕ) (registers : List ℕ) (cpu : C) (board : Board C)
      → slice_get segs i ≡ Some registers → slice_get cpus i ≡ Some cpu → slice_get boards i ≡ Some board
      → IsNew i cpu registers lines budget board

-- what boards share at a beginning: the opening's memory, a table of free frames, and no history
pub record IsNewStore {B : Type 0} (opening : Opening) (store : Store B) : Type 0 where
  pub memory : store.phys ≡ opening.flat.words
  pub frames : store.frames ≡ new_frames (64 + opening.flat.tables) opening.flat.frames
  pub history : store.history.entries ≡ []
  pub ahead : store.ahead ≡ opening.options.ahead

-- a world's beginning keeps with what it began: the opening, the processors, and the swap object
pub record KeepsBeginning {C B : Type 0} (first : Opening) (processors : List C) (swap : B) (beginning : Beginning C B) : Type 0 where
  pub opening : beginning.opening.value ≡ first
  pub cpus : beginning.cpus.value.items ≡ processors
  pub backing : beginning.backing.value ≡ swap
