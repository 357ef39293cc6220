-- A world without its boards, beside the boards.
use Rattle.std.specs.Prelude.{ℕ, List}
use Rattle.std.specs.declared.alloc.Global.{Global}
use Rattle.std.specs.declared.vec.Vec.{Vec}
use Rattle.spur_cpu.specs.Meaning.{Meaning}
use Rattle.spur_swap.specs.Meaning.{Swap}
use Rattle.spur_board.specs.declared.board.Board.{Board}
use Rattle.spur_core.specs.declared.part.Bus.{Bus}
use Rattle.spur_core.specs.declared.world.World.{World}
use Rattle.spur_core.specs.Good.{IsGood}
use Rattle.spur_core.specs.World.{start_of}

-- what the boards of a world share
abbrev pub bus_of : {C B : Type 0} → World C B → Bus C B
bus_of w = record { store = w.store; beginning = w.beginning }

-- the world of a bus and boards
abbrev pub world_of : {C B : Type 0} → Bus C B → Vec (Board C) Global → World C B
world_of bus boards = record { store = bus.store; boards = boards; beginning = bus.beginning }

-- a bus and boards of which a world can be made that is good
abbrev pub AreGoodParts : {C B S : Type 0} → Meaning S → (C → S) → (C → ℕ) → (B → Swap) → Bus C B → List (Board C) → Type 0
AreGoodParts m state spare meaning bus boards =
    IsGood m state spare meaning (start_of state meaning bus.beginning) bus.store boards
