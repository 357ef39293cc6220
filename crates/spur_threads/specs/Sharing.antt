-- The two laws of the pact by which the boards of a world share it.
use Rattle.std.specs.Prelude.{ℕ}
use Rattle.spur_cpu.specs.Meaning.{Meaning}
use Rattle.spur_swap.specs.Meaning.{Swap}
use Rattle.spur_board.specs.Own.{IsOwnStep}
use Rattle.spur_turns.specs.Pacts.{KeepsGood, Rests}
use Rattle.spur_core.specs.Divided.{AreGoodParts}
use Rattle.spur_core.specs.World.{start_of}
use Rattle.spur_core.proofs.OwnEventFacts.{own-step-keeps-good}
use Rattle.spur_core.proofs.SoundFacts.{good-rests}

module _ {C B S : Type 0} (m : Meaning S) (state : C → S) (spare : C → ℕ) (meaning : B → Swap) where
  -- each board of a good world is an own step after itself
  pub boards-rest : Rests (AreGoodParts m state spare meaning) (IsOwnStep m state spare)
  boards-rest bus boards i x good there =
      good-rests m state spare meaning (start_of state meaning bus.beginning) bus.store boards i x good there

  -- what one board does alone keeps a good world, whatever the other boards are
  pub own-steps-keep : KeepsGood (AreGoodParts m state spare meaning) (IsOwnStep m state spare)
  own-steps-keep bus boards i x y good there step =
      own-step-keeps-good m state spare meaning (start_of state meaning bus.beginning) bus.store boards i x y good there step
