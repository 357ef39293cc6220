-- Where a board of the checker's code stands, in the definitions' words.
use Rattle.std.specs.Prelude.{◌≡◌, ℕ, ◌+◌, ◌<◌, ◌≤◌, List, Option, None, option_map}
use Rattle.spur_cpu.specs.declared.plain.PlainCpu.{PlainCpu}
use Rattle.spur_cpu.specs.After.{Stop, Halted, Faulty, Spent}
use Rattle.spur_cpu.specs.Plain.{Plain}
use Rattle.spur_cpu.specs.PlainCpus.{plain_of}
use Rattle.spur_check.specs.declared.replay.Ending.{Ending}
use Rattle.spur_check.specs.declared.replay.Ending.TheVariants as ending
use Rattle.spur_check.specs.Replays.{Replayed}

abbrev pub stop_of : Ending → Stop
stop_of ending.Halted = Halted
stop_of (ending.Faulted kind at) = Faulty kind at
stop_of ending.Spent = Spent

abbrev pub replayed_of : List ℕ → ℕ → PlainCpu → ℕ → Option Ending → Replayed Plain
replayed_of segs budget cpu retired ended = record {
  segs = segs;
  budget = budget;
  course = record { cpu = plain_of cpu; retired = retired; ending = option_map stop_of ended };
}

-- a board that has not ended has some of its budget left, and room for all values that it may still show
pub record MayGoOn (budget retired spare : ℕ) (ended : Option Ending) : Type 0 where
  pub left : ended ≡ None → retired < budget
  pub room : ended ≡ None → budget ≤ retired + spare
