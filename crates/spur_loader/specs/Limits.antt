-- The ranges of a run's options.
use Rattle.std.specs.Prelude.{◌≤◌}
use Rattle.spur_snoop.specs.Size.{IsLineCount}
use Rattle.spur_loader.specs.declared.opening.Options.{Options}

-- 1 to 3900 frames of data, a cache's number of lines, a budget of 1 to 250,000, and 0 to 128 blocks ahead
pub record IsOptions (options : Options) : Type 0 where
  pub some_frames : 1 ≤ options.frames
  pub few_frames : options.frames ≤ 3900
  pub lines : IsLineCount options.lines
  pub some_budget : 1 ≤ options.budget
  pub few_budget : options.budget ≤ 250000
  pub ahead : options.ahead ≤ 128
