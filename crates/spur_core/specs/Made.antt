-- What a new world is made of.
use Rattle.std.specs.Prelude.{◌≡◌, ◌+◌, List}
use Rattle.spur_frames.specs.Frames.{new_frames}
use Rattle.spur_loader.specs.declared.opening.Opening.{Opening}
use Rattle.spur_core.specs.declared.make.Parts.{Parts}
use Rattle.spur_core.specs.Begin.{AreNewBoards}

-- the opening's memory, a table of free frames, and a new board for each processor
pub record AreParts {C : Type 0} (opening : Opening) (cpus : List C) (parts : Parts C) : Type 0 where
  pub phys : parts.phys ≡ opening.flat.words
  pub frames : parts.frames ≡ new_frames (64 + opening.flat.tables) opening.flat.frames
  pub boards : AreNewBoards opening.segs opening.options.lines opening.options.budget cpus parts.boards.items
