-- Caches that hold nothing.
use Rattle.std.specs.Prelude.{ℕ, ◌≡◌, List, replicate, Option, None}
use Rattle.spur_cache.specs.declared.line.Line.{Line}
use Rattle.spur_flat.specs.TagLines.{no_tags}
use Rattle.spur_bus.specs.Boards.{line_in}
use Rattle.spur_bus.specs.Logical.{logical_words}
use Rattle.spur_bus.specs.Calls.{tags_of}

-- where no cache has a line, the logical memory is the memory
abbrev pub NoLineIsMemory : Type 0
NoLineIsMemory = (caches : List (List (Option Line))) (memory : List ℕ) → ((i s : ℕ) → line_in caches i s ≡ None)
    → logical_words caches memory ≡ memory

-- the tags of empty caches are those of boards whose lines hold nothing
abbrev pub EmptyHasNoTags : Type 0
EmptyHasNoTags = (boards lines : ℕ) → tags_of (replicate boards (replicate lines None)) ≡ no_tags boards lines
