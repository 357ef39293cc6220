-- The word of a page's entry, read without the bus.
use Rattle.std.specs.Prelude.{ℕ, ◌+◌, ◌*◌, ◌%◌, List, map, slice_index, Option}
use Rattle.spur_addr.specs.Address.{page_of, root_index_of}
use Rattle.spur_addr.specs.PageEntry.{number_of}
use Rattle.spur_cache.specs.declared.line.Line.{Line}
use Rattle.spur_bus.specs.Boards.{first_some}
use Rattle.spur_walk.specs.Plan.{cached_word}

-- the word of g in the first cache that has its block
abbrev pub first_cached_word : List (List (Option Line)) → ℕ → Option ℕ
first_cached_word caches g = first_some (map (λ lines. cached_word lines g) caches)

-- the place of the entry of the page of g in memory, by the root as memory has it
abbrev pub entry_place_in : List ℕ → ℕ → ℕ
entry_place_in memory g = number_of (slice_index memory (root_index_of g)) * 1024 + page_of g % 1024
