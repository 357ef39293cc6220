-- What kind of entries the steps of the walk make.
use Rattle.std.specs.Prelude.{ℕ, ◌≡◌, ◌<◌, List, length, Option}
use Rattle.spur_addr.specs.Address.{entry_address_of, table_start}
use Rattle.spur_cache.specs.declared.line.Line.{Line}
use Rattle.spur_snoop.specs.declared.Need.{Need}
use Rattle.spur_flat.specs.declared.entry.Entry.{Entry}
use Rattle.spur_flat.specs.Formed.{IsMade}
use Rattle.spur_bus.specs.Agrees.{Agrees}
use Rattle.spur_walk.specs.declared.step.Walked.TheVariants as walked
use Rattle.spur_walk.specs.Plan.{access_plan, page_plan}
use Rattle.spur_walk.specs.Steps.{answer_of}

-- an entry of `advance` is of its board, names boards that are there, and has an address below 2^38 that is the first
-- byte of a block
abbrev pub AccessIsMade : Type 0
AccessIsMade = (caches : List (List (Option Line))) (memory : List ℕ) (b at : ℕ) (need : Need) (e : Entry)
    → Agrees caches → b < length caches → at < table_start
    → answer_of b at (access_plan caches memory b at need) ≡ walked.Moved e
    → IsMade b (length caches) e

-- and so is one of `advance_entry`
abbrev pub PageIsMade : Type 0
PageIsMade = (caches : List (List (Option Line))) (memory : List ℕ) (b page : ℕ) (e : Entry) → Agrees caches
    → b < length caches → page < table_start
    → answer_of b (entry_address_of page) (page_plan caches memory b page) ≡ walked.Moved e → IsMade b (length caches) e
