-- The caches of several boards, and what a transaction of the bus changes, cache by cache.
--
-- What a transaction does is said of the caches alone. A board is any value that has a cache, and that nothing of it but
-- its lines changes is said beside it, once, by its lens.
use Rattle.std.specs.Prelude.{ℕ, ◌==◌, if◌then◌else◌, map, get_or, slice_get, List, [], ◌∷◌, Option, Some, None}
use Rattle.spur_cache.specs.declared.line.Line.{Line}
use Rattle.spur_cache.specs.Lens.{Lens}
use Rattle.spur_cache.specs.Lines.{found, line_at, with_line, with_state}
use Rattle.spur_snoop.specs.declared.BlockState.{BlockState}
use Rattle.spur_snoop.specs.declared.BlockState.TheVariants.{Invalid}
use Rattle.spur_snoop.specs.declared.BusKind.{BusKind}
use Rattle.spur_snoop.specs.Protocol.{snooped_of, supplies}
use Rattle.spur_flat.specs.TagLines.{each_from}

-- what stands at a place of a cache, where there is such a cache
abbrev pub line_of : Option (List (Option Line)) → ℕ → Option Line
line_of None slot = None
line_of (Some lines) slot = line_at lines slot

-- what stands at a place of cache i
abbrev pub line_in : List (List (Option Line)) → ℕ → ℕ → Option Line
line_in caches i slot = line_of (slice_get caches i) slot

-- the line of the block of g in cache b
abbrev pub line_of_block : List (List (Option Line)) → ℕ → ℕ → Option Line
line_of_block caches b g = found (get_or caches b []) g

-- lines that saw another board's transaction on the block of g, of which they have this line
abbrev pub snooped_line : List (Option Line) → ℕ → BusKind → Option Line → List (Option Line)
snooped_line lines g kind None = lines
snooped_line lines g kind (Some line) = with_state lines g (snooped_of line.state kind)

-- lines that saw another board's transaction on the block of g: the block's line, where they have one, is put in the
-- state that the protocol's table says, and is dropped where that is Invalid
abbrev pub snooped_lines : List (Option Line) → ℕ → BusKind → List (Option Line)
snooped_lines lines g kind = snooped_line lines g kind (found lines g)

-- the lines of cache k where board `own` makes the transaction: each other one sees it
abbrev pub snooped_unless : ℕ → ℕ → BusKind → ℕ → List (Option Line) → List (Option Line)
snooped_unless own g kind k lines = if k == own then lines else snooped_lines lines g kind

-- the lines of cache k after a transaction of board `own` on the block of g: the own cache has the line `fresh` on its
-- place, and each other one saw the transaction
abbrev pub turned_lines : ℕ → ℕ → BusKind → Line → ℕ → List (Option Line) → List (Option Line)
turned_lines own g kind fresh k lines = if k == own then with_line lines fresh else snooped_lines lines g kind

-- all caches after it
abbrev pub turned : List (List (Option Line)) → ℕ → ℕ → BusKind → Line → List (List (Option Line))
turned caches own g kind fresh = each_from (turned_lines own g kind fresh) 0 caches

-- all caches after a transaction of board `own` on the block of g, which puts its own line of the block, where it has this
-- one, in another state
abbrev pub restated_line : List (List (Option Line)) → ℕ → ℕ → BusKind → BlockState → Option Line → List (List (Option Line))
restated_line caches own g kind state None = caches
restated_line caches own g kind state (Some line) = turned caches own g kind (record line { state = state })

abbrev pub restated : List (List (Option Line)) → ℕ → ℕ → BusKind → BlockState → List (List (Option Line))
restated caches own g kind state = restated_line caches own g kind state (line_of_block caches own g)

-- the lines of cache k after board `holder` dropped the block of g
abbrev pub dropped_lines : ℕ → ℕ → ℕ → List (Option Line) → List (Option Line)
dropped_lines holder g k lines = if k == holder then with_state lines g Invalid else lines

-- all caches after it
abbrev pub dropped : List (List (Option Line)) → ℕ → ℕ → List (List (Option Line))
dropped caches holder g = each_from (dropped_lines holder g) 0 caches

-- board k with its lines changed by its number, and nothing else of it
abbrev pub changed_board : {X : Type 0} → Lens X → (ℕ → List (Option Line) → List (Option Line)) → ℕ → X → X
changed_board lens change k board = lens.with_lines board (change k (lens.lines_of board))

-- the first that is there
abbrev pub first_some : {X : Type 0} → List (Option X) → Option X
first_some [] = None
first_some (None ∷ rest) = first_some rest
first_some (Some x ∷ rest) = Some x

-- the words that a cache with this line of the block supplies to a transaction
abbrev pub supplied_by : BusKind → Option Line → Option (List ℕ)
supplied_by kind None = None
supplied_by kind (Some line) = if supplies line.state kind then Some line.words else None

-- the words of the block of g that a cache supplies to a transaction
abbrev pub supplier : List (List (Option Line)) → ℕ → BusKind → Option (List ℕ)
supplier caches g kind = first_some (map (λ lines. supplied_by kind (found lines g)) caches)

-- words that are supplied, or else these
abbrev pub words_or : Option (List ℕ) → List ℕ → List ℕ
words_or None memory = memory
words_or (Some words) memory = words
