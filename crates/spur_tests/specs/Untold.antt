-- A swap object that does not tell its pages.
use Rattle.std.specs.Prelude.{None}
use Rattle.spur_swap.specs.Meaning.{Swap}

-- the same, but for the pages, which are not told
abbrev pub untold : Swap → Swap
untold s = record s { pages = None }
