-- What the tests look for before they call.
use Rattle.std.specs.Prelude.{ℕ, ◌≡◌, ◌%◌, ◌==◌, ◌&&◌, not, if◌then◌else◌, Bool, true, List, Option, Some, None}
use Rattle.spur_addr.specs.Address.{block_of}
use Rattle.spur_cache.specs.declared.line.Line.{Line}
use Rattle.spur_cache.specs.Lines.{line_at}
use Rattle.spur_snoop.specs.Protocol.{is_owned}
use Rattle.spur_bus.specs.Boards.{line_in}

-- a line is of the block of g exactly where it stands at the block's place in a frame
abbrev pub fits : ℕ → ℕ → Line → Bool
fits g frame line =
    let at_place = (line.frame == frame) && (line.tag % 128 == block_of g % 128) in
    if line.tag == block_of g then at_place else not at_place

-- each line of a cache is so, and each line of all caches
pub record EachFits (lines : List (Option Line)) (g frame : ℕ) : Type 0 where
  pub fit : (slot : ℕ) (line : Line) → line_at lines slot ≡ Some line → fits g frame line ≡ true

pub record AllFit (caches : List (List (Option Line))) (g frame : ℕ) : Type 0 where
  pub fit : (i slot : ℕ) (line : Line) → line_in caches i slot ≡ Some line → fits g frame line ≡ true

-- a line may go for the block of g: it is of another block, and not owned
abbrev pub may_go : ℕ → Option Line → Bool
may_go g None = true
may_go g (Some line) = not (line.tag == block_of g) && not (is_owned line.state)
