use Rattle.std.proofs.Common.{◌≡◌, drop, map}
use Rattle.spur_pager.specs.Standing.{first_cached_word}
use Rattle.spur_pager.proofs.standing.cached_word.Given as goal

-- no cache that was looked at has it
abbrev pub invariant-loop-board : goal.invariant-loop-board
invariant-loop-board g l =
    first_cached_word (map g.T.HasCache.lens.lines_of l.boards) l.at ≡ first_cached_word (map g.T.HasCache.lens.lines_of (drop l.board-index l.boards)) l.at
