use Rattle.std.proofs.Common.{◌≡◌, drop, map}
use Rattle.spur_bus.specs.Boards.{supplier}
use Rattle.spur_bus.proofs.snoop.supplied.Given as goal

abbrev pub invariant-loop-board : goal.invariant-loop-board
invariant-loop-board g l =
    supplier (map g.T.HasCache.lens.lines_of l.boards) l.at l.kind ≡ supplier (map g.T.HasCache.lens.lines_of (drop l.board-index l.boards)) l.at l.kind
