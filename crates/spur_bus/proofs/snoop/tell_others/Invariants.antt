use Rattle.std.proofs.Common.{◌≡◌, take, drop}
use Rattle.spur_flat.specs.TagLines.{each_from}
use Rattle.spur_bus.specs.Boards.{changed_board, snooped_unless}
use Rattle.spur_bus.proofs.snoop.tell_others.Given as goal

abbrev pub invariant-loop-k : goal.invariant-loop-k
invariant-loop-k g l = record {
  done : take l.k l.boards ≡ each_from (changed_board g.T.HasCache.lens (snooped_unless l.own l.at l.kind)) 0 (take l.k l.fn.boards);
  left : drop l.k l.boards ≡ drop l.k l.fn.boards;
}
