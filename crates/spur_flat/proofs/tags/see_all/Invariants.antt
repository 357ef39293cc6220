use Rattle.std.proofs.Common.{◌≡◌, take, drop}
use Rattle.spur_flat.specs.TagLines.{each_from, snooped_board}
use Rattle.spur_flat.proofs.tags.see_all.Given as goal

abbrev pub invariant-loop-k : goal.invariant-loop-k
invariant-loop-k l = record {
  done : take l.k l.boards ≡ each_from (snooped_board l.own l.block l.kind l.mine) 0 (take l.k l.fn.boards);
  left : drop l.k l.boards ≡ drop l.k l.fn.boards;
}
