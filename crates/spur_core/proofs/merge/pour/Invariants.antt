use Rattle.std.proofs.Common.{◌≡◌, ◌+◌, ◌++◌, drop, length, map, take}
use Rattle.spur_commute.specs.Logs.{joined_logs}
use Rattle.spur_core.specs.Boards.{emptied, logs_of}
use Rattle.spur_core.proofs.merge.pour.Given as goal

abbrev pub invariant-loop-board : goal.invariant-loop-board
invariant-loop-board g l = record {
  done : take l.board-index l.board-items ≡ map emptied (take l.board-index l.fn.boards);
  left : drop l.board-index l.board-items ≡ drop l.board-index l.fn.boards;
  poured : l.history.entries ≡ l.fn.history.entries ++ joined_logs (logs_of (take l.board-index l.fn.boards));
  room : l.history.room + length (joined_logs (logs_of (take l.board-index l.fn.boards))) ≡ l.fn.history.room;
}
