use Rattle.std.proofs.Common.{◌≡◌, ◌*◌, ◌≤◌, length, take}
use Rattle.spur_commute.specs.Logs.{joined_logs}
use Rattle.spur_core.specs.Boards.{logs_of}
use Rattle.spur_core.proofs.merge.logged.Given as goal

abbrev pub invariant-loop-board : goal.invariant-loop-board
invariant-loop-board g l = record {
  counted : l.count ≡ length (joined_logs (logs_of (take l.board-index l.boards)));
  few : l.count ≤ 1024 * l.board-index;
}
