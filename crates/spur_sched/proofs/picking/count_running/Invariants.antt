use Rattle.std.proofs.Common.{◌≡◌, ◌+◌, ◌≤◌, drop, length}
use Rattle.spur_sched.specs.Picks.{are_out, running_boards, running_from}
use Rattle.spur_sched.proofs.picking.count_running.Given as goal

-- those that were counted, and those from here on
abbrev pub invariant-loop-board : goal.invariant-loop-board
invariant-loop-board g l = record {
  counted : l.running + length (running_from l.board-index (drop l.board-index (are_out l.boards))) ≡ length (running_boards (are_out l.boards));
  few : l.running ≤ l.board-index;
}
