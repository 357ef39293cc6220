use Rattle.std.proofs.Common.{◌≡◌, drop}
use Rattle.std.specs.Prelude.{slice_get}
use Rattle.spur_sched.specs.Picks.{are_out, running_boards, running_from}
use Rattle.spur_sched.proofs.picking.running_at.Given as goal

-- from here on it stands at the position that is left
abbrev pub invariant-loop-i : goal.invariant-loop-i
invariant-loop-i g l = slice_get (running_from l.i (drop l.i (are_out l.boards))) l.left ≡ slice_get (running_boards (are_out l.boards)) l.position
