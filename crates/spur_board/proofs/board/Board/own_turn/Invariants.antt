use Rattle.std.proofs.Common.{◌≤◌}
use Rattle.spur_board.proofs.TurnFacts.{IsTurning}
use Rattle.spur_board.proofs.board.Board.own_turn.Given as goal

abbrev pub invariant-loop : goal.invariant-loop
invariant-loop g l = record { turning : IsTurning g.C.Cpu.meaning g.C.Cpu.state g.C.Cpu.room l.counter l.fn.self l.self; count : l.counter ≤ l.at_most }
