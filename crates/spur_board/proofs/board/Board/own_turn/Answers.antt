use Rattle.std.proofs.Common.{◌∙◌, sym, arith}
use Rattle.spur_board.specs.declared.turn.Turn.TheVariants as turn
use Rattle.spur_board.proofs.EndingFacts.{none_if}
use Rattle.spur_board.proofs.TurnFacts.{stepped_event, stepped_needs, turned_by, turned_needs, turned_over, turning_next}
use Rattle.spur_board.proofs.board.Board.own_turn.Goals as goal

pub loop-preserved : goal.loop-preserved
loop-preserved g c =
    let test = c.loop-test.true in
    record {
      turning = turning_next g.C.Cpu.meaning g.C.Cpu.state g.C.Cpu.room c.loop.counter c.args.self.now c.loop.self c.step.new.self c.loop.invariant.turning
          (stepped_event g.C.Cpu.meaning g.C.Cpu.state g.C.Cpu.room c.step.result c.loop.self c.step.new.self c.in_default.not-Some c.step.ensures);
      count = omega arith;
    }

pub returns-in-Some : goal.returns-in-Some
returns-in-Some g c =
    turned_needs g.C.Cpu.meaning g.C.Cpu.state g.C.Cpu.room c.loop.counter c.args.at_most c.args.self.now c.loop.self c.step.new.self c.in-Some.reason c.requires.sound c.loop.invariant.turning c.loop-test.true
    (stepped_needs g.C.Cpu.meaning g.C.Cpu.state g.C.Cpu.room c.step.result c.in-Some.reason c.loop.self c.step.new.self c.in-Some.is c.step.ensures)

pub returns-then-is_some : goal.returns-then-is_some
returns-then-is_some g c =
    turned_by g.C.Cpu.meaning g.C.Cpu.state g.C.Cpu.room c.loop.counter c.args.at_most c.args.self.now c.loop.self turn.Ended c.requires.sound c.loop.invariant.turning c.loop.invariant.count (sym c.is_some.ensures ∙ c.if-is_some.true)

pub returns-then-is_some-2 : goal.returns-then-is_some-2
returns-then-is_some-2 g c =
    turned_by g.C.Cpu.meaning g.C.Cpu.state g.C.Cpu.room c.loop.counter c.args.at_most c.args.self.now c.loop.self turn.Ended c.requires.sound c.loop.invariant.turning c.loop.invariant.count (sym c.is_some-2.ensures ∙ c.if-is_some-2.true)

pub returns-else-is_some-2 : goal.returns-else-is_some-2
returns-else-is_some-2 g c =
    turned_over g.C.Cpu.meaning g.C.Cpu.state g.C.Cpu.room c.loop.counter c.args.at_most c.args.self.now c.loop.self c.requires.sound c.loop.invariant.turning c.loop.invariant.count c.loop-test.false (none_if c.loop.self.ended (sym c.is_some-2.ensures ∙ c.if-is_some-2.false))
