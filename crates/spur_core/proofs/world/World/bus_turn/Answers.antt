use Rattle.std.proofs.Common.{List, subst, sym}
use Rattle.spur_board.specs.declared.board.Board.{Board}
use Rattle.spur_core.specs.Boards.{LogsAreEmpty}
use Rattle.spur_core.proofs.MergedFacts.{empty_emptied}
use Rattle.spur_core.proofs.TurnFacts.{turn_ahead, turn_fetches, turn_grows, turn_once, turn_swapped, turned}
use Rattle.spur_core.proofs.world.World.bus_turn.Goals as goal

pub step_ahead-requires-clause-empty : goal.step_ahead-requires-clause-empty
step_ahead-requires-clause-empty g c = subst (λ (bs : List (Board g.row.C.Denot)). LogsAreEmpty bs) (sym c.in_ok-merge_with.ensures.merged.boards) (empty_emptied c.args.self.now.boards.items)

pub returns-clause-grows : goal.returns-clause-grows
returns-clause-grows g c =
    let t = turned g.C.Cpu.meaning g.C.Cpu.state g.C.Cpu.room g.B.Backing.meaning c.args.b c.args.self.now c.merge_with.new.self c.step_ahead.new.self c.access.new.self c.requires.board (record { rest = _; stands = c.merge_with.ensures.good.stands }) c.in_ok-merge_with.ensures.merged c.step_ahead.ensures.steps c.access.ensures.acted in
    turn_grows g.C.Cpu.meaning g.C.Cpu.state g.C.Cpu.room g.B.Backing.meaning c.args.b c.args.self.now c.access.new.self t

pub returns-clause-others : goal.returns-clause-others
returns-clause-others g c =
    let t = turned g.C.Cpu.meaning g.C.Cpu.state g.C.Cpu.room g.B.Backing.meaning c.args.b c.args.self.now c.merge_with.new.self c.step_ahead.new.self c.access.new.self c.requires.board (record { rest = _; stands = c.merge_with.ensures.good.stands }) c.in_ok-merge_with.ensures.merged c.step_ahead.ensures.steps c.access.ensures.acted in
    t.others

pub returns-clause-idle : goal.returns-clause-idle
returns-clause-idle g c =
    let t = turned g.C.Cpu.meaning g.C.Cpu.state g.C.Cpu.room g.B.Backing.meaning c.args.b c.args.self.now c.merge_with.new.self c.step_ahead.new.self c.access.new.self c.requires.board (record { rest = _; stands = c.merge_with.ensures.good.stands }) c.in_ok-merge_with.ensures.merged c.step_ahead.ensures.steps c.access.ensures.acted in
    t.idle

pub returns-clause-moved : goal.returns-clause-moved
returns-clause-moved g c =
    let t = turned g.C.Cpu.meaning g.C.Cpu.state g.C.Cpu.room g.B.Backing.meaning c.args.b c.args.self.now c.merge_with.new.self c.step_ahead.new.self c.access.new.self c.requires.board (record { rest = _; stands = c.merge_with.ensures.good.stands }) c.in_ok-merge_with.ensures.merged c.step_ahead.ensures.steps c.access.ensures.acted in
    t.moved

pub returns-clause-stepped : goal.returns-clause-stepped
returns-clause-stepped g c =
    let t = turned g.C.Cpu.meaning g.C.Cpu.state g.C.Cpu.room g.B.Backing.meaning c.args.b c.args.self.now c.merge_with.new.self c.step_ahead.new.self c.access.new.self c.requires.board (record { rest = _; stands = c.merge_with.ensures.good.stands }) c.in_ok-merge_with.ensures.merged c.step_ahead.ensures.steps c.access.ensures.acted in
    t.stepped

pub returns-clause-once : goal.returns-clause-once
returns-clause-once g c =
    let t = turned g.C.Cpu.meaning g.C.Cpu.state g.C.Cpu.room g.B.Backing.meaning c.args.b c.args.self.now c.merge_with.new.self c.step_ahead.new.self c.access.new.self c.requires.board (record { rest = _; stands = c.merge_with.ensures.good.stands }) c.in_ok-merge_with.ensures.merged c.step_ahead.ensures.steps c.access.ensures.acted in
    turn_once g.C.Cpu.meaning g.C.Cpu.state g.C.Cpu.room g.B.Backing.meaning c.args.b c.args.self.now c.access.new.self t

pub returns-clause-fetches : goal.returns-clause-fetches
returns-clause-fetches g c =
    let t = turned g.C.Cpu.meaning g.C.Cpu.state g.C.Cpu.room g.B.Backing.meaning c.args.b c.args.self.now c.merge_with.new.self c.step_ahead.new.self c.access.new.self c.requires.board (record { rest = _; stands = c.merge_with.ensures.good.stands }) c.in_ok-merge_with.ensures.merged c.step_ahead.ensures.steps c.access.ensures.acted in
    turn_fetches g.C.Cpu.meaning g.C.Cpu.state g.C.Cpu.room g.B.Backing.meaning c.args.b c.args.self.now c.access.new.self t

pub returns-clause-swapped : goal.returns-clause-swapped
returns-clause-swapped g c =
    let t = turned g.C.Cpu.meaning g.C.Cpu.state g.C.Cpu.room g.B.Backing.meaning c.args.b c.args.self.now c.merge_with.new.self c.step_ahead.new.self c.access.new.self c.requires.board (record { rest = _; stands = c.merge_with.ensures.good.stands }) c.in_ok-merge_with.ensures.merged c.step_ahead.ensures.steps c.access.ensures.acted in
    turn_swapped g.C.Cpu.meaning g.C.Cpu.state g.C.Cpu.room g.B.Backing.meaning c.args.b c.args.self.now c.access.new.self t

pub returns-clause-ahead : goal.returns-clause-ahead
returns-clause-ahead g c =
    let t = turned g.C.Cpu.meaning g.C.Cpu.state g.C.Cpu.room g.B.Backing.meaning c.args.b c.args.self.now c.merge_with.new.self c.step_ahead.new.self c.access.new.self c.requires.board (record { rest = _; stands = c.merge_with.ensures.good.stands }) c.in_ok-merge_with.ensures.merged c.step_ahead.ensures.steps c.access.ensures.acted in
    turn_ahead g.C.Cpu.meaning g.C.Cpu.state g.C.Cpu.room g.B.Backing.meaning c.args.b c.args.self.now c.access.new.self t
