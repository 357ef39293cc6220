use Rattle.spur_sched.specs.Steps.{MergesAll}
use Rattle.spur_sched.proofs.StepFacts.{instruction_as, merged_stands, on_ok_then, stepped_as}
use Rattle.spur_sched.proofs.step.take_step.Goals as goal

pub returns-clause-instruction : goal.returns-clause-instruction
returns-clause-instruction g c =
    let mid = c.take_instruction.new.world in
    let new = c.merge.new.self in
    on_ok_then c.merge.result
    (λ merged.
    let same = merged_stands g.C.Cpu.meaning g.C.Cpu.state g.C.Cpu.room mid new merged in
    instruction_as g.C.Cpu.meaning g.C.Cpu.state g.C.Cpu.room c.args.b _ _ _ c.args.world.now.boards.items mid.boards.items new.boards.items same.whole_is same.runners
    c.in_ok-take_instruction.ensures.instruction)
    c.merge.ensures.merged

pub returns-clause-joined : goal.returns-clause-joined
returns-clause-joined g c =
    on_ok_then c.merge.result
    (λ merged. MergesAll (merged_stands g.C.Cpu.meaning g.C.Cpu.state g.C.Cpu.room c.take_instruction.new.world c.merge.new.self merged).empty)
    c.merge.ensures.merged

pub returns-clause-empty : goal.returns-clause-empty
returns-clause-empty g c =
    on_ok_then c.merge.result
    (λ merged early. (merged_stands g.C.Cpu.meaning g.C.Cpu.state g.C.Cpu.room c.take_instruction.new.world c.merge.new.self merged).empty)
    c.merge.ensures.merged

pub returns-clause-stepped : goal.returns-clause-stepped
returns-clause-stepped g c =
    let mid = c.take_instruction.new.world in
    let new = c.merge.new.self in
    on_ok_then c.merge.result
    (λ merged early.
    let same = merged_stands g.C.Cpu.meaning g.C.Cpu.state g.C.Cpu.room mid new merged in
    stepped_as g.C.Cpu.meaning g.C.Cpu.state g.C.Cpu.room c.args.b _ _ _ c.args.world.now.boards.items mid.boards.items new.boards.items same.whole_is same.runners
    (c.in_ok-take_instruction.ensures.stepped (c.requires.empty early)))
    c.merge.ensures.merged
