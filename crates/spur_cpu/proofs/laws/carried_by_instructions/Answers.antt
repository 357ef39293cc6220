use Rattle.spur_cpu.proofs.Instructions.{instruction-is-one, instruction-leads-on, made-of-instructions, nothing-completed}
use Rattle.spur_cpu.proofs.laws.carried_by_instructions.Goals as goal

pub returns-clause-leads : goal.returns-clause-leads
returns-clause-leads g c = instruction-leads-on g.C.Cpu.meaning

pub returns-clause-one : goal.returns-clause-one
returns-clause-one g c = instruction-is-one g.C.Cpu.meaning

pub returns-clause-made : goal.returns-clause-made
returns-clause-made g c = made-of-instructions g.C.Cpu.meaning

pub returns-clause-nothing : goal.returns-clause-nothing
returns-clause-nothing g c = nothing-completed g.C.Cpu.meaning
