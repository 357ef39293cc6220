use Rattle.std.proofs.Common.{◌++◌, ◌∷◌, [], subst, sym, List}
use Rattle.spur_cpu.specs.declared.plain.PlainCpu.{PlainCpu}
use Rattle.spur_core.specs.Loaded.{AreAtBeginning}
use Rattle.spur_program.proofs.PlainFacts.{processors_more}
use Rattle.spur_program.proofs.plain.processors.Goals as goal

pub loop-code-preserved : goal.loop-code-preserved
loop-code-preserved c =
    subst (λ (cpus : List PlainCpu). AreAtBeginning (c.loop-code.yielded ++ c.in-Some.code ∷ []) c.args.budget cpus) (sym c.in_ok-push.ensures.items)
    (processors_more c.loop-code.yielded c.in-Some.code c.args.budget c.loop-code.cpus.items c.in_ok-new.field-0 c.loop-code.invariant c.in_ok-new.ensures.state c.in_ok-new.ensures.room)
