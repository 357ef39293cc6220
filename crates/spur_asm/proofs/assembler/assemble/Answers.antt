use Rattle.spur_asm.proofs.SaidFacts.{first_if-Bad, limits_if-Ok, nothing_if-Bad, says_if-Ok}
use Rattle.spur_asm.proofs.Theorems.{reads_what_is_said}
use Rattle.spur_asm.proofs.assembler.assemble.Goals as goal

pub returns-clause-ok : goal.returns-clause-ok
returns-clause-ok c = says_if-Ok reads_what_is_said c.args.text.now _ c.read-answer.ensures.exact

pub returns-clause-limits : goal.returns-clause-limits
returns-clause-limits c = limits_if-Ok reads_what_is_said c.args.text.now _ c.read-answer.ensures.exact

pub returns-clause-first : goal.returns-clause-first
returns-clause-first c kind line column is = first_if-Bad c.args.text.now _ kind line column c.read-answer.ensures.exact is

pub returns-clause-nothing_said : goal.returns-clause-nothing_said
returns-clause-nothing_said c kind line column is = nothing_if-Bad c.args.text.now _ kind line column c.read-answer.ensures.exact is
