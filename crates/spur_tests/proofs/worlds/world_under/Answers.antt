use Rattle.std.proofs.Common.{List, subst}
use Rattle.spur_isa.specs.declared.instr.Instr.{Instr}
use Rattle.spur_core.specs.Loaded.{AreAtBeginning}
use Rattle.spur_tests.proofs.WorldFacts.{text_begins}
use Rattle.spur_tests.proofs.worlds.world_under.Goals as goal

pub begin-requires : goal.begin-requires
begin-requires g c =
    text_begins c.in_ok-unit.unit c.args.options c.in_ok-opening.opening c.in_ok-cpus.cpus.items c.in_ok-unit.ensures.limits c.requires
    c.in_ok-opening.ensures.opening c.in_ok-opening.ensures.accepted
    (subst (λ (codes : List (List Instr)). AreAtBeginning codes c.args.options.budget c.in_ok-cpus.cpus.items) c.as_slice.ensures c.in_ok-cpus.ensures)
