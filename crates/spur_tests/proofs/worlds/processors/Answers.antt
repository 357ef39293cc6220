use Rattle.std.proofs.Common.{◌≡◌, ◌∙◌, ◌<◌, ◌+◌, List, ap, length, rules, subst, sym, take}
use Rattle.spur_isa.specs.declared.instr.Instr.{Instr}
use Rattle.spur_cpu.specs.declared.plain.PlainCpu.{PlainCpu}
use Rattle.spur_cpu.specs.Plain.{opened}
use Rattle.spur_core.specs.Loaded.{AreAtBeginning}
use Rattle.spur_tests.proofs.WorldFacts.{next_processor}
use Rattle.spur_tests.proofs.worlds.processors.Goals as goal

pub loop-code-preserved : goal.loop-code-preserved
loop-code-preserved c =
    let codes : List (List Instr) = c.args.codes.now in
    let code = c.code-item.result in
    let within : c.loop-code.code-index < length codes = search rules in
    let copied : c.from_vec-code.result ≡ code = c.from_vec-code.ensures ∙ c.in_ok-to_vec.ensures.items_if_clones_equal (λ x y e. e) ∙ c.as_slice.ensures in
    subst (λ (cpus : List PlainCpu). AreAtBeginning (take (c.loop-code.code-index + 1) codes) c.args.budget cpus) (sym {A = List PlainCpu} c.in_ok-push.ensures.items)
    (next_processor codes c.loop-code.code-index c.args.budget code c.loop-code.cpus.items c.in_ok-new.field-0 within c.code-item.is c.loop-code.invariant
    (c.in_ok-new.ensures.state ∙ ap (λ (c : List Instr). opened c) copied) c.in_ok-new.ensures.room)
