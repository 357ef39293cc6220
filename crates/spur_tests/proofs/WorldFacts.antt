-- Processors of codes, and that a world may begin with them and what a text says.
use Rattle.std.proofs.Common.{◌≡◌, ◌∙◌, ℕ, ◌+◌, ◌<◌, ◌≤◌, None, List, [], ◌∷◌, ◌++◌, ap, get_or, length, subst, sym, take}
use Rattle.std.proofs.lemmas.List.{take_more}
use Rattle.spur_isa.specs.declared.instr.Instr.{Instr}
use Rattle.spur_object.specs.Limits.{IsUnit}
use Rattle.spur_object.specs.declared.unit.Unit.{Unit as Program}
use Rattle.spur_cpu.specs.declared.plain.PlainCpu.{PlainCpu}
use Rattle.spur_cpu.specs.Plain.{opened, plain}
use Rattle.spur_cpu.specs.PlainCpus.{plain_of, room_of}
use Rattle.spur_loader.specs.declared.opening.Opening.{Opening}
use Rattle.spur_loader.specs.declared.opening.Options.{Options}
use Rattle.spur_loader.specs.Faults.{load_fault_of}
use Rattle.spur_loader.specs.Limits.{IsOptions}
use Rattle.spur_loader.specs.Opening.{opening_of}
use Rattle.spur_core.specs.Begin.{IsBeginning}
use Rattle.spur_core.specs.Loaded.{AreAtBeginning}
use Rattle.spur_core.proofs.LoadedFacts.{loaded_may_begin}
use Rattle.spur_program.proofs.PlainFacts.{processors_more}

-- one more processor, for the next code
pub next_processor : (codes : List (List Instr)) (i room : ℕ) (code : List Instr) (cpus : List PlainCpu) (cpu : PlainCpu) → i < length codes → code ≡ get_or codes i code
    → AreAtBeginning (take i codes) room cpus → plain_of cpu ≡ opened code → room ≤ room_of cpu → AreAtBeginning (take (i + 1) codes) room (cpus ++ cpu ∷ [])
next_processor codes i room code cpus cpu within is are state spare =
    subst (λ (cs : List (List Instr)). AreAtBeginning cs room (cpus ++ cpu ∷ [])) (sym (take_more codes i code within))
    (processors_more (take i codes) (get_or codes i code) room cpus cpu are (state ∙ ap (λ (c : List Instr). opened c) is) spare)

-- a world may begin with the opening of what a text says, and with these processors
pub text_begins : (unit : Program) (options : Options) (opening : Opening) (cpus : List PlainCpu) → IsUnit unit → IsOptions options
    → opening ≡ opening_of unit options → load_fault_of unit options ≡ None → AreAtBeginning opening.code options.budget cpus → IsBeginning plain plain_of room_of opening cpus
text_begins unit options opening cpus limits range is accepted at =
    subst (λ (o : Opening). IsBeginning plain plain_of room_of o cpus) (sym is)
    (loaded_may_begin unit options cpus limits range accepted (subst (λ (o : Opening). AreAtBeginning o.code options.budget cpus) is at))
