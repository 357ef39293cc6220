-- What ties accepted inputs and refusals to one another.
use Rattle.std.specs.Prelude.{◌≡◌, ◌⊎◌, ℕ, ◌≤◌, false, List, length}
use Rattle.spur_flat.specs.declared.entry.Entry.{Entry}
use Rattle.spur_object.specs.declared.unit.Unit.{Unit as Program}
use Rattle.spur_trace.specs.declared.head.TraceHead.{TraceHead}
use Rattle.spur_loader.specs.declared.opening.Options.{Options}
use Rattle.spur_check.specs.declared.verdict.Verdict.{Verdict}
use Rattle.spur_input.specs.declared.refusal.Refusal.{Refusal}
use Rattle.spur_input.specs.Program.{IsAssembled, IsLoadable, is_object, program_limit}
use Rattle.spur_input.specs.Judged.{IsCutAtTrace, IsJudgeable, IsVerdictOn, program_part, trace_part}
use Rattle.spur_input.specs.Refused.{IsRefusedToAssemble, IsRefusedToCheck, IsRefusedToRun}

-- the two parts of each input are cut at its trace
abbrev pub CutAtTrace : Type 0
CutAtTrace = (input : List ℕ) → IsCutAtTrace input (program_part input) (trace_part input)

-- ---- one refusal at most

abbrev pub OneRefusalToRun : Type 0
OneRefusalToRun = (options : Options) (input : List ℕ) (one other : Refusal)
    → IsRefusedToRun options input one → IsRefusedToRun options input other → one ≡ other

abbrev pub OneRefusalToAssemble : Type 0
OneRefusalToAssemble = (text : List ℕ) (one other : Refusal)
    → IsRefusedToAssemble text one → IsRefusedToAssemble text other → one ≡ other

abbrev pub OneRefusalToCheck : Type 0
OneRefusalToCheck = (budget : ℕ) (input : List ℕ) (one other : Refusal)
    → IsRefusedToCheck budget input one → IsRefusedToCheck budget input other → one ≡ other

-- ---- what is accepted is not refused

abbrev pub LoadableIsNotRefused : Type 0
LoadableIsNotRefused = (options : Options) (input : List ℕ) (unit : Program) (refusal : Refusal)
    → IsLoadable options input unit → IsRefusedToRun options input refusal → ⊥

abbrev pub AssembledIsNotRefused : Type 0
AssembledIsNotRefused = (text : List ℕ) (unit : Program) (refusal : Refusal)
    → IsAssembled text unit → IsRefusedToAssemble text refusal → ⊥

abbrev pub JudgeableIsNotRefused : Type 0
JudgeableIsNotRefused = (budget : ℕ) (input : List ℕ) (unit : Program) (head : TraceHead) (entries : List Entry)
    (refusal : Refusal) → IsJudgeable budget input unit head entries → IsRefusedToCheck budget input refusal → ⊥

-- ---- what is accepted is one

abbrev pub OneIsLoadable : Type 0
OneIsLoadable = (options : Options) (input : List ℕ) (one other : Program)
    → IsLoadable options input one → IsLoadable options input other → one ≡ other

abbrev pub OneIsAssembled : Type 0
OneIsAssembled = (text : List ℕ) (one other : Program) → IsAssembled text one → IsAssembled text other → one ≡ other

abbrev pub OneVerdict : Type 0
OneVerdict = (budget : ℕ) (input : List ℕ) (one other : Verdict)
    → IsVerdictOn budget input one → IsVerdictOn budget input other → one ≡ other

-- ---- a text within the limit is accepted or refused

abbrev pub TextIsLoadableOrRefused : Type 0
TextIsLoadableOrRefused = (options : Options) (text : List ℕ) → is_object text ≡ false → length text ≤ program_limit
    → ((unit : Program) × IsLoadable options text unit) ⊎ ((refusal : Refusal) × IsRefusedToRun options text refusal)

abbrev pub TextIsAssembledOrRefused : Type 0
TextIsAssembledOrRefused = (text : List ℕ) → length text ≤ program_limit
    → ((unit : Program) × IsAssembled text unit) ⊎ ((refusal : Refusal) × IsRefusedToAssemble text refusal)
