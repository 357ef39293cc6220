-- Why one step on the way to an answer refuses, by the refusal that it gives.
use Rattle.std.specs.Prelude.{◌≡◌, ℕ, true, false, List, Some}
use Rattle.spur_object.specs.declared.unit.Unit.{Unit as Program}
use Rattle.spur_object.specs.Faults as objects
use Rattle.spur_trace.specs.declared.head.TraceHead.{TraceHead}
use Rattle.spur_trace.specs.declared.fault.TraceKind.TheVariants.{BadHeader, Boards}
use Rattle.spur_trace.specs.Faults as traces
use Rattle.spur_asm.specs.Faults.{IsFirstFault}
use Rattle.spur_loader.specs.declared.opening.Options.{Options}
use Rattle.spur_loader.specs.Faults.{load_fault_of}
use Rattle.spur_input.specs.declared.refusal.Refusal.{Refusal}
use Rattle.spur_input.specs.declared.refusal.Refusal.TheVariants.{Text, Object, Trace, Load}
use Rattle.spur_input.specs.Program.{is_object}

-- a text has this first fault
abbrev pub IsTextRefusal : List ℕ → Refusal → Type 0
IsTextRefusal text (Text kind line column) = IsFirstFault text line column kind
IsTextRefusal text refusal = ⊥

-- an object has this fault
abbrev pub IsObjectRefusal : List ℕ → Refusal → Type 0
IsObjectRefusal input (Object kind byte) = objects.HasFault input kind byte
IsObjectRefusal input refusal = ⊥

-- a program has this fault, as the object or the text that it is
abbrev pub IsProgramRefusal : List ℕ → Refusal → Type 0
IsProgramRefusal input (Text kind line column) = (is_object input ≡ false) × IsFirstFault input line column kind
IsProgramRefusal input (Object kind byte) = (is_object input ≡ true) × objects.HasFault input kind byte
IsProgramRefusal input refusal = ⊥

-- a load fault applies to a unit
abbrev pub IsLoadRefusal : Program → Options → Refusal → Type 0
IsLoadRefusal unit options (Load why) = load_fault_of unit options ≡ Some why
IsLoadRefusal unit options refusal = ⊥

-- the first line of a trace has another number of boards than the program, which has so many
pub record IsOfOthers (trace : List ℕ) (boards : ℕ) : Type 0 where
  pub head : TraceHead
  pub header : traces.HasHeader trace head
  pub others : head.boards ≡ boards → ⊥

-- the first line of a trace is no header, or one of another number of boards than the program
abbrev pub IsHeadRefusal : List ℕ → ℕ → Refusal → Type 0
IsHeadRefusal trace boards (Trace BadHeader line) = (line ≡ 1) × ((head : TraceHead) → traces.HasHeader trace head → ⊥)
IsHeadRefusal trace boards (Trace Boards line) = (line ≡ 1) × IsOfOthers trace boards
IsHeadRefusal trace boards refusal = ⊥

-- a trace has this fault
abbrev pub IsTraceRefusal : List ℕ → Refusal → Type 0
IsTraceRefusal trace (Trace kind line) = traces.HasFault trace kind line
IsTraceRefusal trace refusal = ⊥
