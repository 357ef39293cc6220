-- Why an input is refused, by what it is. No cause stands beside another: each asks that none before it is there.
use Rattle.std.specs.Prelude.{◌≡◌, ℕ, ◌<◌, ◌≤◌, true, false, List, length, Some, None}
use Rattle.spur_object.specs.declared.unit.Unit.{Unit as Program}
use Rattle.spur_object.specs.declared.fault.ObjKind.{ObjKind}
use Rattle.spur_object.specs.Faults as objects
use Rattle.spur_trace.specs.declared.head.TraceHead.{TraceHead}
use Rattle.spur_trace.specs.declared.fault.TraceKind.TheVariants.{BadHeader, BadLine, Boards}
use Rattle.spur_trace.specs.Faults as traces
use Rattle.spur_asm.specs.declared.fault.AsmKind.{AsmKind}
use Rattle.spur_asm.specs.Faults.{IsFirstFault}
use Rattle.spur_asm.specs.Says.{Says}
use Rattle.spur_loader.specs.declared.opening.Options.{Options}
use Rattle.spur_loader.specs.declared.fault.LoadFault.{LoadFault}
use Rattle.spur_loader.specs.declared.fault.LoadFault.TheVariants.{NoMemory}
use Rattle.spur_loader.specs.Faults.{load_fault_of}
use Rattle.spur_input.specs.declared.refusal.NotAccepted.{NotAccepted}
use Rattle.spur_input.specs.declared.refusal.NotAccepted.TheVariants as unaccepted
use Rattle.spur_input.specs.declared.refusal.Refusal.{Refusal}
use Rattle.spur_input.specs.declared.refusal.Refusal.TheVariants.{TooLong, Text, Object, Trace, Load}
use Rattle.spur_input.specs.Program.{IsProgramOf, check_limit, is_object, program_limit}
use Rattle.spur_input.specs.Judged.{head_options, program_part, trace_part}

-- why an input is not run: it is too long; it has a first fault as a text; it has a fault as an object; a load fault
-- applies to its unit
pub data IsRefusedToRun (options : Options) (input : List ℕ) : Refusal → Type 0 where
  IsLong : program_limit < length input → IsRefusedToRun options input (TooLong program_limit)
  HasTextFault : length input ≤ program_limit → is_object input ≡ false
      → (line column : ℕ) (kind : AsmKind) → IsFirstFault input line column kind
      → IsRefusedToRun options input (Text kind line column)
  HasObjectFault : length input ≤ program_limit → is_object input ≡ true
      → (kind : ObjKind) (byte : ℕ) → objects.HasFault input kind byte
      → IsRefusedToRun options input (Object kind byte)
  IsNotLoaded : length input ≤ program_limit → (unit : Program) → IsProgramOf unit input
      → (why : LoadFault) → load_fault_of unit options ≡ Some why
      → IsRefusedToRun options input (Load why)

-- why a text is not assembled: it is too long, or it has a first fault
pub data IsRefusedToAssemble (text : List ℕ) : Refusal → Type 0 where
  IsLongText : program_limit < length text → IsRefusedToAssemble text (TooLong program_limit)
  HasFirstFault : length text ≤ program_limit
      → (line column : ℕ) (kind : AsmKind) → IsFirstFault text line column kind
      → IsRefusedToAssemble text (Text kind line column)

-- why a trace is not judged: the input is too long; the program's part has a first fault; no header begins the trace;
-- the header is of another number of boards than the program; a load fault applies to the program's unit with the
-- header's options; a later line of the trace is bad
pub data IsRefusedToCheck (budget : ℕ) (input : List ℕ) : Refusal → Type 0 where
  IsLongInput : check_limit < length input → IsRefusedToCheck budget input (TooLong check_limit)
  HasProgramFault : length input ≤ check_limit
      → (line column : ℕ) (kind : AsmKind) → IsFirstFault (program_part input) line column kind
      → IsRefusedToCheck budget input (Text kind line column)
  HasNoHeader : length input ≤ check_limit
      → (unit : Program) → Says (program_part input) unit
      → ((head : TraceHead) → traces.HasHeader (trace_part input) head → ⊥)
      → IsRefusedToCheck budget input (Trace BadHeader 1)
  HasOtherBoards : length input ≤ check_limit
      → (unit : Program) → Says (program_part input) unit
      → (head : TraceHead) → traces.HasHeader (trace_part input) head
      → (head.boards ≡ length unit.boards → ⊥)
      → IsRefusedToCheck budget input (Trace Boards 1)
  HasLoadFault : length input ≤ check_limit
      → (unit : Program) → Says (program_part input) unit
      → (head : TraceHead) → traces.HasHeader (trace_part input) head
      → head.boards ≡ length unit.boards
      → (why : LoadFault) → load_fault_of unit (head_options budget head) ≡ Some why
      → IsRefusedToCheck budget input (Load why)
  HasLineFault : length input ≤ check_limit
      → (unit : Program) → Says (program_part input) unit
      → (head : TraceHead) → traces.HasHeader (trace_part input) head
      → head.boards ≡ length unit.boards
      → load_fault_of unit (head_options budget head) ≡ None
      → (line : ℕ) → traces.HasBadLine (trace_part input) line
      → IsRefusedToCheck budget input (Trace BadLine line)

-- a load fault is a refusal, but for want of memory
abbrev pub not_loaded : LoadFault → NotAccepted
not_loaded NoMemory = unaccepted.NoMemory
not_loaded fault = unaccepted.Refused (Load fault)
