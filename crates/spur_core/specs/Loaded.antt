-- A world begins with a program that was loaded, on plain processors.
use Rattle.std.specs.Prelude.{ℕ, ◌≡◌, ◌≤◌, List, length, slice_get, Some, None}
use Rattle.spur_isa.specs.declared.instr.Instr.{Instr}
use Rattle.spur_object.specs.Limits.{IsUnit}
use Rattle.spur_object.specs.declared.unit.Unit.{Unit as Program}
use Rattle.spur_cpu.specs.declared.plain.PlainCpu.{PlainCpu}
use Rattle.spur_cpu.specs.Plain.{opened, plain}
use Rattle.spur_cpu.specs.PlainCpus.{plain_of, room_of}
use Rattle.spur_loader.specs.declared.opening.Options.{Options}
use Rattle.spur_loader.specs.Faults.{load_fault_of}
use Rattle.spur_loader.specs.Limits.{IsOptions}
use Rattle.spur_loader.specs.Opening.{opening_of}
use Rattle.spur_core.specs.Begin.{IsBeginning}

-- a plain processor at the beginning of its code, with room for so many shown values
pub record IsAtBeginning (code : List Instr) (room : ℕ) (cpu : PlainCpu) : Type 0 where
  pub state : plain_of cpu ≡ opened code
  pub spare : room ≤ room_of cpu

-- one for each code
pub record AreAtBeginning (codes : List (List Instr)) (room : ℕ) (cpus : List PlainCpu) : Type 0 where
  pub count : length cpus ≡ length codes
  pub each : (i : ℕ) (code : List Instr) (cpu : PlainCpu) → slice_get codes i ≡ Some code → slice_get cpus i ≡ Some cpu → IsAtBeginning code room cpu

-- a world may begin with the opening of a program for which no fault applies, and with plain processors at the beginning of
-- its code
abbrev pub LoadedMayBegin : Type 0
LoadedMayBegin = (unit : Program) (options : Options) (cpus : List PlainCpu)
    → IsUnit unit → IsOptions options → load_fault_of unit options ≡ None
    → AreAtBeginning (opening_of unit options).code options.budget cpus
    → IsBeginning plain plain_of room_of (opening_of unit options) cpus
