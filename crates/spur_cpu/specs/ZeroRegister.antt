-- Register 0 is always 0.
use Rattle.std.specs.Prelude.{◌≡◌, ℕ, List, Some, length}
use Rattle.spur_isa.specs.declared.instr.Instr.{Instr}
use Rattle.spur_flat.specs.declared.entry.Entry.{Entry}
use Rattle.spur_cpu.specs.Registers.{register_of}
use Rattle.spur_cpu.specs.Plain.{Plain, plain, opened}
use Rattle.spur_cpu.specs.After.{Course, after, begun}

-- there are sixteen registers, and register 0 is 0
pub record IsSixteen (registers : List ℕ) : Type 0 where
  pub sixteen : length registers ≡ 16
  pub zero : register_of registers 0 ≡ 0

-- so it is wherever a program has come
abbrev pub ZeroStays : Type 0
ZeroStays = (code : List Instr) (segs : List ℕ) (budget : ℕ) (entries : List Entry) (completed : ℕ) (course : Course Plain)
    → after plain segs budget (begun (opened code)) entries completed ≡ Some course → IsSixteen course.cpu.registers
