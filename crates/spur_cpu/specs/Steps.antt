-- What one instruction does: the table of the instructions. Arithmetic is modulo 2 ^ 32.
use Rattle.std.specs.Prelude.{ℕ, ◌+◌, ◌-◌, ◌*◌, ◌/◌, ◌%◌, ◌^◌, ◌==◌, Bool, not, List, Option, Some, None, ℤ, nat_lt, int_lt, if◌then◌else◌, bit_and, bit_or, bit_xor}
use Rattle.std.specs.Int.{w32, cast_signed, cast_unsigned}
use Rattle.spur_isa.specs.declared.instr.Instr.{Instr}
use Rattle.spur_isa.specs.declared.instr.Instr.TheVariants.{Halt, Nop, Li, Lih, AddI, Add, Sub, And, Or, Xor, Shl, Shr, Slt, SltU, Ld, St, Tas, Beq, Bne, Blt, Bge, Jmp, Call, Jr, Show}
use Rattle.spur_flat.specs.declared.access.AccessKind.TheVariants as access
use Rattle.spur_cpu.specs.declared.step.Step.{Step}
use Rattle.spur_cpu.specs.declared.step.Step.TheVariants.{Writes, Goes, Shows, Ends}
use Rattle.spur_cpu.specs.declared.step.Reach.{Reach}
use Rattle.spur_cpu.specs.Registers.{register_of}

-- the place of the next instruction
abbrev pub next_of : ℕ → ℕ
next_of place = (place + 1) % 2 ^ 32

-- the place that a branch names: so far from the next one, and not from its own
abbrev pub target_of : ℕ → ℤ → ℕ
target_of place i = (next_of place + cast_unsigned w32 i) % 2 ^ 32

-- a register and a signed number, added: the process address of an access, too
abbrev pub register_plus : List ℕ → ℕ → ℤ → ℕ
register_plus registers b i = (register_of registers b + cast_unsigned w32 i) % 2 ^ 32

-- whether a word is less than another, both as signed numbers
abbrev pub is_less : ℕ → ℕ → Bool
is_less m n = int_lt (cast_signed w32 m) (cast_signed w32 n)

abbrev pub one_if : Bool → ℕ
one_if holds = if holds then 1 else 0

-- it writes a register and goes to the next place
abbrev pub sets_of : ℕ → ℕ → ℕ → Step
sets_of a value place = Writes a value (next_of place)

-- it goes where the branch names if its condition holds, and else to the next place
abbrev pub branch_of : Bool → ℕ → ℤ → Step
branch_of holds place i = if holds then Goes (target_of place i) else Goes (next_of place)

-- what an instruction at a place does besides its access; one with an access goes on to the next place
abbrev pub instr_step : Instr → List ℕ → ℕ → Step
instr_step Halt r place = Ends
instr_step Nop r place = Goes (next_of place)
instr_step (Li a i) r place = sets_of a (cast_unsigned w32 i) place
instr_step (Lih a u) r place = sets_of a (register_of r a % 65536 + u * 65536) place
instr_step (AddI a b i) r place = sets_of a (register_plus r b i) place
instr_step (Add a b c) r place = sets_of a ((register_of r b + register_of r c) % 2 ^ 32) place
instr_step (Sub a b c) r place = sets_of a ((register_of r b + (2 ^ 32 - register_of r c)) % 2 ^ 32) place
instr_step (And a b c) r place = sets_of a (bit_and (register_of r b) (register_of r c)) place
instr_step (Or a b c) r place = sets_of a (bit_or (register_of r b) (register_of r c)) place
instr_step (Xor a b c) r place = sets_of a (bit_xor (register_of r b) (register_of r c)) place
instr_step (Shl a b c) r place = sets_of a (register_of r b * 2 ^ (register_of r c % 32) % 2 ^ 32) place
instr_step (Shr a b c) r place = sets_of a (register_of r b / 2 ^ (register_of r c % 32)) place
instr_step (Slt a b c) r place = sets_of a (one_if (is_less (register_of r b) (register_of r c))) place
instr_step (SltU a b c) r place = sets_of a (one_if (nat_lt (register_of r b) (register_of r c))) place
instr_step (Ld a b i) r place = Goes (next_of place)
instr_step (St a b i) r place = Goes (next_of place)
instr_step (Tas a b i) r place = Goes (next_of place)
instr_step (Beq a b i) r place = branch_of (register_of r a == register_of r b) place i
instr_step (Bne a b i) r place = branch_of (not (register_of r a == register_of r b)) place i
instr_step (Blt a b i) r place = branch_of (is_less (register_of r a) (register_of r b)) place i
instr_step (Bge a b i) r place = branch_of (not (is_less (register_of r a) (register_of r b))) place i
instr_step (Jmp i) r place = Goes (target_of place i)
instr_step (Call a i) r place = Writes a (next_of place) (target_of place i)
instr_step (Jr a) r place = Goes (register_of r a)
instr_step (Show a) r place = Shows (register_of r a)

-- the access that an instruction wants: its kind, its process address, and the word that it writes, 0 for a load
abbrev pub reach_of : Instr → List ℕ → Option Reach
reach_of (Ld a b i) r = Some record { kind = access.Load; va = register_plus r b i; value = 0 }
reach_of (St a b i) r = Some record { kind = access.Store; va = register_plus r b i; value = register_of r a }
reach_of (Tas a b i) r = Some record { kind = access.Tas; va = register_plus r b i; value = 1 }
reach_of other r = None
