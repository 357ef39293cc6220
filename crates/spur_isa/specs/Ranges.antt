-- The numbers that the fields of an instruction may be.
use Rattle.std.specs.Prelude.{ℕ, ◌^◌, ◌<◌, ℤ, pos, negsuc, ◌≤ℤ◌, ⊤}
use Rattle.spur_isa.specs.declared.instr.Instr.{Instr}
use Rattle.spur_isa.specs.declared.instr.Instr.TheVariants.{Halt, Nop, Li, Lih, AddI, Add, Sub, And, Or, Xor, Shl, Shr, Slt, SltU, Ld, St, Tas, Beq, Bne, Blt, Bge, Jmp, Call, Jr, Show}

-- the number of one of the 16 registers
abbrev pub IsReg : ℕ → Type 0
IsReg r = r < 16

-- a number of 16 bits with a sign
pub record IsSigned16 (i : ℤ) : Type 0 where
  pub least : negsuc 32767 ≤ℤ i
  pub most : i ≤ℤ pos 32767

-- a number of 16 bits without a sign
abbrev pub IsUnsigned16 : ℕ → Type 0
IsUnsigned16 u = u < 2 ^ 16

-- the fields of an instruction are in their ranges
abbrev pub IsInstr : Instr → Type 0
IsInstr Halt = ⊤
IsInstr Nop = ⊤
IsInstr (Li a i) = IsReg a × IsSigned16 i
IsInstr (Lih a u) = IsReg a × IsUnsigned16 u
IsInstr (AddI a b i) = IsReg a × IsReg b × IsSigned16 i
IsInstr (Add a b c) = IsReg a × IsReg b × IsReg c
IsInstr (Sub a b c) = IsReg a × IsReg b × IsReg c
IsInstr (And a b c) = IsReg a × IsReg b × IsReg c
IsInstr (Or a b c) = IsReg a × IsReg b × IsReg c
IsInstr (Xor a b c) = IsReg a × IsReg b × IsReg c
IsInstr (Shl a b c) = IsReg a × IsReg b × IsReg c
IsInstr (Shr a b c) = IsReg a × IsReg b × IsReg c
IsInstr (Slt a b c) = IsReg a × IsReg b × IsReg c
IsInstr (SltU a b c) = IsReg a × IsReg b × IsReg c
IsInstr (Ld a b i) = IsReg a × IsReg b × IsSigned16 i
IsInstr (St a b i) = IsReg a × IsReg b × IsSigned16 i
IsInstr (Tas a b i) = IsReg a × IsReg b × IsSigned16 i
IsInstr (Beq a b i) = IsReg a × IsReg b × IsSigned16 i
IsInstr (Bne a b i) = IsReg a × IsReg b × IsSigned16 i
IsInstr (Blt a b i) = IsReg a × IsReg b × IsSigned16 i
IsInstr (Bge a b i) = IsReg a × IsReg b × IsSigned16 i
IsInstr (Jmp i) = IsSigned16 i
IsInstr (Call a i) = IsReg a × IsSigned16 i
IsInstr (Jr a) = IsReg a
IsInstr (Show a) = IsReg a
