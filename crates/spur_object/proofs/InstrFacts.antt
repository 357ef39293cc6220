-- The word of an instruction has 32 bits.
use Rattle.std.proofs.Common.{ℕ, ◌^◌, ◌<◌, ℤ, arith, rules}
use Rattle.spur_isa.specs.declared.instr.Instr.{Instr}
use Rattle.spur_isa.specs.declared.instr.Instr.TheVariants.{Halt, Nop, Li, Lih, AddI, Add, Sub, And, Or, Xor, Shl, Shr, Slt, SltU, Ld, St, Tas, Beq, Bne, Blt, Bge, Jmp, Call, Jr, Show}
use Rattle.spur_isa.specs.Ranges.{IsInstr, IsReg, IsSigned16}
use Rattle.spur_isa.specs.Word.{instr_word, low_of, parts, parts_word, third}
use Rattle.spur_isa.proofs.WordFacts.{fits}

word_below : (operation a b low : ℕ) → operation < 64 → a < 16 → b < 16 → low < 2 ^ 18 → parts_word (parts operation a b low) < 2 ^ 32
word_below operation a b low operation_is a_is b_is low_is = omega arith

low_below : (i : ℤ) → IsSigned16 i → low_of i < 2 ^ 16
low_below i h = let in_bits = fits i h in search rules

registers : (operation a b c : ℕ) → operation < 64 → IsReg a × IsReg b × IsReg c → parts_word (parts operation a b (third c)) < 2 ^ 32
registers operation a b c operation_is h = let c_is = h.2 in word_below operation a b (third c) operation_is h.0 h.1 (omega arith)

signed : (operation a b : ℕ) (i : ℤ) → operation < 64 → IsReg a × IsReg b × IsSigned16 i → parts_word (parts operation a b (low_of i)) < 2 ^ 32
signed operation a b i operation_is h = let low_is = low_below i h.2 in word_below operation a b (low_of i) operation_is h.0 h.1 (omega arith)

zero_is : IsReg 0
zero_is = omega arith

pub instr_below : (i : Instr) → IsInstr i → instr_word i < 2 ^ 32
instr_below Halt h = omega arith
instr_below Nop h = omega arith
instr_below (Li a i) h = signed 3 a 0 i (omega arith) (h.0, zero_is, h.1)
instr_below (Lih a u) h = let u_is = h.1 in word_below 4 a 0 u (omega arith) h.0 zero_is (omega arith)
instr_below (AddI a b i) h = signed 5 a b i (omega arith) h
instr_below (Add a b c) h = registers 6 a b c (omega arith) h
instr_below (Sub a b c) h = registers 7 a b c (omega arith) h
instr_below (And a b c) h = registers 8 a b c (omega arith) h
instr_below (Or a b c) h = registers 9 a b c (omega arith) h
instr_below (Xor a b c) h = registers 10 a b c (omega arith) h
instr_below (Shl a b c) h = registers 11 a b c (omega arith) h
instr_below (Shr a b c) h = registers 12 a b c (omega arith) h
instr_below (Slt a b c) h = registers 13 a b c (omega arith) h
instr_below (SltU a b c) h = registers 14 a b c (omega arith) h
instr_below (Ld a b i) h = signed 15 a b i (omega arith) h
instr_below (St a b i) h = signed 16 a b i (omega arith) h
instr_below (Tas a b i) h = signed 17 a b i (omega arith) h
instr_below (Beq a b i) h = signed 18 a b i (omega arith) h
instr_below (Bne a b i) h = signed 19 a b i (omega arith) h
instr_below (Blt a b i) h = signed 20 a b i (omega arith) h
instr_below (Bge a b i) h = signed 21 a b i (omega arith) h
instr_below (Jmp i) h = signed 22 0 0 i (omega arith) (zero_is, zero_is, h)
instr_below (Call a i) h = signed 23 a 0 i (omega arith) (h.0, zero_is, h.1)
instr_below (Jr a) h = word_below 24 a 0 0 (omega arith) h zero_is (omega arith)
instr_below (Show a) h = word_below 25 a 0 0 (omega arith) h zero_is (omega arith)
