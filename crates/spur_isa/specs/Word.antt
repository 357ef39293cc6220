-- The word of an instruction, and the instruction that a word may be.
use Rattle.std.specs.Prelude.{◌==◌, if◌then◌else◌, ℕ, ◌+◌, ◌*◌, ◌^◌, ◌/◌, ◌%◌, Option, Some, None, ℤ}
use Rattle.std.specs.Int.{w16, cast_unsigned, cast_signed}
use Rattle.spur_isa.specs.declared.instr.Instr.{Instr}
use Rattle.spur_isa.specs.declared.instr.Instr.TheVariants.{Halt, Nop, Li, Lih, AddI, Add, Sub, And, Or, Xor, Shl, Shr, Slt, SltU, Ld, St, Tas, Beq, Bne, Blt, Bge, Jmp, Call, Jr, Show}

-- the parts of a word: the operation's number, the registers a and b, and the 18 bits below them
pub record Parts : Type 0 where
  pub operation : ℕ
  pub a : ℕ
  pub b : ℕ
  pub low : ℕ

abbrev pub parts : ℕ → ℕ → ℕ → ℕ → Parts
parts operation a b low = record { operation = operation; a = a; b = b; low = low }

-- register c, as it stands in the low bits
abbrev pub third : ℕ → ℕ
third c = c * 2 ^ 14

-- a signed immediate, as it stands in the low bits: modulo 2 ^ 16
abbrev pub low_of : ℤ → ℕ
low_of i = cast_unsigned w16 i

-- the parts of an instruction's word; a part that it does not use is 0
abbrev pub parts_of : Instr → Parts
parts_of Halt = parts 1 0 0 0
parts_of Nop = parts 2 0 0 0
parts_of (Li a i) = parts 3 a 0 (low_of i)
parts_of (Lih a u) = parts 4 a 0 u
parts_of (AddI a b i) = parts 5 a b (low_of i)
parts_of (Add a b c) = parts 6 a b (third c)
parts_of (Sub a b c) = parts 7 a b (third c)
parts_of (And a b c) = parts 8 a b (third c)
parts_of (Or a b c) = parts 9 a b (third c)
parts_of (Xor a b c) = parts 10 a b (third c)
parts_of (Shl a b c) = parts 11 a b (third c)
parts_of (Shr a b c) = parts 12 a b (third c)
parts_of (Slt a b c) = parts 13 a b (third c)
parts_of (SltU a b c) = parts 14 a b (third c)
parts_of (Ld a b i) = parts 15 a b (low_of i)
parts_of (St a b i) = parts 16 a b (low_of i)
parts_of (Tas a b i) = parts 17 a b (low_of i)
parts_of (Beq a b i) = parts 18 a b (low_of i)
parts_of (Bne a b i) = parts 19 a b (low_of i)
parts_of (Blt a b i) = parts 20 a b (low_of i)
parts_of (Bge a b i) = parts 21 a b (low_of i)
parts_of (Jmp i) = parts 22 0 0 (low_of i)
parts_of (Call a i) = parts 23 a 0 (low_of i)
parts_of (Jr a) = parts 24 a 0 0
parts_of (Show a) = parts 25 a 0 0

-- the word that has these parts
abbrev pub parts_word : Parts → ℕ
parts_word p = p.operation * 2 ^ 26 + p.a * 2 ^ 22 + p.b * 2 ^ 18 + p.low

-- the word of an instruction
abbrev pub instr_word : Instr → ℕ
instr_word instr = parts_word (parts_of instr)

-- the parts of a word
abbrev pub parts_at : ℕ → Parts
parts_at word = parts (word / 2 ^ 26) (word / 2 ^ 22 % 16) (word / 2 ^ 18 % 16) (word % 2 ^ 18)

-- register c in the low bits
abbrev pub third_at : ℕ → ℕ
third_at low = low / 2 ^ 14

-- the immediate in the low bits, without a sign
abbrev pub unsigned_at : ℕ → ℕ
unsigned_at low = low % 2 ^ 16

-- the immediate in the low bits, with a sign
abbrev pub signed_at : ℕ → ℤ
signed_at low = cast_signed w16 (unsigned_at low)

-- the one instruction that may have these parts: that of the operation, with the fields as they
-- stand in the parts
abbrev pub instr_at : Parts → Option Instr
instr_at p =
    if p.operation == 1 then Some Halt
    else if p.operation == 2 then Some Nop
    else if p.operation == 3 then Some (Li p.a (signed_at p.low))
    else if p.operation == 4 then Some (Lih p.a (unsigned_at p.low))
    else if p.operation == 5 then Some (AddI p.a p.b (signed_at p.low))
    else if p.operation == 6 then Some (Add p.a p.b (third_at p.low))
    else if p.operation == 7 then Some (Sub p.a p.b (third_at p.low))
    else if p.operation == 8 then Some (And p.a p.b (third_at p.low))
    else if p.operation == 9 then Some (Or p.a p.b (third_at p.low))
    else if p.operation == 10 then Some (Xor p.a p.b (third_at p.low))
    else if p.operation == 11 then Some (Shl p.a p.b (third_at p.low))
    else if p.operation == 12 then Some (Shr p.a p.b (third_at p.low))
    else if p.operation == 13 then Some (Slt p.a p.b (third_at p.low))
    else if p.operation == 14 then Some (SltU p.a p.b (third_at p.low))
    else if p.operation == 15 then Some (Ld p.a p.b (signed_at p.low))
    else if p.operation == 16 then Some (St p.a p.b (signed_at p.low))
    else if p.operation == 17 then Some (Tas p.a p.b (signed_at p.low))
    else if p.operation == 18 then Some (Beq p.a p.b (signed_at p.low))
    else if p.operation == 19 then Some (Bne p.a p.b (signed_at p.low))
    else if p.operation == 20 then Some (Blt p.a p.b (signed_at p.low))
    else if p.operation == 21 then Some (Bge p.a p.b (signed_at p.low))
    else if p.operation == 22 then Some (Jmp (signed_at p.low))
    else if p.operation == 23 then Some (Call p.a (signed_at p.low))
    else if p.operation == 24 then Some (Jr p.a)
    else if p.operation == 25 then Some (Show p.a)
    else None
