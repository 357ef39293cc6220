-- The parts of an instruction's word give the instruction again.
use Rattle.std.proofs.Common.{◌≡◌, ℕ, ◌+◌, ◌*◌, ◌^◌, ◌/◌, ◌%◌, ◌<◌, Option, Some, refl, ap, ◌∙◌, arith, ℤ, pos, negsuc, FitsSigned, rules}
use Rattle.std.proofs.lemmas.Int.{ints, to_z-of_z}
use Rattle.std.specs.Int.{w16, cast_signed}
use Rattle.spur_isa.specs.declared.instr.Instr.{Instr}
use Rattle.spur_isa.specs.declared.instr.Instr.TheVariants.{Halt, Nop, Li, Lih, AddI, Add, Sub, And, Or, Xor, Shl, Shr, Slt, SltU, Ld, St, Tas, Beq, Bne, Blt, Bge, Jmp, Call, Jr, Show}
use Rattle.spur_isa.specs.Ranges.{IsInstr, IsReg, IsSigned16, IsUnsigned16}
use Rattle.spur_isa.specs.Word.{Parts, parts, parts_at, parts_word, instr_word, instr_at, low_of, third, third_at, unsigned_at, signed_at}

-- a number in the range of an `i16` fits it, in std's words
pub fits : (i : ℤ) → IsSigned16 i → FitsSigned w16 i
fits (pos n) h = grind (arith, ints, h.least, h.most)
fits (negsuc n) h = grind (arith, ints, h.least, h.most)

-- a word that was joined has the parts that it was joined from
parts_again : (operation a b low : ℕ) → a < 16 → b < 16 → low < 2 ^ 18 → parts_at (parts_word (parts operation a b low)) ≡ parts operation a b low
parts_again operation a b low a_below b_below low_below =
    let word = operation * 2 ^ 26 + a * 2 ^ 22 + b * 2 ^ 18 + low in
    let operation_again : word / 2 ^ 26 ≡ operation = omega arith in
    let a_again : word / 2 ^ 22 % 16 ≡ a = omega arith in
    let b_again : word / 2 ^ 18 % 16 ≡ b = omega arith in
    let low_again : word % 2 ^ 18 ≡ low = omega arith in
    cc

-- the low bits of a signed immediate are 16
low_below : (i : ℤ) → IsSigned16 i → low_of i < 2 ^ 16
low_below i h = let in_bits = fits i h in search rules

-- each part of the low bits is read as it was put there
signed_again : (i : ℤ) → IsSigned16 i → signed_at (low_of i) ≡ i
signed_again i h =
    let below = low_below i h in
    let low_again : low_of i % 2 ^ 16 ≡ low_of i = omega arith in
    ap (λ (n : ℕ). cast_signed w16 n) low_again ∙ to_z-of_z w16 i (fits i h)

unsigned_again : (u : ℕ) → IsUnsigned16 u → unsigned_at u ≡ u
unsigned_again u h = omega arith

third_again : (c : ℕ) → third_at (third c) ≡ c
third_again c = omega arith

-- a reading of the parts of a word with three registers gets them all
of_registers : (operation a b c : ℕ) → IsReg a × IsReg b × IsReg c → (make : ℕ → Instr) → (read : Parts → Option Instr) → read (parts operation a b (third c)) ≡ Some (make (third_at (third c))) → read (parts_at (parts_word (parts operation a b (third c)))) ≡ Some (make c)
of_registers operation a b c h make read is =
    ap read (parts_again operation a b (third c) h.0 h.1 (let below = h.2 in omega arith)) ∙ is ∙ ap (λ (n : ℕ). Some (make n)) (third_again c)

-- a reading of the parts of a word with two registers and a signed immediate gets them all
of_signed : (operation a b : ℕ) (i : ℤ) → IsReg a × IsReg b × IsSigned16 i → (make : ℤ → Instr) → (read : Parts → Option Instr) → read (parts operation a b (low_of i)) ≡ Some (make (signed_at (low_of i))) → read (parts_at (parts_word (parts operation a b (low_of i)))) ≡ Some (make i)
of_signed operation a b i h make read is =
    ap read (parts_again operation a b (low_of i) h.0 h.1 (let below = low_below i h.2 in omega arith)) ∙ is ∙ ap (λ (n : ℤ). Some (make n)) (signed_again i h.2)

-- a reading of the parts of a word with one register gets it
of_one : (operation a : ℕ) → IsReg a → (made : Instr) → (read : Parts → Option Instr) → read (parts operation a 0 0) ≡ Some made → read (parts_at (parts_word (parts operation a 0 0))) ≡ Some made
of_one operation a h made read is = ap read (parts_again operation a 0 0 h (omega arith) (omega arith)) ∙ is

-- register 0 is a register
zero_is : IsReg 0
zero_is = omega arith

-- an instruction is read again from the parts of its word
pub instr_again : (i : Instr) → IsInstr i → instr_at (parts_at (instr_word i)) ≡ Some i
instr_again Halt h = of_one 1 0 zero_is Halt instr_at refl
instr_again Nop h = of_one 2 0 zero_is Nop instr_at refl
instr_again (Li a i) h = of_signed 3 a 0 i (h.0, zero_is, h.1) (λ n. Li a n) instr_at refl
instr_again (Lih a u) h = ap instr_at (parts_again 4 a 0 u h.0 (omega arith) (let below = h.1 in omega arith)) ∙ ap (λ (n : ℕ). Some (Lih a n)) (unsigned_again u h.1)
instr_again (AddI a b i) h = of_signed 5 a b i h (λ n. AddI a b n) instr_at refl
instr_again (Add a b c) h = of_registers 6 a b c h (λ n. Add a b n) instr_at refl
instr_again (Sub a b c) h = of_registers 7 a b c h (λ n. Sub a b n) instr_at refl
instr_again (And a b c) h = of_registers 8 a b c h (λ n. And a b n) instr_at refl
instr_again (Or a b c) h = of_registers 9 a b c h (λ n. Or a b n) instr_at refl
instr_again (Xor a b c) h = of_registers 10 a b c h (λ n. Xor a b n) instr_at refl
instr_again (Shl a b c) h = of_registers 11 a b c h (λ n. Shl a b n) instr_at refl
instr_again (Shr a b c) h = of_registers 12 a b c h (λ n. Shr a b n) instr_at refl
instr_again (Slt a b c) h = of_registers 13 a b c h (λ n. Slt a b n) instr_at refl
instr_again (SltU a b c) h = of_registers 14 a b c h (λ n. SltU a b n) instr_at refl
instr_again (Ld a b i) h = of_signed 15 a b i h (λ n. Ld a b n) instr_at refl
instr_again (St a b i) h = of_signed 16 a b i h (λ n. St a b n) instr_at refl
instr_again (Tas a b i) h = of_signed 17 a b i h (λ n. Tas a b n) instr_at refl
instr_again (Beq a b i) h = of_signed 18 a b i h (λ n. Beq a b n) instr_at refl
instr_again (Bne a b i) h = of_signed 19 a b i h (λ n. Bne a b n) instr_at refl
instr_again (Blt a b i) h = of_signed 20 a b i h (λ n. Blt a b n) instr_at refl
instr_again (Bge a b i) h = of_signed 21 a b i h (λ n. Bge a b n) instr_at refl
instr_again (Jmp i) h = of_signed 22 0 0 i (zero_is, zero_is, h) (λ n. Jmp n) instr_at refl
instr_again (Call a i) h = of_signed 23 a 0 i (h.0, zero_is, h.1) (λ n. Call a n) instr_at refl
instr_again (Jr a) h = of_one 24 a h (Jr a) instr_at refl
instr_again (Show a) h = of_one 25 a h (Show a) instr_at refl
