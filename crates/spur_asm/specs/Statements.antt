-- How a statement is read behind its name. An operand that is a label is read by the immediate that leads to it.
use Rattle.std.specs.Prelude.{ℕ, ◌+◌, ◌*◌, ◌^◌, List, [], ◌∷◌, Option, Result, Ok, ℤ, pos, negsuc}
use Rattle.spur_isa.specs.declared.instr.Instr.{Instr}
use Rattle.spur_isa.specs.declared.instr.Instr.TheVariants.{Halt, Nop, Li, Lih, AddI, Add, Sub, And, Or, Xor, Shl, Shr, Slt, SltU, Ld, St, Tas, Beq, Bne, Blt, Bge, Jmp, Call, Jr, Show}
use Rattle.spur_object.specs.declared.unit.PageText.{PageText}
use Rattle.spur_object.specs.declared.unit.WordText.{WordText}
use Rattle.spur_asm.specs.Section.{low_word}
use Rattle.spur_asm.specs.Lexeme.{Lexeme}
use Rattle.spur_asm.specs.Fields.{◌>>=◌, mark_at, register_at, protection_at, number_at, immediate_at, natural_at, offset_at, label_at, end_at}
use Rattle.spur_asm.specs.declared.fault.Misfit.{Misfit}
use Rattle.spur_asm.specs.declared.statement.Operation.{Operation}
use Rattle.spur_asm.specs.declared.statement.Operation.TheVariants as operations
use Rattle.spur_asm.specs.declared.statement.Sort.{Sort}
use Rattle.spur_asm.specs.declared.statement.Sort.TheVariants as sorts
use Rattle.spur_asm.specs.declared.statement.Statement.{Statement}
use Rattle.spur_asm.specs.declared.statement.Statement.TheVariants as statements

-- ---- the directives

-- `S P W`
unfoldable pub page_text_at : List Lexeme → Result PageText Misfit
page_text_at l0 = do
  s ← natural_at 255 l0
  p ← natural_at 262143 s.1
  w ← protection_at p.1
  end_at (record { page = s.0 * 2 ^ 18 + p.0; prot = w.0 }) w.1

-- `S O V`
unfoldable pub word_text_at : List Lexeme → Result WordText Misfit
word_text_at l0 = do
  s ← natural_at 255 l0
  o ← offset_at s.1
  v ← number_at (negsuc 2147483647) (pos 4294967295) o.1
  end_at (record { at = s.0 * 2 ^ 30 + o.0; value = low_word v.0 }) v.1

-- `A B C D`
unfoldable pub seg_at : List Lexeme → Result (List ℕ) Misfit
seg_at l0 = do
  a ← natural_at 255 l0
  b ← natural_at 255 a.1
  c ← natural_at 255 b.1
  d ← natural_at 255 c.1
  end_at (a.0 ∷ b.0 ∷ c.0 ∷ d.0 ∷ []) d.1

-- ---- the operands of instructions

-- `a`
unfoldable pub one_at : List Lexeme → Result ℕ Misfit
one_at l0 = do
  a ← register_at l0
  end_at a.0 a.1

-- `a, i`
unfoldable pub li_at : List Lexeme → Result (ℕ × ℤ) Misfit
li_at l0 = do
  a ← register_at l0
  m ← mark_at 44 a.1
  i ← immediate_at m.1
  end_at (a.0, i.0) i.1

-- `a, u`
unfoldable pub lih_at : List Lexeme → Result (ℕ × ℕ) Misfit
lih_at l0 = do
  a ← register_at l0
  m ← mark_at 44 a.1
  u ← natural_at 65535 m.1
  end_at (a.0, u.0) u.1

-- `a, b, i`
unfoldable pub addi_at : List Lexeme → Result (ℕ × ℕ × ℤ) Misfit
addi_at l0 = do
  a ← register_at l0
  m ← mark_at 44 a.1
  b ← register_at m.1
  n ← mark_at 44 b.1
  i ← immediate_at n.1
  end_at (a.0, b.0, i.0) i.1

-- `a, b, c`
unfoldable pub three_at : List Lexeme → Result (ℕ × ℕ × ℕ) Misfit
three_at l0 = do
  a ← register_at l0
  m ← mark_at 44 a.1
  b ← register_at m.1
  n ← mark_at 44 b.1
  c ← register_at n.1
  end_at (a.0, b.0, c.0) c.1

-- `a, i(b)`
unfoldable pub access_at : List Lexeme → Result (ℕ × ℕ × ℤ) Misfit
access_at l0 = do
  a ← register_at l0
  m ← mark_at 44 a.1
  i ← immediate_at m.1
  n ← mark_at 40 i.1
  b ← register_at n.1
  o ← mark_at 41 b.1
  end_at (a.0, b.0, i.0) o.1

-- `a, b, label`
unfoldable pub branch_at : (List ℕ → Option ℤ) → List Lexeme → Result (ℕ × ℕ × ℤ) Misfit
branch_at immediate_of l0 = do
  a ← register_at l0
  m ← mark_at 44 a.1
  b ← register_at m.1
  n ← mark_at 44 b.1
  i ← label_at immediate_of n.1
  end_at (a.0, b.0, i.0) i.1

-- `label`
unfoldable pub jmp_at : (List ℕ → Option ℤ) → List Lexeme → Result ℤ Misfit
jmp_at immediate_of l0 = do
  i ← label_at immediate_of l0
  end_at i.0 i.1

-- `a, label`
unfoldable pub call_at : (List ℕ → Option ℤ) → List Lexeme → Result (ℕ × ℤ) Misfit
call_at immediate_of l0 = do
  a ← register_at l0
  m ← mark_at 44 a.1
  i ← label_at immediate_of m.1
  end_at (a.0, i.0) i.1

-- ---- the statements

abbrev pub three : (ℕ → ℕ → ℕ → Instr) → List Lexeme → Result Instr Misfit
three instr l0 = do
  f ← three_at l0
  Ok (instr f.0 f.1 f.2)

abbrev pub access : (ℕ → ℕ → ℤ → Instr) → List Lexeme → Result Instr Misfit
access instr l0 = do
  f ← access_at l0
  Ok (instr f.0 f.1 f.2)

abbrev pub branch : (ℕ → ℕ → ℤ → Instr) → (List ℕ → Option ℤ) → List Lexeme → Result Instr Misfit
branch instr immediate_of l0 = do
  f ← branch_at immediate_of l0
  Ok (instr f.0 f.1 f.2)

abbrev pub one : (ℕ → Instr) → List Lexeme → Result Instr Misfit
one instr l0 = do
  a ← one_at l0
  Ok (instr a)

-- the instruction of an operation, by its operands
abbrev pub operation_at : (List ℕ → Option ℤ) → Operation → List Lexeme → Result Instr Misfit
operation_at immediate_of operations.Halt l0 = end_at Halt l0
operation_at immediate_of operations.Nop l0 = end_at Nop l0
operation_at immediate_of operations.Li l0 = do
  f ← li_at l0
  Ok (Li f.0 f.1)
operation_at immediate_of operations.Lih l0 = do
  f ← lih_at l0
  Ok (Lih f.0 f.1)
operation_at immediate_of operations.AddI l0 = do
  f ← addi_at l0
  Ok (AddI f.0 f.1 f.2)
operation_at immediate_of operations.Add l0 = three (λ a b c. Add a b c) l0
operation_at immediate_of operations.Sub l0 = three (λ a b c. Sub a b c) l0
operation_at immediate_of operations.And l0 = three (λ a b c. And a b c) l0
operation_at immediate_of operations.Or l0 = three (λ a b c. Or a b c) l0
operation_at immediate_of operations.Xor l0 = three (λ a b c. Xor a b c) l0
operation_at immediate_of operations.Shl l0 = three (λ a b c. Shl a b c) l0
operation_at immediate_of operations.Shr l0 = three (λ a b c. Shr a b c) l0
operation_at immediate_of operations.Slt l0 = three (λ a b c. Slt a b c) l0
operation_at immediate_of operations.SltU l0 = three (λ a b c. SltU a b c) l0
operation_at immediate_of operations.Ld l0 = access (λ a b i. Ld a b i) l0
operation_at immediate_of operations.St l0 = access (λ a b i. St a b i) l0
operation_at immediate_of operations.Tas l0 = access (λ a b i. Tas a b i) l0
operation_at immediate_of operations.Beq l0 = branch (λ a b i. Beq a b i) immediate_of l0
operation_at immediate_of operations.Bne l0 = branch (λ a b i. Bne a b i) immediate_of l0
operation_at immediate_of operations.Blt l0 = branch (λ a b i. Blt a b i) immediate_of l0
operation_at immediate_of operations.Bge l0 = branch (λ a b i. Bge a b i) immediate_of l0
operation_at immediate_of operations.Jmp l0 = do
  i ← jmp_at immediate_of l0
  Ok (Jmp i)
operation_at immediate_of operations.Call l0 = do
  f ← call_at immediate_of l0
  Ok (Call f.0 f.1)
operation_at immediate_of operations.Jr l0 = one (λ a. Jr a) l0
operation_at immediate_of operations.Show l0 = one (λ a. Show a) l0

-- the statement of a sort, by its fields
abbrev pub fields_at : (List ℕ → Option ℤ) → Sort → List Lexeme → Result Statement Misfit
fields_at immediate_of sorts.Page l0 = do
  p ← page_text_at l0
  Ok (statements.Page p)
fields_at immediate_of sorts.Word l0 = do
  w ← word_text_at l0
  Ok (statements.Word w)
fields_at immediate_of sorts.Board l0 = end_at statements.Board l0
fields_at immediate_of sorts.Seg l0 = do
  s ← seg_at l0
  Ok (statements.Seg s)
fields_at immediate_of (sorts.Code operation) l0 = do
  i ← operation_at immediate_of operation l0
  Ok (statements.Code i)
