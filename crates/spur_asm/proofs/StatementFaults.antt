-- A statement is refused exactly where its pieces have a fault, by that fault.
use Rattle.std.proofs.Common.{ℕ, ◌+◌, ◌*◌, ◌^◌, List, [], ◌∷◌, Option, refl, ℤ, pos, negsuc}
use Rattle.spur_isa.specs.declared.instr.Instr.{Instr}
use Rattle.spur_isa.specs.declared.instr.Instr.TheVariants as instrs
use Rattle.spur_object.specs.declared.unit.PageText.{PageText}
use Rattle.spur_object.specs.declared.unit.WordText.{WordText}
use Rattle.spur_asm.specs.Fields.{mark_in, register_in, protection_in, number_in, natural_in, offset_in, label_in}
use Rattle.spur_asm.specs.Section.{low_word}
use Rattle.spur_asm.specs.Shapes.{Register, Protected, Target, Aligned, Ranged, comma_mark, opening_mark, closing_mark, up_to, signed16, three_fields, access_fields, branch_fields, operands_of, shape_of}
use Rattle.spur_asm.specs.Statements.{page_text_at, word_text_at, seg_at, one_at, li_at, lih_at, addi_at, three_at, access_at, branch_at, jmp_at, call_at, three, access, branch, one, operation_at, fields_at}
use Rattle.spur_asm.specs.declared.statement.Operation.{Operation}
use Rattle.spur_asm.specs.declared.statement.Operation.TheVariants as operations
use Rattle.spur_asm.specs.declared.statement.Sort.{Sort}
use Rattle.spur_asm.specs.declared.statement.Sort.TheVariants as sorts
use Rattle.spur_asm.specs.declared.statement.Statement.TheVariants as statements
use Rattle.spur_asm.proofs.FieldKinds.{AreTargets, mark_matches, register_matches, protection_matches, ranged_matches, natural_matches, aligned_matches, label_matches}
use Rattle.spur_asm.proofs.Judging.{Judges, judge_field, judge_end, judge_made}

-- ---- `a, i`

pub li_judged : (labels : List (List ℕ)) → Judges labels (operands_of operations.Li) li_at
unfolding li_at
li_judged labels =
    judge_field labels Register _ register_in _ (register_matches labels) (λ a.
    judge_field labels comma_mark _ (mark_in 44) _ (mark_matches labels 44 refl) (λ m.
    judge_field labels signed16 _ (number_in (negsuc 32767) (pos 32767)) _ (ranged_matches labels (negsuc 32767) (pos 32767)) (λ i.
    judge_end labels (a, i))))

-- ---- `S O V`

pub word_judged : (labels : List (List ℕ)) → Judges labels (shape_of sorts.Word) word_text_at
unfolding word_text_at
word_judged labels =
    judge_field labels (up_to 255) _ (natural_in 255) _ (natural_matches labels 255) (λ s.
    judge_field labels (Aligned 1073741820) _ (offset_in 1073741820) _ (aligned_matches labels 1073741820) (λ o.
    judge_field labels (Ranged (negsuc 2147483647) (pos 4294967295)) _ (number_in (negsuc 2147483647) (pos 4294967295)) _ (ranged_matches labels (negsuc 2147483647) (pos 4294967295)) (λ v.
    judge_end labels (record { at = s * 2 ^ 30 + o; value = low_word v }))))

-- ---- `S P W`

pub page_judged : (labels : List (List ℕ)) → Judges labels (shape_of sorts.Page) page_text_at
unfolding page_text_at
page_judged labels =
    judge_field labels (up_to 255) _ (natural_in 255) _ (natural_matches labels 255) (λ s.
    judge_field labels (up_to 262143) _ (natural_in 262143) _ (natural_matches labels 262143) (λ p.
    judge_field labels Protected _ protection_in _ (protection_matches labels) (λ w.
    judge_end labels (record { page = s * 2 ^ 18 + p; prot = w }))))

pub seg_judged : (labels : List (List ℕ)) → Judges labels (shape_of sorts.Seg) seg_at
unfolding seg_at
seg_judged labels =
    judge_field labels (up_to 255) _ (natural_in 255) _ (natural_matches labels 255) (λ a.
    judge_field labels (up_to 255) _ (natural_in 255) _ (natural_matches labels 255) (λ b.
    judge_field labels (up_to 255) _ (natural_in 255) _ (natural_matches labels 255) (λ c.
    judge_field labels (up_to 255) _ (natural_in 255) _ (natural_matches labels 255) (λ d.
    judge_end labels (a ∷ b ∷ c ∷ d ∷ [])))))

-- ---- operands

pub one_judged : (labels : List (List ℕ)) → Judges labels (Register ∷ []) one_at
unfolding one_at
one_judged labels = judge_field labels Register _ register_in _ (register_matches labels) (λ a. judge_end labels a)

pub lih_judged : (labels : List (List ℕ)) → Judges labels (operands_of operations.Lih) lih_at
unfolding lih_at
lih_judged labels =
    judge_field labels Register _ register_in _ (register_matches labels) (λ a.
    judge_field labels comma_mark _ (mark_in 44) _ (mark_matches labels 44 refl) (λ m.
    judge_field labels (up_to 65535) _ (natural_in 65535) _ (natural_matches labels 65535) (λ u.
    judge_end labels (a, u))))

pub addi_judged : (labels : List (List ℕ)) → Judges labels (operands_of operations.AddI) addi_at
unfolding addi_at
addi_judged labels =
    judge_field labels Register _ register_in _ (register_matches labels) (λ a.
    judge_field labels comma_mark _ (mark_in 44) _ (mark_matches labels 44 refl) (λ m.
    judge_field labels Register _ register_in _ (register_matches labels) (λ b.
    judge_field labels comma_mark _ (mark_in 44) _ (mark_matches labels 44 refl) (λ n.
    judge_field labels signed16 _ (number_in (negsuc 32767) (pos 32767)) _ (ranged_matches labels (negsuc 32767) (pos 32767)) (λ i.
    judge_end labels (a, b, i))))))

pub three_judged : (labels : List (List ℕ)) → Judges labels three_fields three_at
unfolding three_at
three_judged labels =
    judge_field labels Register _ register_in _ (register_matches labels) (λ a.
    judge_field labels comma_mark _ (mark_in 44) _ (mark_matches labels 44 refl) (λ m.
    judge_field labels Register _ register_in _ (register_matches labels) (λ b.
    judge_field labels comma_mark _ (mark_in 44) _ (mark_matches labels 44 refl) (λ n.
    judge_field labels Register _ register_in _ (register_matches labels) (λ c.
    judge_end labels (a, b, c))))))

pub access_judged : (labels : List (List ℕ)) → Judges labels access_fields access_at
unfolding access_at
access_judged labels =
    judge_field labels Register _ register_in _ (register_matches labels) (λ a.
    judge_field labels comma_mark _ (mark_in 44) _ (mark_matches labels 44 refl) (λ m.
    judge_field labels signed16 _ (number_in (negsuc 32767) (pos 32767)) _ (ranged_matches labels (negsuc 32767) (pos 32767)) (λ i.
    judge_field labels opening_mark _ (mark_in 40) _ (mark_matches labels 40 refl) (λ n.
    judge_field labels Register _ register_in _ (register_matches labels) (λ b.
    judge_field labels closing_mark _ (mark_in 41) _ (mark_matches labels 41 refl) (λ o.
    judge_end labels (a, b, i)))))))

pub branch_judged : (labels : List (List ℕ)) (immediate : List ℕ → Option ℤ) → AreTargets labels immediate → Judges labels branch_fields (branch_at immediate)
unfolding branch_at
branch_judged labels immediate are =
    judge_field labels Register _ register_in _ (register_matches labels) (λ a.
    judge_field labels comma_mark _ (mark_in 44) _ (mark_matches labels 44 refl) (λ m.
    judge_field labels Register _ register_in _ (register_matches labels) (λ b.
    judge_field labels comma_mark _ (mark_in 44) _ (mark_matches labels 44 refl) (λ n.
    judge_field labels Target _ (label_in immediate) _ (label_matches labels immediate are) (λ i.
    judge_end labels (a, b, i))))))

pub jmp_judged : (labels : List (List ℕ)) (immediate : List ℕ → Option ℤ) → AreTargets labels immediate → Judges labels (operands_of operations.Jmp) (jmp_at immediate)
unfolding jmp_at
jmp_judged labels immediate are = judge_field labels Target _ (label_in immediate) _ (label_matches labels immediate are) (λ i. judge_end labels i)

pub call_judged : (labels : List (List ℕ)) (immediate : List ℕ → Option ℤ) → AreTargets labels immediate → Judges labels (operands_of operations.Call) (call_at immediate)
unfolding call_at
call_judged labels immediate are =
    judge_field labels Register _ register_in _ (register_matches labels) (λ a.
    judge_field labels comma_mark _ (mark_in 44) _ (mark_matches labels 44 refl) (λ m.
    judge_field labels Target _ (label_in immediate) _ (label_matches labels immediate are) (λ i.
    judge_end labels (a, i))))

-- ---- all statements

three_all : (labels : List (List ℕ)) (instr : ℕ → ℕ → ℕ → Instr) → Judges labels three_fields (three instr)
three_all labels instr = judge_made labels three_fields three_at (λ (f : ℕ × ℕ × ℕ). instr f.0 f.1 f.2) (three_judged labels)

access_all : (labels : List (List ℕ)) (instr : ℕ → ℕ → ℤ → Instr) → Judges labels access_fields (access instr)
access_all labels instr = judge_made labels access_fields access_at (λ (f : ℕ × ℕ × ℤ). instr f.0 f.1 f.2) (access_judged labels)

branch_all : (labels : List (List ℕ)) (instr : ℕ → ℕ → ℤ → Instr) (immediate : List ℕ → Option ℤ) → AreTargets labels immediate → Judges labels branch_fields (branch instr immediate)
branch_all labels instr immediate are = judge_made labels branch_fields (branch_at immediate) (λ (f : ℕ × ℕ × ℤ). instr f.0 f.1 f.2) (branch_judged labels immediate are)

one_all : (labels : List (List ℕ)) (instr : ℕ → Instr) → Judges labels (Register ∷ []) (one instr)
one_all labels instr = judge_made labels (Register ∷ []) one_at instr (one_judged labels)

instr_judged : (labels : List (List ℕ)) (immediate : List ℕ → Option ℤ) → AreTargets labels immediate → (operation : Operation) → Judges labels (operands_of operation) (operation_at immediate operation)
instr_judged labels immediate are operations.Halt = judge_end labels instrs.Halt
instr_judged labels immediate are operations.Nop = judge_end labels instrs.Nop
instr_judged labels immediate are operations.Li = judge_made labels _ li_at (λ (f : ℕ × ℤ). instrs.Li f.0 f.1) (li_judged labels)
instr_judged labels immediate are operations.Lih = judge_made labels _ lih_at (λ (f : ℕ × ℕ). instrs.Lih f.0 f.1) (lih_judged labels)
instr_judged labels immediate are operations.AddI = judge_made labels _ addi_at (λ (f : ℕ × ℕ × ℤ). instrs.AddI f.0 f.1 f.2) (addi_judged labels)
instr_judged labels immediate are operations.Add = three_all labels (λ a b c. instrs.Add a b c)
instr_judged labels immediate are operations.Sub = three_all labels (λ a b c. instrs.Sub a b c)
instr_judged labels immediate are operations.And = three_all labels (λ a b c. instrs.And a b c)
instr_judged labels immediate are operations.Or = three_all labels (λ a b c. instrs.Or a b c)
instr_judged labels immediate are operations.Xor = three_all labels (λ a b c. instrs.Xor a b c)
instr_judged labels immediate are operations.Shl = three_all labels (λ a b c. instrs.Shl a b c)
instr_judged labels immediate are operations.Shr = three_all labels (λ a b c. instrs.Shr a b c)
instr_judged labels immediate are operations.Slt = three_all labels (λ a b c. instrs.Slt a b c)
instr_judged labels immediate are operations.SltU = three_all labels (λ a b c. instrs.SltU a b c)
instr_judged labels immediate are operations.Ld = access_all labels (λ a b i. instrs.Ld a b i)
instr_judged labels immediate are operations.St = access_all labels (λ a b i. instrs.St a b i)
instr_judged labels immediate are operations.Tas = access_all labels (λ a b i. instrs.Tas a b i)
instr_judged labels immediate are operations.Beq = branch_all labels (λ a b i. instrs.Beq a b i) immediate are
instr_judged labels immediate are operations.Bne = branch_all labels (λ a b i. instrs.Bne a b i) immediate are
instr_judged labels immediate are operations.Blt = branch_all labels (λ a b i. instrs.Blt a b i) immediate are
instr_judged labels immediate are operations.Bge = branch_all labels (λ a b i. instrs.Bge a b i) immediate are
instr_judged labels immediate are operations.Jmp = judge_made labels _ (jmp_at immediate) (λ (i : ℤ). instrs.Jmp i) (jmp_judged labels immediate are)
instr_judged labels immediate are operations.Call = judge_made labels _ (call_at immediate) (λ (f : ℕ × ℤ). instrs.Call f.0 f.1) (call_judged labels immediate are)
instr_judged labels immediate are operations.Jr = one_all labels (λ a. instrs.Jr a)
instr_judged labels immediate are operations.Show = one_all labels (λ a. instrs.Show a)

-- what stands behind a statement's name is refused exactly where its pieces have a fault, by that fault and at its place
pub fields_judged : (labels : List (List ℕ)) (immediate : List ℕ → Option ℤ) → AreTargets labels immediate → (sort : Sort) → Judges labels (shape_of sort) (fields_at immediate sort)
fields_judged labels immediate are sorts.Page = judge_made labels _ page_text_at (λ (p : PageText). statements.Page p) (page_judged labels)
fields_judged labels immediate are sorts.Word = judge_made labels _ word_text_at (λ (w : WordText). statements.Word w) (word_judged labels)
fields_judged labels immediate are sorts.Board = judge_end labels statements.Board
fields_judged labels immediate are sorts.Seg = judge_made labels _ seg_at (λ (s : List ℕ). statements.Seg s) (seg_judged labels)
fields_judged labels immediate are (sorts.Code operation) = judge_made labels _ (operation_at immediate operation) (λ (i : Instr). statements.Code i) (instr_judged labels immediate are operation)
