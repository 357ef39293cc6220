-- For each field of each statement there is a text that fits it, where the board has a label.
use Rattle.std.proofs.Common.{◌≡◌, refl, sym, subst, ℕ, Bool, true, false, ◌==◌, cond, List, [], ◌∷◌, arith, pos, negsuc, ◌≤ℤ◌}
use Rattle.std.specs.Prelude.{codes, ⊤}
use Rattle.std.specs.List.{AllByRecursion, Contains, list_all}
use Rattle.std.specs.Str.{bytes_eq}
use Rattle.std.proofs.lemmas.Bool.{eqb-true}
use Rattle.std.proofs.lemmas.Int.{ints}
use Rattle.spur_addr.specs.declared.page_entry.Protection.TheVariants.{ReadWrite}
use Rattle.spur_asm.specs.Bytes.{is_mark, is_name_byte, is_name_start, is_number_byte, is_number_start}
use Rattle.spur_asm.specs.Pieces.{goes_on}
use Rattle.spur_asm.specs.Shapes.{Aligned, Field, Fits, Protected, Ranged, Register, Target, ThisMark, access_fields, branch_fields, operands_of, shape_of, three_fields}
use Rattle.spur_asm.specs.Spelling.{IsNumber, IsText}
use Rattle.spur_asm.specs.Token.{Name}
use Rattle.spur_asm.specs.declared.statement.Operation.{Operation}
use Rattle.spur_asm.specs.declared.statement.Operation.TheVariants as operations
use Rattle.spur_asm.specs.declared.statement.Sort.{Sort}
use Rattle.spur_asm.specs.declared.statement.Sort.TheVariants.{Page, Word, Board, Seg, Code}
use Rattle.spur_asm.proofs.ByteLemmas.{mark_no_blank, mark_no_semicolon, name_start_no_blank}
use Rattle.spur_asm.proofs.LinesMade.{IsWhole}
use Rattle.spur_asm.proofs.NumberLemmas.{number_is}
use Rattle.spur_asm.proofs.TokenLemmas.{text_plain}

-- a text for the field; the name is a label's
abbrev pub text_for : List ℕ → Field → List ℕ
text_for name (ThisMark mark) = mark ∷ []
text_for name Register = codes "r0"
text_for name Protected = codes "rw"
text_for name Target = name
text_for name (Ranged low high) = codes "0"
text_for name (Aligned high) = codes "0"

-- what makes that text fit
abbrev pub CanBe : List (List ℕ) → List ℕ → Field → Type 0
CanBe labels name (ThisMark mark) = (is_mark mark ≡ true) × ((mark == 58) ≡ false)
CanBe labels name Target = IsText (Name name) name × Contains labels name
CanBe labels name (Ranged low high) = (low ≤ℤ pos 0) × (pos 0 ≤ℤ high)
CanBe labels name other = ⊤

zero_is_number : IsNumber (codes "0") (pos 0)
zero_is_number = number_is (codes "0") (pos 0) refl

pub text_fits : (labels : List (List ℕ)) (name : List ℕ) (field : Field) → CanBe labels name field → Fits labels field (text_for name field)
text_fits labels name (ThisMark mark) can = refl
text_fits labels name Register can = (0, omega arith, refl)
text_fits labels name Protected can = (ReadWrite, refl)
text_fits labels name Target can = can
text_fits labels name (Ranged low high) can = record { value = pos 0; writes = zero_is_number; least = can.0; most = can.1 }
text_fits labels name (Aligned high) can = record { value = 0; writes = zero_is_number; most = omega arith; aligned = refl }

name_goes_on : (first : ℕ) (more : List ℕ) → is_name_start first ≡ true → list_all is_name_byte more ≡ true → list_all (goes_on first) more ≡ true
name_goes_on first more starts all = by (is_name_start first) starts
  where
    by : (s : Bool) → s ≡ true → list_all (λ c. cond s (is_name_byte c) (cond (is_number_start first) (is_number_byte c) false)) more ≡ true
    by true e = all
    by false e = absurd cc

pub text_is_whole : (labels : List (List ℕ)) (name : List ℕ) (field : Field) → CanBe labels name field → IsWhole (text_for name field)
text_is_whole labels name (ThisMark mark) can = record {
  is_piece = record { first = mark; more = []; is = refl; solid = mark_no_blank mark can.0; whole = refl; ends = tt };
  plain = rw (mark_no_semicolon mark can.0) refl;
}
text_is_whole labels name Register can = record { is_piece = record { first = 114; more = 48 ∷ []; is = refl; solid = refl; whole = refl; ends = tt }; plain = refl }
text_is_whole labels name Protected can = record { is_piece = record { first = 114; more = 119 ∷ []; is = refl; solid = refl; whole = refl; ends = tt }; plain = refl }
text_is_whole labels name Target can =
    let n = can.0.1 in
    record { is_piece = record { first = n.first; more = n.more; is = n.is; solid = name_start_no_blank n.first n.starts; whole = name_goes_on n.first n.more n.starts n.goes_on; ends = tt }; plain = text_plain (Name name) name can.0 }
text_is_whole labels name (Ranged low high) can = record { is_piece = record { first = 48; more = []; is = refl; solid = refl; whole = refl; ends = tt }; plain = refl }
text_is_whole labels name (Aligned high) can = record { is_piece = record { first = 48; more = []; is = refl; solid = refl; whole = refl; ends = tt }; plain = refl }

name_no_colon : (first : ℕ) (more : List ℕ) → is_name_start first ≡ true → (t : Bool) → (first == 58) ≡ t → bytes_eq (first ∷ more) (codes ":") ≡ false
name_no_colon first more starts true e = absurd (let same : first ≡ 58 = eqb-true first 58 e in let bad : is_name_start 58 ≡ true = subst (λ (b : ℕ). is_name_start b ≡ true) same starts in cc)
name_no_colon first more starts false e = rw e refl

-- no such text makes a label of the piece before it
pub text_is_no_colon : (labels : List (List ℕ)) (name : List ℕ) (field : Field) → CanBe labels name field → bytes_eq (text_for name field) (codes ":") ≡ false
text_is_no_colon labels name (ThisMark mark) can = rw can.1 refl
text_is_no_colon labels name Register can = refl
text_is_no_colon labels name Protected can = refl
text_is_no_colon labels name Target can = (let n = can.0.1 in subst (λ (t : List ℕ). bytes_eq t (codes ":") ≡ false) (sym n.is) (name_no_colon n.first n.more n.starts (n.first == 58) refl))
text_is_no_colon labels name (Ranged low high) can = refl
text_is_no_colon labels name (Aligned high) can = refl

-- ---- all fields

abbrev pub AllCan : List (List ℕ) → List ℕ → List Field → Type 0
AllCan labels name fields = AllByRecursion (CanBe labels name) fields

-- whether the statement may want a label
abbrev pub WantsLabel : Sort → Type 0
WantsLabel (Code operation) = ⊤
WantsLabel other = ⊥

all_three : (labels : List (List ℕ)) (name : List ℕ) → AllCan labels name three_fields
all_three labels name = (tt, ((refl, refl), (tt, ((refl, refl), (tt, tt)))))

signed : (negsuc 32767 ≤ℤ pos 0) × (pos 0 ≤ℤ pos 32767)
signed = (omega (arith, ints), omega (arith, ints))

natural : (high : ℕ) → (pos 0 ≤ℤ pos 0) × (pos 0 ≤ℤ pos high)
natural high = (omega (arith, ints), omega (arith, ints))

all_access : (labels : List (List ℕ)) (name : List ℕ) → AllCan labels name access_fields
all_access labels name = (tt, ((refl, refl), (signed, ((refl, refl), (tt, ((refl, refl), tt))))))

module _ (labels : List (List ℕ)) (name : List ℕ) (label : IsText (Name name) name × Contains labels name) where
  all_branch : AllCan labels name branch_fields
  all_branch = (tt, ((refl, refl), (tt, ((refl, refl), (label, tt)))))

  all_operands : (operation : Operation) → AllCan labels name (operands_of operation)
  all_operands operations.Halt = tt
  all_operands operations.Nop = tt
  all_operands operations.Li = (tt, ((refl, refl), (signed, tt)))
  all_operands operations.Lih = (tt, ((refl, refl), (natural 65535, tt)))
  all_operands operations.AddI = (tt, ((refl, refl), (tt, ((refl, refl), (signed, tt)))))
  all_operands operations.Add = all_three labels name
  all_operands operations.Sub = all_three labels name
  all_operands operations.And = all_three labels name
  all_operands operations.Or = all_three labels name
  all_operands operations.Xor = all_three labels name
  all_operands operations.Shl = all_three labels name
  all_operands operations.Shr = all_three labels name
  all_operands operations.Slt = all_three labels name
  all_operands operations.SltU = all_three labels name
  all_operands operations.Ld = all_access labels name
  all_operands operations.St = all_access labels name
  all_operands operations.Tas = all_access labels name
  all_operands operations.Beq = all_branch
  all_operands operations.Bne = all_branch
  all_operands operations.Blt = all_branch
  all_operands operations.Bge = all_branch
  all_operands operations.Jmp = (label, tt)
  all_operands operations.Call = (tt, ((refl, refl), (label, tt)))
  all_operands operations.Jr = (tt, tt)
  all_operands operations.Show = (tt, tt)

pub shape_can : (labels : List (List ℕ)) (name : List ℕ) (sort : Sort) → (WantsLabel sort → IsText (Name name) name × Contains labels name) → AllCan labels name (shape_of sort)
shape_can labels name Page label = (natural 255, (natural 262143, (tt, tt)))
shape_can labels name Word label = (natural 255, (tt, ((omega (arith, ints), omega (arith, ints)), tt)))
shape_can labels name Board label = tt
shape_can labels name Seg label = (natural 255, (natural 255, (natural 255, (natural 255, tt))))
shape_can labels name (Code operation) label = all_operands labels name (label tt) operation
