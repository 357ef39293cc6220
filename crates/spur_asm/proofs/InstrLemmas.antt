-- The instructions, both ways: the operands of each operation are read where they are spelled, and nowhere else.
use Rattle.std.proofs.Common.{◌≡◌, ℕ, List, [], drop, Option, Some, None, Ok, refl, subst, ℤ, IfSome}
use Rattle.spur_isa.specs.Ranges.{IsInstr}
use Rattle.spur_isa.specs.declared.instr.Instr.{Instr}
use Rattle.spur_isa.specs.declared.instr.Instr.TheVariants.{Halt, Nop, Li, Lih, AddI, Add, Sub, And, Or, Xor, Shl, Shr, Slt, SltU, Ld, St, Tas, Beq, Bne, Blt, Bge, Jmp, Call, Jr, Show}
use Rattle.spur_asm.specs.Item.{instr_tokens}
use Rattle.spur_asm.specs.Section.{jump_of}
use Rattle.spur_asm.specs.Lexeme.{Lexeme}
use Rattle.spur_asm.specs.Fields.{end_at}
use Rattle.spur_asm.specs.Statements.{one_at, li_at, lih_at, addi_at, three_at, access_at, branch_at, jmp_at, call_at, operation_at}
use Rattle.spur_asm.specs.declared.statement.Operation.{Operation}
use Rattle.spur_asm.specs.declared.statement.Operation.TheVariants as operations
use Rattle.spur_asm.proofs.Levels.{AreTokens, AllFit, operation_of}
use Rattle.spur_asm.proofs.ValueLemmas.{made_then}
use Rattle.spur_asm.proofs.FieldLemmas.{end_read, end_is}
use Rattle.spur_asm.proofs.OperandLemmas.{one_read, one_is, li_read, li_is, lih_read, lih_is, addi_read, addi_is, three_read, three_is, access_read, access_is, branch_read, branch_is, jmp_read, jmp_is, call_read, call_is}

-- an instruction that goes to a label has the immediate that leads to it
abbrev pub Goes : (List ℕ → Option ℤ) → Instr → List ℕ → Type 0
Goes immediate instr label = IfSome (jump_of instr) (λ i. immediate label ≡ Some i)

-- ---- what is spelled is read

pub instr_read : (immediate : List ℕ → Option ℤ) (l0 : List Lexeme) (instr : Instr) (label : List ℕ) → IsInstr instr → Goes immediate instr label
    → AreTokens l0 (drop 1 (instr_tokens instr label)) → operation_at immediate (operation_of instr) l0 ≡ Ok instr
instr_read immediate l0 Halt label range goes t = end_read Halt l0 t
instr_read immediate l0 Nop label range goes t = end_read Nop l0 t
instr_read immediate l0 (Li a i) label range goes t = rw (li_read l0 (a, i) (range, t)) refl
instr_read immediate l0 (Lih a u) label range goes t = rw (lih_read l0 (a, u) (range, t)) refl
instr_read immediate l0 (AddI a b i) label range goes t = rw (addi_read l0 (a, b, i) (range, t)) refl
instr_read immediate l0 (Add a b c) label range goes t = rw (three_read l0 (a, b, c) (range, t)) refl
instr_read immediate l0 (Sub a b c) label range goes t = rw (three_read l0 (a, b, c) (range, t)) refl
instr_read immediate l0 (And a b c) label range goes t = rw (three_read l0 (a, b, c) (range, t)) refl
instr_read immediate l0 (Or a b c) label range goes t = rw (three_read l0 (a, b, c) (range, t)) refl
instr_read immediate l0 (Xor a b c) label range goes t = rw (three_read l0 (a, b, c) (range, t)) refl
instr_read immediate l0 (Shl a b c) label range goes t = rw (three_read l0 (a, b, c) (range, t)) refl
instr_read immediate l0 (Shr a b c) label range goes t = rw (three_read l0 (a, b, c) (range, t)) refl
instr_read immediate l0 (Slt a b c) label range goes t = rw (three_read l0 (a, b, c) (range, t)) refl
instr_read immediate l0 (SltU a b c) label range goes t = rw (three_read l0 (a, b, c) (range, t)) refl
instr_read immediate l0 (Ld a b i) label range goes t = rw (access_read l0 (a, b, i) (range, t)) refl
instr_read immediate l0 (St a b i) label range goes t = rw (access_read l0 (a, b, i) (range, t)) refl
instr_read immediate l0 (Tas a b i) label range goes t = rw (access_read l0 (a, b, i) (range, t)) refl
instr_read immediate l0 (Beq a b i) label range goes t = rw (branch_read immediate l0 (a, b, i) (record { label = label; leads = goes; is_a = range.0; is_b = range.1; tokens = t })) refl
instr_read immediate l0 (Bne a b i) label range goes t = rw (branch_read immediate l0 (a, b, i) (record { label = label; leads = goes; is_a = range.0; is_b = range.1; tokens = t })) refl
instr_read immediate l0 (Blt a b i) label range goes t = rw (branch_read immediate l0 (a, b, i) (record { label = label; leads = goes; is_a = range.0; is_b = range.1; tokens = t })) refl
instr_read immediate l0 (Bge a b i) label range goes t = rw (branch_read immediate l0 (a, b, i) (record { label = label; leads = goes; is_a = range.0; is_b = range.1; tokens = t })) refl
instr_read immediate l0 (Jmp i) label range goes t = rw (jmp_read immediate l0 i (record { label = label; leads = goes; tokens = t })) refl
instr_read immediate l0 (Call a i) label range goes t = rw (call_read immediate l0 (a, i) (record { label = label; leads = goes; is_a = range.0; tokens = t })) refl
instr_read immediate l0 (Jr a) label range goes t = rw (one_read l0 a (range, t)) refl
instr_read immediate l0 (Show a) label range goes t = rw (one_read l0 a (range, t)) refl

-- ---- what is read is spelled

-- what stands behind the operation's name spells the instruction
pub record SpellInstr (immediate : List ℕ → Option ℤ) (operation : Operation) (l0 : List Lexeme) (instr : Instr) : Type 0 where
  pub label : List ℕ
  pub has_operation : operation_of instr ≡ operation
  pub in_range : IsInstr instr
  pub goes : Goes immediate instr label
  pub tokens : AreTokens l0 (drop 1 (instr_tokens instr label))

-- where it goes to no label
plain : (immediate : List ℕ → Option ℤ) (operation : Operation) (l0 : List Lexeme) (instr : Instr) → operation_of instr ≡ operation → jump_of instr ≡ None
    → IsInstr instr × AreTokens l0 (drop 1 (instr_tokens instr [])) → SpellInstr immediate operation l0 instr
plain immediate operation l0 instr has_operation stays s = record { label = []; has_operation = has_operation; in_range = s.0; goes = rw stays tt; tokens = s.1 }

-- where it goes to a label
to_label : (immediate : List ℕ → Option ℤ) (operation : Operation) (l0 : List Lexeme) (instr : Instr) (label : List ℕ) (i : ℤ) → operation_of instr ≡ operation → jump_of instr ≡ Some i
    → immediate label ≡ Some i → IsInstr instr → AreTokens l0 (drop 1 (instr_tokens instr label)) → SpellInstr immediate operation l0 instr
to_label immediate operation l0 instr label i has_operation jumps leads range tokens =
    record { label = label; has_operation = has_operation; in_range = range; goes = rw jumps leads; tokens = tokens }

bare : (immediate : List ℕ → Option ℤ) (operation : Operation) (l0 : List Lexeme) (a b : Instr) → operation_of a ≡ operation → jump_of a ≡ None → IsInstr a
    → drop 1 (instr_tokens a []) ≡ [] → end_at a l0 ≡ Ok b → SpellInstr immediate operation l0 b
bare immediate operation l0 a b has_operation stays range no_tokens e =
    let end = end_is a b l0 e in
    subst (SpellInstr immediate operation l0) end.1 (plain immediate operation l0 a has_operation stays (range, rw no_tokens end.0))

pub instr_is : (immediate : List ℕ → Option ℤ) → AllFit immediate → (operation : Operation) (l0 : List Lexeme) (instr : Instr) → operation_at immediate operation l0 ≡ Ok instr → SpellInstr immediate operation l0 instr
instr_is immediate fit operations.Halt l0 j e = bare immediate operations.Halt l0 Halt j refl refl tt refl e
instr_is immediate fit operations.Nop l0 j e = bare immediate operations.Nop l0 Nop j refl refl tt refl e
instr_is immediate fit operations.Li l0 j e = made_then (li_at l0) (λ (f : ℕ × ℤ). Li f.0 f.1) j e (SpellInstr immediate operations.Li l0) (λ f r.
    plain immediate operations.Li l0 (Li f.0 f.1) refl refl (li_is l0 f r))
instr_is immediate fit operations.Lih l0 j e = made_then (lih_at l0) (λ (f : ℕ × ℕ). Lih f.0 f.1) j e (SpellInstr immediate operations.Lih l0) (λ f r.
    plain immediate operations.Lih l0 (Lih f.0 f.1) refl refl (lih_is l0 f r))
instr_is immediate fit operations.AddI l0 j e = made_then (addi_at l0) (λ (f : ℕ × ℕ × ℤ). AddI f.0 f.1 f.2) j e (SpellInstr immediate operations.AddI l0) (λ f r.
    plain immediate operations.AddI l0 (AddI f.0 f.1 f.2) refl refl (addi_is l0 f r))
instr_is immediate fit operations.Add l0 j e = made_then (three_at l0) (λ (f : ℕ × ℕ × ℕ). Add f.0 f.1 f.2) j e (SpellInstr immediate operations.Add l0) (λ f r.
    plain immediate operations.Add l0 (Add f.0 f.1 f.2) refl refl (three_is l0 f r))
instr_is immediate fit operations.Sub l0 j e = made_then (three_at l0) (λ (f : ℕ × ℕ × ℕ). Sub f.0 f.1 f.2) j e (SpellInstr immediate operations.Sub l0) (λ f r.
    plain immediate operations.Sub l0 (Sub f.0 f.1 f.2) refl refl (three_is l0 f r))
instr_is immediate fit operations.And l0 j e = made_then (three_at l0) (λ (f : ℕ × ℕ × ℕ). And f.0 f.1 f.2) j e (SpellInstr immediate operations.And l0) (λ f r.
    plain immediate operations.And l0 (And f.0 f.1 f.2) refl refl (three_is l0 f r))
instr_is immediate fit operations.Or l0 j e = made_then (three_at l0) (λ (f : ℕ × ℕ × ℕ). Or f.0 f.1 f.2) j e (SpellInstr immediate operations.Or l0) (λ f r.
    plain immediate operations.Or l0 (Or f.0 f.1 f.2) refl refl (three_is l0 f r))
instr_is immediate fit operations.Xor l0 j e = made_then (three_at l0) (λ (f : ℕ × ℕ × ℕ). Xor f.0 f.1 f.2) j e (SpellInstr immediate operations.Xor l0) (λ f r.
    plain immediate operations.Xor l0 (Xor f.0 f.1 f.2) refl refl (three_is l0 f r))
instr_is immediate fit operations.Shl l0 j e = made_then (three_at l0) (λ (f : ℕ × ℕ × ℕ). Shl f.0 f.1 f.2) j e (SpellInstr immediate operations.Shl l0) (λ f r.
    plain immediate operations.Shl l0 (Shl f.0 f.1 f.2) refl refl (three_is l0 f r))
instr_is immediate fit operations.Shr l0 j e = made_then (three_at l0) (λ (f : ℕ × ℕ × ℕ). Shr f.0 f.1 f.2) j e (SpellInstr immediate operations.Shr l0) (λ f r.
    plain immediate operations.Shr l0 (Shr f.0 f.1 f.2) refl refl (three_is l0 f r))
instr_is immediate fit operations.Slt l0 j e = made_then (three_at l0) (λ (f : ℕ × ℕ × ℕ). Slt f.0 f.1 f.2) j e (SpellInstr immediate operations.Slt l0) (λ f r.
    plain immediate operations.Slt l0 (Slt f.0 f.1 f.2) refl refl (three_is l0 f r))
instr_is immediate fit operations.SltU l0 j e = made_then (three_at l0) (λ (f : ℕ × ℕ × ℕ). SltU f.0 f.1 f.2) j e (SpellInstr immediate operations.SltU l0) (λ f r.
    plain immediate operations.SltU l0 (SltU f.0 f.1 f.2) refl refl (three_is l0 f r))
instr_is immediate fit operations.Ld l0 j e = made_then (access_at l0) (λ (f : ℕ × ℕ × ℤ). Ld f.0 f.1 f.2) j e (SpellInstr immediate operations.Ld l0) (λ f r.
    plain immediate operations.Ld l0 (Ld f.0 f.1 f.2) refl refl (access_is l0 f r))
instr_is immediate fit operations.St l0 j e = made_then (access_at l0) (λ (f : ℕ × ℕ × ℤ). St f.0 f.1 f.2) j e (SpellInstr immediate operations.St l0) (λ f r.
    plain immediate operations.St l0 (St f.0 f.1 f.2) refl refl (access_is l0 f r))
instr_is immediate fit operations.Tas l0 j e = made_then (access_at l0) (λ (f : ℕ × ℕ × ℤ). Tas f.0 f.1 f.2) j e (SpellInstr immediate operations.Tas l0) (λ f r.
    plain immediate operations.Tas l0 (Tas f.0 f.1 f.2) refl refl (access_is l0 f r))
instr_is immediate fit operations.Beq l0 j e = made_then (branch_at immediate l0) (λ (f : ℕ × ℕ × ℤ). Beq f.0 f.1 f.2) j e (SpellInstr immediate operations.Beq l0) (λ f r.
    let s = branch_is immediate l0 f r in
    to_label immediate operations.Beq l0 (Beq f.0 f.1 f.2) s.label f.2 refl refl s.leads (s.is_a, s.is_b, fit s.label f.2 s.leads) s.tokens)
instr_is immediate fit operations.Bne l0 j e = made_then (branch_at immediate l0) (λ (f : ℕ × ℕ × ℤ). Bne f.0 f.1 f.2) j e (SpellInstr immediate operations.Bne l0) (λ f r.
    let s = branch_is immediate l0 f r in
    to_label immediate operations.Bne l0 (Bne f.0 f.1 f.2) s.label f.2 refl refl s.leads (s.is_a, s.is_b, fit s.label f.2 s.leads) s.tokens)
instr_is immediate fit operations.Blt l0 j e = made_then (branch_at immediate l0) (λ (f : ℕ × ℕ × ℤ). Blt f.0 f.1 f.2) j e (SpellInstr immediate operations.Blt l0) (λ f r.
    let s = branch_is immediate l0 f r in
    to_label immediate operations.Blt l0 (Blt f.0 f.1 f.2) s.label f.2 refl refl s.leads (s.is_a, s.is_b, fit s.label f.2 s.leads) s.tokens)
instr_is immediate fit operations.Bge l0 j e = made_then (branch_at immediate l0) (λ (f : ℕ × ℕ × ℤ). Bge f.0 f.1 f.2) j e (SpellInstr immediate operations.Bge l0) (λ f r.
    let s = branch_is immediate l0 f r in
    to_label immediate operations.Bge l0 (Bge f.0 f.1 f.2) s.label f.2 refl refl s.leads (s.is_a, s.is_b, fit s.label f.2 s.leads) s.tokens)
instr_is immediate fit operations.Jmp l0 j e = made_then (jmp_at immediate l0) (λ (f : ℤ). Jmp f) j e (SpellInstr immediate operations.Jmp l0) (λ f r.
    let s = jmp_is immediate l0 f r in
    to_label immediate operations.Jmp l0 (Jmp f) s.label f refl refl s.leads (fit s.label f s.leads) s.tokens)
instr_is immediate fit operations.Call l0 j e = made_then (call_at immediate l0) (λ (f : ℕ × ℤ). Call f.0 f.1) j e (SpellInstr immediate operations.Call l0) (λ f r.
    let s = call_is immediate l0 f r in
    to_label immediate operations.Call l0 (Call f.0 f.1) s.label f.1 refl refl s.leads (s.is_a, fit s.label f.1 s.leads) s.tokens)
instr_is immediate fit operations.Jr l0 j e = made_then (one_at l0) (λ (f : ℕ). Jr f) j e (SpellInstr immediate operations.Jr l0) (λ f r.
    plain immediate operations.Jr l0 (Jr f) refl refl (one_is l0 f r))
instr_is immediate fit operations.Show l0 j e = made_then (one_at l0) (λ (f : ℕ). Show f) j e (SpellInstr immediate operations.Show l0) (λ f r.
    plain immediate operations.Show l0 (Show f) refl refl (one_is l0 f r))
