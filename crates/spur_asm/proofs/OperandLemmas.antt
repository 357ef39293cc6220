-- Each form of what stands behind a statement's name, both ways: fields that are spelled are read, and what is read is spelled.
use Rattle.std.proofs.Common.{◌≡◌, ℕ, ◌≤◌, List, [], ◌∷◌, Option, Some, Ok, subst, arith, ℤ}
use Rattle.spur_isa.specs.Ranges.{IsReg, IsSigned16, IsUnsigned16}
use Rattle.spur_asm.specs.Token.{Name, Number, comma, opening, closing}
use Rattle.spur_asm.specs.Item.{register, natural}
use Rattle.spur_asm.specs.Lexeme.{Lexeme}
use Rattle.spur_asm.specs.Statements.{one_at, li_at, lih_at, addi_at, three_at, access_at, branch_at, jmp_at, call_at}
use Rattle.spur_asm.proofs.Levels.{AreTokens}
use Rattle.spur_asm.proofs.FieldLemmas.{end_read, end_is, mark_field, mark_then, register_field, register_then, immediate_field, immediate_then, natural_field, natural_then, label_field, label_then}

-- ---- `a, i`

abbrev pub SpellLi : List Lexeme → ℕ × ℤ → Type 0
SpellLi l0 f = (IsReg f.0 × IsSigned16 f.1) × AreTokens l0 (register f.0 ∷ comma ∷ Number f.1 ∷ [])

pub li_read : (l0 : List Lexeme) (f : ℕ × ℤ) → SpellLi l0 f → li_at l0 ≡ Ok f
unfolding li_at
li_read l0 f s =
    register_field f.0 _ l0 _ _ s.0.0 s.1 (λ l1 t1.
    mark_field 44 _ l1 _ _ t1 (λ l2 t2.
    immediate_field f.1 _ l2 _ _ s.0.1 t2 (λ l3 t3.
    end_read (f.0, f.1) l3 t3)))

pub li_is : (l0 : List Lexeme) (f : ℕ × ℤ) → li_at l0 ≡ Ok f → SpellLi l0 f
unfolding li_at
li_is l0 f e =
    let P : Type 0 = SpellLi l0 f in
    register_then l0 _ _ e P (λ a l1 is_a t0 e1.
    mark_then 44 l1 _ _ e1 P (λ m l2 t1 e2.
    immediate_then l2 _ _ e2 P (λ i l3 is_i t2 e3.
    let end = end_is (a, i) f l3 e3 in
    subst (SpellLi l0) end.1 ((is_a, is_i), t0 _ (t1 _ (t2 _ end.0))))))

-- ---- `a`

abbrev pub SpellOne : List Lexeme → ℕ → Type 0
SpellOne l0 a = IsReg a × AreTokens l0 (register a ∷ [])

pub one_read : (l0 : List Lexeme) (a : ℕ) → SpellOne l0 a → one_at l0 ≡ Ok a
unfolding one_at
one_read l0 a s =
    register_field a _ l0 _ _ s.0 s.1 (λ l1 t1.
    end_read a l1 t1)

pub one_is : (l0 : List Lexeme) (f : ℕ) → one_at l0 ≡ Ok f → SpellOne l0 f
unfolding one_at
one_is l0 f e =
    let P : Type 0 = SpellOne l0 f in
    register_then l0 _ _ e P (λ a l1 is_a t0 e1.
    let end = end_is a f l1 e1 in
    subst (SpellOne l0) end.1 (is_a, t0 _ end.0))

-- ---- `a, u`

abbrev pub SpellLih : List Lexeme → ℕ × ℕ → Type 0
SpellLih l0 f = (IsReg f.0 × IsUnsigned16 f.1) × AreTokens l0 (register f.0 ∷ comma ∷ natural f.1 ∷ [])

up_to : (u : ℕ) → IsUnsigned16 u → u ≤ 65535
up_to u below = omega arith

below_of : (u : ℕ) → u ≤ 65535 → IsUnsigned16 u
below_of u most = omega arith

pub lih_read : (l0 : List Lexeme) (f : ℕ × ℕ) → SpellLih l0 f → lih_at l0 ≡ Ok f
unfolding lih_at
lih_read l0 f s =
    register_field f.0 _ l0 _ _ s.0.0 s.1 (λ l1 t1.
    mark_field 44 _ l1 _ _ t1 (λ l2 t2.
    natural_field 65535 f.1 _ l2 _ _ (up_to f.1 s.0.1) t2 (λ l3 t3.
    end_read (f.0, f.1) l3 t3)))

pub lih_is : (l0 : List Lexeme) (f : ℕ × ℕ) → lih_at l0 ≡ Ok f → SpellLih l0 f
unfolding lih_at
lih_is l0 f e =
    let P : Type 0 = SpellLih l0 f in
    register_then l0 _ _ e P (λ a l1 is_a t0 e1.
    mark_then 44 l1 _ _ e1 P (λ m l2 t1 e2.
    natural_then 65535 l2 _ _ e2 P (λ u l3 most t2 e3.
    let end = end_is (a, u) f l3 e3 in
    subst (SpellLih l0) end.1 ((is_a, below_of u most), t0 _ (t1 _ (t2 _ end.0))))))

-- ---- `a, b, i`

abbrev pub SpellAddI : List Lexeme → ℕ × ℕ × ℤ → Type 0
SpellAddI l0 f = (IsReg f.0 × IsReg f.1 × IsSigned16 f.2) × AreTokens l0 (register f.0 ∷ comma ∷ register f.1 ∷ comma ∷ Number f.2 ∷ [])

pub addi_read : (l0 : List Lexeme) (f : ℕ × ℕ × ℤ) → SpellAddI l0 f → addi_at l0 ≡ Ok f
unfolding addi_at
addi_read l0 f s =
    register_field f.0 _ l0 _ _ s.0.0 s.1 (λ l1 t1.
    mark_field 44 _ l1 _ _ t1 (λ l2 t2.
    register_field f.1 _ l2 _ _ s.0.1 t2 (λ l3 t3.
    mark_field 44 _ l3 _ _ t3 (λ l4 t4.
    immediate_field f.2 _ l4 _ _ s.0.2 t4 (λ l5 t5.
    end_read (f.0, f.1, f.2) l5 t5)))))

pub addi_is : (l0 : List Lexeme) (f : ℕ × ℕ × ℤ) → addi_at l0 ≡ Ok f → SpellAddI l0 f
unfolding addi_at
addi_is l0 f e =
    let P : Type 0 = SpellAddI l0 f in
    register_then l0 _ _ e P (λ a l1 is_a t0 e1.
    mark_then 44 l1 _ _ e1 P (λ m l2 t1 e2.
    register_then l2 _ _ e2 P (λ b l3 is_b t2 e3.
    mark_then 44 l3 _ _ e3 P (λ n l4 t3 e4.
    immediate_then l4 _ _ e4 P (λ i l5 is_i t4 e5.
    let end = end_is (a, b, i) f l5 e5 in
    subst (SpellAddI l0) end.1 ((is_a, is_b, is_i), t0 _ (t1 _ (t2 _ (t3 _ (t4 _ end.0))))))))))

-- ---- `a, b, c`

abbrev pub SpellThree : List Lexeme → ℕ × ℕ × ℕ → Type 0
SpellThree l0 f = (IsReg f.0 × IsReg f.1 × IsReg f.2) × AreTokens l0 (register f.0 ∷ comma ∷ register f.1 ∷ comma ∷ register f.2 ∷ [])

pub three_read : (l0 : List Lexeme) (f : ℕ × ℕ × ℕ) → SpellThree l0 f → three_at l0 ≡ Ok f
unfolding three_at
three_read l0 f s =
    register_field f.0 _ l0 _ _ s.0.0 s.1 (λ l1 t1.
    mark_field 44 _ l1 _ _ t1 (λ l2 t2.
    register_field f.1 _ l2 _ _ s.0.1 t2 (λ l3 t3.
    mark_field 44 _ l3 _ _ t3 (λ l4 t4.
    register_field f.2 _ l4 _ _ s.0.2 t4 (λ l5 t5.
    end_read (f.0, f.1, f.2) l5 t5)))))

pub three_is : (l0 : List Lexeme) (f : ℕ × ℕ × ℕ) → three_at l0 ≡ Ok f → SpellThree l0 f
unfolding three_at
three_is l0 f e =
    let P : Type 0 = SpellThree l0 f in
    register_then l0 _ _ e P (λ a l1 is_a t0 e1.
    mark_then 44 l1 _ _ e1 P (λ m l2 t1 e2.
    register_then l2 _ _ e2 P (λ b l3 is_b t2 e3.
    mark_then 44 l3 _ _ e3 P (λ n l4 t3 e4.
    register_then l4 _ _ e4 P (λ c l5 is_c t4 e5.
    let end = end_is (a, b, c) f l5 e5 in
    subst (SpellThree l0) end.1 ((is_a, is_b, is_c), t0 _ (t1 _ (t2 _ (t3 _ (t4 _ end.0))))))))))

-- ---- `a, i(b)`

abbrev pub SpellAccess : List Lexeme → ℕ × ℕ × ℤ → Type 0
SpellAccess l0 f = (IsReg f.0 × IsReg f.1 × IsSigned16 f.2) × AreTokens l0 (register f.0 ∷ comma ∷ Number f.2 ∷ opening ∷ register f.1 ∷ closing ∷ [])

pub access_read : (l0 : List Lexeme) (f : ℕ × ℕ × ℤ) → SpellAccess l0 f → access_at l0 ≡ Ok f
unfolding access_at
access_read l0 f s =
    register_field f.0 _ l0 _ _ s.0.0 s.1 (λ l1 t1.
    mark_field 44 _ l1 _ _ t1 (λ l2 t2.
    immediate_field f.2 _ l2 _ _ s.0.2 t2 (λ l3 t3.
    mark_field 40 _ l3 _ _ t3 (λ l4 t4.
    register_field f.1 _ l4 _ _ s.0.1 t4 (λ l5 t5.
    mark_field 41 _ l5 _ _ t5 (λ l6 t6.
    end_read (f.0, f.1, f.2) l6 t6))))))

pub access_is : (l0 : List Lexeme) (f : ℕ × ℕ × ℤ) → access_at l0 ≡ Ok f → SpellAccess l0 f
unfolding access_at
access_is l0 f e =
    let P : Type 0 = SpellAccess l0 f in
    register_then l0 _ _ e P (λ a l1 is_a t0 e1.
    mark_then 44 l1 _ _ e1 P (λ m l2 t1 e2.
    immediate_then l2 _ _ e2 P (λ i l3 is_i t2 e3.
    mark_then 40 l3 _ _ e3 P (λ n l4 t3 e4.
    register_then l4 _ _ e4 P (λ b l5 is_b t4 e5.
    mark_then 41 l5 _ _ e5 P (λ o l6 t5 e6.
    let end = end_is (a, b, i) f l6 e6 in
    subst (SpellAccess l0) end.1 ((is_a, is_b, is_i), t0 _ (t1 _ (t2 _ (t3 _ (t4 _ (t5 _ end.0))))))))))))

-- ---- `a, b, label`

pub record SpellBranch (immediate : List ℕ → Option ℤ) (l0 : List Lexeme) (f : ℕ × ℕ × ℤ) : Type 0 where
  pub label : List ℕ
  pub leads : immediate label ≡ Some f.2
  pub is_a : IsReg f.0
  pub is_b : IsReg f.1
  pub tokens : AreTokens l0 (register f.0 ∷ comma ∷ register f.1 ∷ comma ∷ Name label ∷ [])

pub branch_read : (immediate : List ℕ → Option ℤ) (l0 : List Lexeme) (f : ℕ × ℕ × ℤ) → SpellBranch immediate l0 f → branch_at immediate l0 ≡ Ok f
unfolding branch_at
branch_read immediate l0 f s =
    register_field f.0 _ l0 _ _ s.is_a s.tokens (λ l1 t1.
    mark_field 44 _ l1 _ _ t1 (λ l2 t2.
    register_field f.1 _ l2 _ _ s.is_b t2 (λ l3 t3.
    mark_field 44 _ l3 _ _ t3 (λ l4 t4.
    label_field immediate s.label f.2 _ l4 _ _ s.leads t4 (λ l5 t5.
    end_read (f.0, f.1, f.2) l5 t5)))))

pub branch_is : (immediate : List ℕ → Option ℤ) (l0 : List Lexeme) (f : ℕ × ℕ × ℤ) → branch_at immediate l0 ≡ Ok f → SpellBranch immediate l0 f
unfolding branch_at
branch_is immediate l0 f e =
    let P : Type 0 = SpellBranch immediate l0 f in
    register_then l0 _ _ e P (λ a l1 is_a t0 e1.
    mark_then 44 l1 _ _ e1 P (λ m l2 t1 e2.
    register_then l2 _ _ e2 P (λ b l3 is_b t2 e3.
    mark_then 44 l3 _ _ e3 P (λ n l4 t3 e4.
    label_then immediate l4 _ _ e4 P (λ i label l5 leads t4 e5.
    let end = end_is (a, b, i) f l5 e5 in
    subst (SpellBranch immediate l0) end.1 (record { label = label; leads = leads; is_a = is_a; is_b = is_b; tokens = t0 _ (t1 _ (t2 _ (t3 _ (t4 _ end.0)))) }))))))

-- ---- `label`

pub record SpellJmp (immediate : List ℕ → Option ℤ) (l0 : List Lexeme) (i : ℤ) : Type 0 where
  pub label : List ℕ
  pub leads : immediate label ≡ Some i
  pub tokens : AreTokens l0 (Name label ∷ [])

pub jmp_read : (immediate : List ℕ → Option ℤ) (l0 : List Lexeme) (i : ℤ) → SpellJmp immediate l0 i → jmp_at immediate l0 ≡ Ok i
unfolding jmp_at
jmp_read immediate l0 i s =
    label_field immediate s.label i _ l0 _ _ s.leads s.tokens (λ l1 t1.
    end_read i l1 t1)

pub jmp_is : (immediate : List ℕ → Option ℤ) (l0 : List Lexeme) (f : ℤ) → jmp_at immediate l0 ≡ Ok f → SpellJmp immediate l0 f
unfolding jmp_at
jmp_is immediate l0 f e =
    let P : Type 0 = SpellJmp immediate l0 f in
    label_then immediate l0 _ _ e P (λ i label l1 leads t0 e1.
    let end = end_is i f l1 e1 in
    subst (SpellJmp immediate l0) end.1 (record { label = label; leads = leads; tokens = t0 _ end.0 }))

-- ---- `a, label`

pub record SpellCall (immediate : List ℕ → Option ℤ) (l0 : List Lexeme) (f : ℕ × ℤ) : Type 0 where
  pub label : List ℕ
  pub leads : immediate label ≡ Some f.1
  pub is_a : IsReg f.0
  pub tokens : AreTokens l0 (register f.0 ∷ comma ∷ Name label ∷ [])

pub call_read : (immediate : List ℕ → Option ℤ) (l0 : List Lexeme) (f : ℕ × ℤ) → SpellCall immediate l0 f → call_at immediate l0 ≡ Ok f
unfolding call_at
call_read immediate l0 f s =
    register_field f.0 _ l0 _ _ s.is_a s.tokens (λ l1 t1.
    mark_field 44 _ l1 _ _ t1 (λ l2 t2.
    label_field immediate s.label f.1 _ l2 _ _ s.leads t2 (λ l3 t3.
    end_read (f.0, f.1) l3 t3)))

pub call_is : (immediate : List ℕ → Option ℤ) (l0 : List Lexeme) (f : ℕ × ℤ) → call_at immediate l0 ≡ Ok f → SpellCall immediate l0 f
unfolding call_at
call_is immediate l0 f e =
    let P : Type 0 = SpellCall immediate l0 f in
    register_then l0 _ _ e P (λ a l1 is_a t0 e1.
    mark_then 44 l1 _ _ e1 P (λ m l2 t1 e2.
    label_then immediate l2 _ _ e2 P (λ i label l3 leads t2 e3.
    let end = end_is (a, i) f l3 e3 in
    subst (SpellCall immediate l0) end.1 (record { label = label; leads = leads; is_a = is_a; tokens = t0 _ (t1 _ (t2 _ end.0)) }))))
