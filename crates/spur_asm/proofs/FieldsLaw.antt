-- A statement is read exactly where its fields are spelled.
use Rattle.std.proofs.Common.{◌≡◌, ℕ, List, drop, Option, Some, Ok, refl, subst, ℤ}
use Rattle.spur_isa.specs.declared.instr.Instr.{Instr}
use Rattle.spur_object.specs.declared.unit.PageText.{PageText}
use Rattle.spur_object.specs.declared.unit.WordText.{WordText}
use Rattle.spur_asm.specs.Item.{Item, Label, Page, Word, Board, Seg, Code, IsItem, item_tokens}
use Rattle.spur_asm.specs.Lexeme.{Lexeme}
use Rattle.spur_asm.specs.Statements.{page_text_at, word_text_at, seg_at, operation_at, fields_at}
use Rattle.spur_asm.specs.declared.statement.Operation.{Operation}
use Rattle.spur_asm.specs.declared.statement.Sort.{Sort}
use Rattle.spur_asm.specs.declared.statement.Sort.TheVariants as sorts
use Rattle.spur_asm.specs.declared.statement.Statement.{Statement}
use Rattle.spur_asm.specs.declared.statement.Statement.TheVariants as statements
use Rattle.spur_asm.proofs.Levels.{AreTokens, AllFit, FieldsLaw, HasFields, Leads, sort_of, statement_of}
use Rattle.spur_asm.proofs.ValueLemmas.{made_then}
use Rattle.spur_asm.proofs.FieldLemmas.{end_read, end_is}
use Rattle.spur_asm.proofs.DirectiveLemmas.{page_read, page_is, word_read, word_is, seg_read, seg_is}
use Rattle.spur_asm.proofs.InstrLemmas.{instr_read, instr_is}

-- ---- what is spelled is read

-- an item of this sort, which says this statement
abbrev IsOf : Item → Sort → Statement → Type 0
IsOf item sort s = (sort_of item ≡ Some sort) × (statement_of item ≡ Some s)

-- what holds of an item's own sort and statement holds of these
of_item : (P : Sort → Statement → Type 0) (item_sort sort : Sort) (said s : Statement) → Some item_sort ≡ Some sort → Some said ≡ Some s → P item_sort said → P sort s
of_item P item_sort sort said s is_sort is_said holds =
    let same_sort : item_sort ≡ sort = cc in
    let same : said ≡ s = cc in
    subst (P sort) same (subst (λ (x : Sort). P x said) same_sort holds)

item_read : (immediate : List ℕ → Option ℤ) (sort : Sort) (l0 : List Lexeme) (s : Statement) (item : Item) → IsOf item sort s → IsItem item → Leads immediate item
    → AreTokens l0 (drop 1 (item_tokens item)) → fields_at immediate sort l0 ≡ Ok s
item_read immediate sort l0 s (Label name) of range leads t = absurd (let none = of.0 in cc)
item_read immediate sort l0 s (Page segment place prot) of range leads t =
    of_item (λ x y. fields_at immediate x l0 ≡ Ok y) _ sort _ s of.0 of.1 (rw (page_read l0 segment place prot range t) refl)
item_read immediate sort l0 s (Word segment offset value) of range leads t =
    of_item (λ x y. fields_at immediate x l0 ≡ Ok y) _ sort _ s of.0 of.1 (rw (word_read l0 segment offset value range t) refl)
item_read immediate sort l0 s Board of range leads t =
    of_item (λ x y. fields_at immediate x l0 ≡ Ok y) _ sort _ s of.0 of.1 (end_read statements.Board l0 t)
item_read immediate sort l0 s (Seg first second third fourth) of range leads t =
    of_item (λ x y. fields_at immediate x l0 ≡ Ok y) _ sort _ s of.0 of.1 (rw (seg_read l0 first second third fourth range t) refl)
item_read immediate sort l0 s (Code instr label) of range leads t =
    of_item (λ x y. fields_at immediate x l0 ≡ Ok y) _ sort _ s of.0 of.1 (rw (instr_read immediate l0 instr label range leads t) refl)

-- ---- what is read is spelled

page_has : (immediate : List ℕ → Option ℤ) (l0 : List Lexeme) (page : PageText) → page_text_at l0 ≡ Ok page → HasFields immediate sorts.Page l0 (statements.Page page)
page_has immediate l0 page e =
    let s = page_is l0 page e in
    subst (λ (p : PageText). HasFields immediate sorts.Page l0 (statements.Page p)) s.is
    (record { item = Page s.segment s.place s.prot; has_sort = refl; says = refl; in_range = s.in_range; leads = tt; tokens = s.tokens })

word_has : (immediate : List ℕ → Option ℤ) (l0 : List Lexeme) (word : WordText) → word_text_at l0 ≡ Ok word → HasFields immediate sorts.Word l0 (statements.Word word)
word_has immediate l0 word e =
    let s = word_is l0 word e in
    subst (λ (w : WordText). HasFields immediate sorts.Word l0 (statements.Word w)) s.is
    (record { item = Word s.segment s.offset s.value; has_sort = refl; says = refl; in_range = s.in_range; leads = tt; tokens = s.tokens })

seg_has : (immediate : List ℕ → Option ℤ) (l0 : List Lexeme) (segs : List ℕ) → seg_at l0 ≡ Ok segs → HasFields immediate sorts.Seg l0 (statements.Seg segs)
seg_has immediate l0 segs e =
    let s = seg_is l0 segs e in
    subst (λ (x : List ℕ). HasFields immediate sorts.Seg l0 (statements.Seg x)) s.is
    (record { item = Seg s.first s.second s.third s.fourth; has_sort = refl; says = refl; in_range = s.in_range; leads = tt; tokens = s.tokens })

code_has : (immediate : List ℕ → Option ℤ) → AllFit immediate → (operation : Operation) (l0 : List Lexeme) (instr : Instr) → operation_at immediate operation l0 ≡ Ok instr
    → HasFields immediate (sorts.Code operation) l0 (statements.Code instr)
code_has immediate fit operation l0 instr e =
    let s = instr_is immediate fit operation l0 instr e in
    subst (λ (o : Operation). HasFields immediate (sorts.Code o) l0 (statements.Code instr)) s.has_operation
    (record { item = Code instr s.label; has_sort = refl; says = refl; in_range = s.in_range; leads = s.goes; tokens = s.tokens })

fields_are : (immediate : List ℕ → Option ℤ) → AllFit immediate → (sort : Sort) (l0 : List Lexeme) (s : Statement) → fields_at immediate sort l0 ≡ Ok s → HasFields immediate sort l0 s
fields_are immediate fit sorts.Page l0 s e = made_then (page_text_at l0) (λ (p : PageText). statements.Page p) s e (HasFields immediate sorts.Page l0) (page_has immediate l0)
fields_are immediate fit sorts.Word l0 s e = made_then (word_text_at l0) (λ (w : WordText). statements.Word w) s e (HasFields immediate sorts.Word l0) (word_has immediate l0)
fields_are immediate fit sorts.Board l0 s e =
    let end = end_is statements.Board s l0 e in
    subst (HasFields immediate sorts.Board l0) end.1 (record { item = Board; has_sort = refl; says = refl; in_range = tt; leads = tt; tokens = end.0 })
fields_are immediate fit sorts.Seg l0 s e = made_then (seg_at l0) (λ (x : List ℕ). statements.Seg x) s e (HasFields immediate sorts.Seg l0) (seg_has immediate l0)
fields_are immediate fit (sorts.Code operation) l0 s e =
    made_then (operation_at immediate operation l0) (λ (i : Instr). statements.Code i) s e (HasFields immediate (sorts.Code operation) l0) (code_has immediate fit operation l0)

-- ---- the law

pub fields_law : FieldsLaw
fields_law immediate fit sort lexemes s =
    (fields_are immediate fit sort lexemes s, λ h. item_read immediate sort lexemes s h.item (h.has_sort, h.says) h.in_range h.leads h.tokens)
