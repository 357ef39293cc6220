-- How a line is read that is spelled by its items.
use Rattle.std.proofs.Common.{◌≡◌, ℕ, ◌+◌, ◌-◌, ◌%◌, ◌^◌, ◌<◌, false, List, [], ◌∷◌, drop, Option, Some, None, Result, Ok, refl, ap, ◌∙◌, subst, arith, if◌then◌else◌}
use Rattle.std.proofs.lemmas.Int.{ints}
use Rattle.std.specs.Prelude.{ℤ}
use Rattle.std.specs.Int.{w16, cast_signed}
use Rattle.std.specs.List.{All, AllZip, flat_map, filter_map}
use Rattle.std.specs.Option.{option_map, option_to_list}
use Rattle.spur_isa.specs.Ranges.{IsSigned16}
use Rattle.spur_asm.specs.Token.{Token, Name, colon, is_dotted}
use Rattle.spur_asm.specs.Item.{Item, Label, Page, Word, Board, Seg, Code, IsItem, item_tokens}
use Rattle.spur_asm.specs.Lexeme.{Lexeme}
use Rattle.spur_asm.specs.Names.{sort_named}
use Rattle.spur_asm.specs.Fields.{◌>>=◌}
use Rattle.spur_asm.specs.Statements.{fields_at}
use Rattle.spur_asm.specs.Context.{Placed, leading_label, behind_label, behind_two, sort_in, label_fault, misplacement, immediate_of, place_named, distance, next_in, next_context, with_label, with_sort}
use Rattle.spur_asm.specs.Line.{unless_fault, sorted_at, begun_at, statement_at}
use Rattle.spur_asm.specs.declared.fault.AsmKind.{AsmKind}
use Rattle.spur_asm.specs.declared.fault.Misfit.{Misfit}
use Rattle.spur_asm.specs.declared.statement.Context.{Context}
use Rattle.spur_asm.specs.declared.statement.Sort.{Sort}
use Rattle.spur_asm.specs.declared.statement.Sort.TheVariants as sorts
use Rattle.spur_asm.specs.declared.statement.Statement.{Statement}
use Rattle.spur_asm.proofs.Levels.{IsSound, AreTokens, AllFit, FieldsLaw, HasFields, sort_of, statement_of, Leads, Stands, AllStand, label_of, label_of_line, behind_item, behind_items}
use Rattle.spur_asm.proofs.LineHeads.{told, item_name, begins, no_label, some_label}

-- ---- immediates

fits_by : (n : ℕ) → n < 2 ^ 16 → IsSigned16 (cast_signed w16 n)
fits_by n small = record { least = grind (arith, ints); most = grind (arith, ints) }

fits_in : (here : ℕ) (there : Option ℕ) (i : ℤ) → option_map (distance here) there ≡ Some i → IsSigned16 i
fits_in here None i is = absurd cc
fits_in here (Some there) i is =
    let same : distance here there ≡ i = cc in
    subst (λ (z : ℤ). IsSigned16 z) same (fits_by ((there + (2 ^ 16 - (here + 1) % 2 ^ 16)) % 2 ^ 16) (omega arith))

-- the immediates that lead to labels have 16 bits and a sign
pub all_fit : (all : List Placed) (c : Context) → AllFit (immediate_of all c)
all_fit all c name i is = fits_in c.codes (place_named all c.boards name) i is

-- ---- items that are no label

-- the sort and the statement of an item that is no label
pub record HasSort (item : Item) : Type 0 where
  pub sort : Sort
  pub statement : Statement
  pub sort_is : sort_of item ≡ Some sort
  pub statement_is : statement_of item ≡ Some statement

pub has_sort : (item : Item) → label_of item ≡ None → HasSort item
has_sort (Label name) is = absurd cc
has_sort (Page segment place prot) is = record { sort = _; statement = _; sort_is = refl; statement_is = refl }
has_sort (Word segment offset value) is = record { sort = _; statement = _; sort_is = refl; statement_is = refl }
has_sort Board is = record { sort = _; statement = _; sort_is = refl; statement_is = refl }
has_sort (Seg first second third fourth) is = record { sort = _; statement = _; sort_is = refl; statement_is = refl }
has_sort (Code instr label) is = record { sort = _; statement = _; sort_is = refl; statement_is = refl }

module _ (all : List Placed) (c : Context) where
  -- that it stands here, by its sort
  pub stands_by : (item : Item) (sort : Sort) → sort_of item ≡ Some sort → Stands all c item → (misplacement c sort ≡ None) × Leads (immediate_of all c) item
  stands_by (Label name) sort is stands = absurd cc
  stands_by (Page segment place prot) sort is stands = (let e : sorts.Page ≡ sort = cc in subst (λ (s : Sort). misplacement c s ≡ None) e stands.0, stands.1)
  stands_by (Word segment offset value) sort is stands = (let e : sorts.Word ≡ sort = cc in subst (λ (s : Sort). misplacement c s ≡ None) e stands.0, stands.1)
  stands_by Board sort is stands = (let e : sorts.Board ≡ sort = cc in subst (λ (s : Sort). misplacement c s ≡ None) e stands.0, stands.1)
  stands_by (Seg first second third fourth) sort is stands = (let e : sorts.Seg ≡ sort = cc in subst (λ (s : Sort). misplacement c s ≡ None) e stands.0, stands.1)
  stands_by (Code instr label) sort is stands =
      (let e : sorts.Code (Rattle.spur_asm.proofs.Levels.operation_of instr) ≡ sort = cc in subst (λ (s : Sort). misplacement c s ≡ None) e stands.0, stands.1)

  pub stands_as : (item : Item) (sort : Sort) → sort_of item ≡ Some sort → misplacement c sort ≡ None → Leads (immediate_of all c) item → Stands all c item
  stands_as (Label name) sort is fine leads = absurd cc
  stands_as (Page segment place prot) sort is fine leads = (let e : sort ≡ sorts.Page = cc in subst (λ (s : Sort). misplacement c s ≡ None) e fine, leads)
  stands_as (Word segment offset value) sort is fine leads = (let e : sort ≡ sorts.Word = cc in subst (λ (s : Sort). misplacement c s ≡ None) e fine, leads)
  stands_as Board sort is fine leads = (let e : sort ≡ sorts.Board = cc in subst (λ (s : Sort). misplacement c s ≡ None) e fine, leads)
  stands_as (Seg first second third fourth) sort is fine leads = (let e : sort ≡ sorts.Seg = cc in subst (λ (s : Sort). misplacement c s ≡ None) e fine, leads)
  stands_as (Code instr label) sort is fine leads =
      (let e : sort ≡ sorts.Code (Rattle.spur_asm.proofs.Levels.operation_of instr) = cc in subst (λ (s : Sort). misplacement c s ≡ None) e fine, leads)

-- a label changes neither where a statement may stand nor to which places its label leads
pub same_place : (c : Context) (name : List ℕ) (sort : Sort) → misplacement (with_label (Some name) c) sort ≡ misplacement c sort
same_place c name sorts.Page = refl
same_place c name sorts.Word = refl
same_place c name sorts.Board = refl
same_place c name sorts.Seg = refl
same_place c name (sorts.Code operation) = refl

-- ---- a statement

-- the tokens of an item that is no label
pub record Heads (lexemes : List Lexeme) (sort : Sort) (tokens : List Token) : Type 0 where
  pub one : Lexeme
  pub others : List Lexeme
  pub name : List ℕ
  pub is : lexemes ≡ one ∷ others
  pub sound : IsSound one (Name name)
  pub sorted : sort_named name ≡ Some sort
  pub fields : AreTokens others tokens
  pub unlabelled : leading_label lexemes ≡ None

pub heads : (item : Item) (sort : Sort) (lexemes : List Lexeme) → sort_of item ≡ Some sort → AreTokens lexemes (item_tokens item) → Heads lexemes sort (drop 1 (item_tokens item))
heads item sort lexemes is are =
    let t = told item sort is in
    let b = begins lexemes (item_name item) (drop 1 (item_tokens item)) (subst (AreTokens lexemes) t.tokens are) in
    record {
      one = b.one;
      others = b.others;
      name = item_name item;
      is = b.is;
      sound = b.sound;
      sorted = t.sort ∙ is;
      fields = b.fields;
      unlabelled = ap leading_label b.is ∙ no_label b.one b.others (item_name item) (drop 1 (item_tokens item)) b.sound b.fields t.fields;
    }

-- its sort is that of its first token
pub heads_sort : (lexemes : List Lexeme) (sort : Sort) (tokens : List Token) (h : Heads lexemes sort tokens) → sort_in lexemes ≡ Some sort
heads_sort lexemes sort tokens h =
    ap sort_in h.is ∙ ap Rattle.spur_asm.specs.Context.sort_of_token h.sound.token_is ∙ h.sorted

-- a statement that is spelled and may stand here is read
pub statement_read : FieldsLaw → (all : List Placed) (c : Context) (item : Item) (sort : Sort) (s : Statement) (lexemes : List Lexeme) → sort_of item ≡ Some sort → statement_of item ≡ Some s
    → IsItem item → Leads (immediate_of all c) item → misplacement c sort ≡ None → AreTokens lexemes (item_tokens item) → statement_at (immediate_of all c) c lexemes ≡ Ok (Some s)
statement_read law all c item sort s lexemes is says range leads fine are =
    let h = heads item sort lexemes is are in
    let imm : List ℕ → Option ℤ = immediate_of all c in
    let read : fields_at imm sort h.others ≡ Ok s = (law imm (all_fit all c) sort h.others s).1 record { item = item; has_sort = is; says = says; in_range = range; leads = leads; tokens = h.fields } in
    let begun : begun_at imm c h.one.token h.one.left h.others ≡ Ok s =
    ap (λ (t : Result Token AsmKind). begun_at imm c t h.one.left h.others) h.sound.token_is
    ∙ ap (λ (o : Option Sort). sorted_at imm c o h.one.left h.others) h.sorted
    ∙ ap (λ (k : Option AsmKind). unless_fault k h.one.left (fields_at imm sort h.others)) fine ∙ read in
    ap (statement_at imm c) h.is ∙ ap (λ (r : Result Statement Misfit). r >>= (λ x. Ok (Some x))) begun

-- ---- the tokens of a line, by its shape

pub no_lexemes : (lexemes : List Lexeme) → AreTokens lexemes [] → lexemes ≡ []
no_lexemes [] are = refl
no_lexemes (one ∷ lexemes) are = absurd are

-- tokens that begin with a label
pub record Labels (lexemes : List Lexeme) (name : List ℕ) (tokens : List Token) : Type 0 where
  pub one : Lexeme
  pub mark : Lexeme
  pub others : List Lexeme
  pub is : lexemes ≡ one ∷ mark ∷ others
  pub name_sound : IsSound one (Name name)
  pub mark_sound : IsSound mark colon
  pub rest : AreTokens others tokens

pub labels : (lexemes : List Lexeme) (name : List ℕ) (tokens : List Token) → AreTokens lexemes (Name name ∷ colon ∷ tokens) → Labels lexemes name tokens
labels [] name tokens are = absurd are
labels (one ∷ []) name tokens are = absurd are.1
labels (one ∷ mark ∷ others) name tokens are =
    record { one = one; mark = mark; others = others; is = refl; name_sound = are.0; mark_sound = are.1.0; rest = are.1.1 }

-- a label, and what stands behind it
pub label_is : (lexemes : List Lexeme) (name : List ℕ) (tokens : List Token) → is_dotted name ≡ false → (l : Labels lexemes name tokens)
    → (leading_label lexemes ≡ Some name) × (behind_label lexemes ≡ l.others)
label_is lexemes name tokens plain l =
    let some : leading_label (l.one ∷ l.mark ∷ l.others) ≡ Some name = some_label l.one l.mark l.others name plain l.name_sound l.mark_sound in (
      ap leading_label l.is ∙ some,
      ap behind_label l.is ∙ ap (λ (o : Option (List ℕ)). if Rattle.std.specs.Option.is_some o then l.others else l.one ∷ l.mark ∷ l.others) some,
    )

-- without a label, all tokens are the statement's
pub unlabelled_behind : (lexemes : List Lexeme) → leading_label lexemes ≡ None → behind_label lexemes ≡ lexemes
unlabelled_behind lexemes none = ap (λ (o : Option (List ℕ)). if Rattle.std.specs.Option.is_some o then behind_two lexemes else lexemes) none
