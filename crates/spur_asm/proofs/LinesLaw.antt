-- A line is read exactly where its items are spelled and may stand.
use Rattle.std.proofs.Common.{◌≡◌, ℕ, ◌==◌, ◌&&◌, Bool, true, false, not, List, [], ◌∷◌, ◌++◌, Option, Some, None, Result, Ok, Err, refl, sym, ap, ◌∙◌, subst, append-nil, arith, if◌then◌else◌}
use Rattle.std.specs.List.{All, AllZip, flat_map, filter_map, fold}
use Rattle.std.specs.Option.{option_to_list, is_some}
use Rattle.std.proofs.lemmas.Bool.Decides.{nat_tests}
use Rattle.std.proofs.lemmas.List.Elements.{All-cons, All-nil}
use Rattle.spur_asm.specs.Token.{Token, Name, Number, Mark, colon, is_dotted}
use Rattle.spur_asm.specs.Item.{Item, Label, IsItem, IsLine, IsStatement, item_tokens, SpellsLine}
use Rattle.spur_asm.specs.Lexeme.{Lexeme, lexemes_of}
use Rattle.spur_asm.specs.Names.{sort_named}
use Rattle.spur_asm.specs.Fields.{◌>>=◌}
use Rattle.spur_asm.specs.Statements.{fields_at}
use Rattle.spur_asm.specs.Context.{Placed, leading_label, label_of_two, behind_label, sort_in, label_fault, misplacement, immediate_of, next_in, next_context, with_label, with_sort}
use Rattle.spur_asm.specs.Line.{statement_of_lexemes, statement_of_line, left_of, unless_fault, head_fault, sorted_at, begun_at, statement_at}
use Rattle.spur_asm.specs.declared.fault.AsmKind.{AsmKind}
use Rattle.spur_asm.specs.declared.fault.Misfit.{Misfit}
use Rattle.spur_asm.specs.declared.statement.Context.{Context}
use Rattle.spur_asm.specs.declared.statement.Sort.{Sort}
use Rattle.spur_asm.specs.declared.statement.Statement.{Statement}
use Rattle.spur_asm.proofs.Levels.{IsSound, AreTokens, AreFree, is_mark_token, TokensLaw, FreeLaw, FieldsLaw, sort_of, statement_of, Stands, AllStand, label_of, LineSays, LineLaw}
use Rattle.spur_asm.proofs.LineHeads.{told, item_name}
use Rattle.spur_asm.proofs.LineNaming.{named_as}
use Rattle.spur_asm.proofs.LineShapes.{Shape, Blank, Labelled, Bare, Both, shape, statement_alone, bare_is_line}
use Rattle.spur_asm.proofs.LineReading.{all_fit, has_sort, stands_by, stands_as, same_place, heads, statement_read, no_lexemes, labels, label_is, unlabelled_behind}

-- ---- small facts

pub one_item : (item : Item) → All IsItem (item ∷ []) → IsItem item
one_item item all = all 0 item (omega arith)

pub first_item : (one two : Item) → All IsItem (one ∷ two ∷ []) → IsItem one
first_item one two all = all 0 one (omega arith)

second_item : (one two : Item) → All IsItem (one ∷ two ∷ []) → IsItem two
second_item one two all = all 1 two (omega arith)

nothing_said : (s : Option Statement) → [] ≡ option_to_list s → s ≡ None
nothing_said None e = refl
nothing_said (Some s) e = absurd cc

one_said : (x : Option Statement) (st : Statement) (s : Option Statement) → x ≡ Some st → option_to_list x ≡ option_to_list s → s ≡ Some st
one_said None st s is e = absurd cc
one_said (Some y) st None is e = absurd cc
one_said (Some y) st (Some z) is e = cc

-- the value of a reader and of the one behind it
bind_ok : {A B : Type 0} (r : Result A Misfit) (f : A → Result B Misfit) (y : B) → (r >>= f) ≡ Ok y → (x : A) × (r ≡ Ok x) × (f x ≡ Ok y)
bind_ok (Ok x) f y e = (x, refl, e)
bind_ok (Err m) f y e = absurd cc

-- what has no fault
unless_ok : {A : Type 0} (kind : Option AsmKind) (left : ℕ) (rest : Result A Misfit) (y : A) → unless_fault kind left rest ≡ Ok y → (kind ≡ None) × (rest ≡ Ok y)
unless_ok None left rest y e = (refl, e)
unless_ok (Some kind) left rest y e = absurd cc

-- what a list of items says where one of them is a statement
said_alone : (item : Item) → filter_map statement_of (item ∷ []) ≡ option_to_list (statement_of item)
said_alone item = by_option (statement_of item)
  where
    by_option : (o : Option Statement) → Rattle.std.specs.List.cons_option o [] ≡ option_to_list o
    by_option None = refl
    by_option (Some st) = refl

abbrev okay : Option Statement → Result (Option Statement) Misfit
okay s = Ok s

-- ---- from spelling to reading

-- items by whose tokens a line is cut, which may stand here and say this
record Said (all : List Placed) (c : Context) (lexemes : List Lexeme) (s : Option Statement) (items : List Item) : Type 0 where
  tokens : AreTokens lexemes (flat_map item_tokens items)
  in_range : All IsItem items
  stand : AllStand all c items
  says : filter_map statement_of items ≡ option_to_list s

module _ (law : FieldsLaw) (all : List Placed) (c : Context) (lexemes : List Lexeme) (s : Option Statement) where
  read_nothing : (rest : List Lexeme) → rest ≡ [] → s ≡ None → statement_at (immediate_of all c) c rest ≡ Ok s
  read_nothing rest is none = ap (statement_at (immediate_of all c) c) is ∙ ap okay (sym none)

  -- a line without a label
  read_bare : (leading_label lexemes ≡ None) → statement_at (immediate_of all c) c lexemes ≡ Ok s → statement_of_lexemes all c lexemes ≡ Ok s
  read_bare none read =
      ap (λ (o : Option (List ℕ)). unless_fault (head_fault all c o) (left_of lexemes) (statement_at (immediate_of all c) c (behind_label lexemes))) none
      ∙ ap (statement_at (immediate_of all c) c) (unlabelled_behind lexemes none) ∙ read

  -- a line with one
  read_labelled : (name : List ℕ) (rest : List Lexeme) → leading_label lexemes ≡ Some name → behind_label lexemes ≡ rest → label_fault all c name ≡ None
      → statement_at (immediate_of all c) c rest ≡ Ok s → statement_of_lexemes all c lexemes ≡ Ok s
  read_labelled name rest some behind fine read =
      ap (λ (o : Option (List ℕ)). unless_fault (head_fault all c o) (left_of lexemes) (statement_at (immediate_of all c) c (behind_label lexemes))) some
      ∙ ap (λ (k : Option AsmKind). unless_fault k (left_of lexemes) (statement_at (immediate_of all c) c (behind_label lexemes))) fine
      ∙ ap (statement_at (immediate_of all c) c) behind ∙ read

  read_said : (items : List Item) → Shape items → Said all c lexemes s items → statement_of_lexemes all c lexemes ≡ Ok s
  read_said items (Blank is) said =
      let h : Said all c lexemes s [] = subst (Said all c lexemes s) is said in
      let none = no_lexemes lexemes h.tokens in
      read_bare (ap leading_label none) (read_nothing lexemes none (nothing_said s h.says))
  read_said items (Labelled name is) said =
      let h : Said all c lexemes s (Label name ∷ []) = subst (Said all c lexemes s) is said in
      let l = labels lexemes name [] h.tokens in
      let at = label_is lexemes name [] (one_item (Label name) h.in_range) l in
      read_labelled name l.others at.0 at.1 h.stand.0 (read_nothing l.others (no_lexemes l.others l.rest) (nothing_said s h.says))
  read_said items (Bare item plain is) said =
      let h : Said all c lexemes s (item ∷ []) = subst (Said all c lexemes s) is said in
      let e = has_sort item plain in
      let tokens : AreTokens lexemes (item_tokens item) = subst (AreTokens lexemes) (append-nil (item_tokens item)) h.tokens in
      let stands = stands_by all c item e.sort e.sort_is h.stand.0 in
      let some : s ≡ Some e.statement = one_said (statement_of item) e.statement s e.statement_is (sym (said_alone item) ∙ h.says) in
      let head = heads item e.sort lexemes e.sort_is tokens in
      read_bare head.unlabelled
      (statement_read law all c item e.sort e.statement lexemes e.sort_is e.statement_is (one_item item h.in_range) stands.1 stands.0 tokens
      ∙ ap okay (sym some))
  read_said items (Both name item plain is) said =
      let h : Said all c lexemes s (Label name ∷ item ∷ []) = subst (Said all c lexemes s) is said in
      let e = has_sort item plain in
      let l = labels lexemes name (item_tokens item ++ []) h.tokens in
      let at = label_is lexemes name (item_tokens item ++ []) (first_item (Label name) item h.in_range) l in
      let tokens : AreTokens l.others (item_tokens item) = subst (AreTokens l.others) (append-nil (item_tokens item)) l.rest in
      let stands = stands_by all (with_label (Some name) c) item e.sort e.sort_is h.stand.1.0 in
      let some : s ≡ Some e.statement = one_said (statement_of item) e.statement s e.statement_is (sym (said_alone item) ∙ h.says) in
      read_labelled name l.others at.0 at.1 h.stand.0
      (statement_read law all c item e.sort e.statement l.others e.sort_is e.statement_is (second_item (Label name) item h.in_range) stands.1 (sym (same_place c name e.sort) ∙ stands.0) tokens
      ∙ ap okay (sym some))

-- ---- from reading to spelling

-- a statement that was read
record Found (all : List Placed) (c : Context) (lexemes : List Lexeme) (st : Statement) : Type 0 where
  item : Item
  plain : label_of item ≡ None
  tokens : AreTokens lexemes (item_tokens item)
  in_range : IsItem item
  stands : Stands all c item
  says : statement_of item ≡ Some st

plain_sort : (item : Item) (sort : Sort) → sort_of item ≡ Some sort → label_of item ≡ None
plain_sort (Label name) sort e = absurd cc
plain_sort (Rattle.spur_asm.specs.Item.Page segment place prot) sort e = refl
plain_sort (Rattle.spur_asm.specs.Item.Word segment offset value) sort e = refl
plain_sort Rattle.spur_asm.specs.Item.Board sort e = refl
plain_sort (Rattle.spur_asm.specs.Item.Seg first second third fourth) sort e = refl
plain_sort (Rattle.spur_asm.specs.Item.Code instr label) sort e = refl

module _ (law : FieldsLaw) (all : List Placed) (c : Context) where
  -- by the name's sort
  sorted_found : (name : List ℕ) (named : Option Sort) → sort_named name ≡ named → (one : Lexeme) (others : List Lexeme) → one.token ≡ Ok (Name name) → one.glued ≡ false → (st : Statement)
      → sorted_at (immediate_of all c) c named one.left others ≡ Ok st → Found all c (one ∷ others) st
  sorted_found name None is one others token free st e = absurd cc
  sorted_found name (Some sort) is one others token free st e =
      let u = unless_ok (misplacement c sort) one.left (fields_at (immediate_of all c) sort others) st e in
      let h = (law (immediate_of all c) (all_fit all c) sort others st).0 u.1 in
      let t = told h.item sort h.has_sort in
      let same : name ≡ item_name h.item = named_as name sort h.item is h.has_sort in
      let sound : IsSound one (Name (item_name h.item)) = subst (λ (n : List ℕ). IsSound one (Name n)) same record { token_is = token; free = free } in
      record {
        item = h.item;
        plain = plain_sort h.item sort h.has_sort;
        tokens = subst (AreTokens (one ∷ others)) (sym t.tokens) (sound, h.tokens);
        in_range = h.in_range;
        stands = stands_as all c h.item sort h.has_sort u.0 h.leads;
        says = h.says;
      }

  -- by the first token
  begun_found : (token : Result Token AsmKind) (one : Lexeme) (others : List Lexeme) → one.token ≡ token → one.glued ≡ false → (st : Statement)
      → begun_at (immediate_of all c) c token one.left others ≡ Ok st → Found all c (one ∷ others) st
  begun_found (Err kind) one others is free st e = absurd cc
  begun_found (Ok (Name name)) one others is free st e = sorted_found name (sort_named name) refl one others is free st e
  begun_found (Ok (Number z)) one others is free st e = absurd cc
  begun_found (Ok (Mark mark)) one others is free st e = absurd cc

  -- what tokens say behind a label, or where there is none
  data Says (lexemes : List Lexeme) (s : Option Statement) : Type 0 where
    Nothing : lexemes ≡ [] → s ≡ None → Says lexemes s
    Statement' : (st : Statement) → s ≡ Some st → Found all c lexemes st → Says lexemes s

  found : (lexemes : List Lexeme) (s : Option Statement) → (free : AreFree true lexemes) → statement_at (immediate_of all c) c lexemes ≡ Ok s → Says lexemes s
  found [] s free e = Nothing refl cc
  found (one ∷ others) s free e =
      let b = bind_ok (begun_at (immediate_of all c) c one.token one.left others) (λ x. okay (Some x)) s e in
      let some : s ≡ Some b.0 = cc in
      Statement' b.0 some (begun_found one.token one others refl (free.0 refl) b.0 b.1)

-- ---- labels

-- a label that was read
record LabelFound (lexemes : List Lexeme) (name : List ℕ) : Type 0 where
  one : Lexeme
  mark : Lexeme
  others : List Lexeme
  is : lexemes ≡ one ∷ mark ∷ others
  name_is : one.token ≡ Ok (Name name)
  mark_is : mark.token ≡ Ok colon
  plain : is_dotted name ≡ false

record TwoAre (one mark : Result Token AsmKind) (name : List ℕ) : Type 0 where
  name_is : one ≡ Ok (Name name)
  mark_is : mark ≡ Ok colon
  plain : is_dotted name ≡ false

two_by : (first name : List ℕ) (m : ℕ) (test dotted : Bool) → (m == 58) ≡ test → is_dotted first ≡ dotted → (if test && not dotted then Some first else None) ≡ Some name
    → TwoAre (Ok (Name first)) (Ok (Mark m)) name
two_by first name m true true t d e = absurd cc
two_by first name m true false t d e =
    let same : first ≡ name = cc in
    let colon_is : m ≡ 58 = grind (arith, nat_tests) in
    record {
      name_is = ap (λ (n : List ℕ). Ok (Name n)) same;
      mark_is = ap (λ (k : ℕ). Ok (Mark k)) colon_is;
      plain = sym (ap is_dotted same) ∙ d;
    }
two_by first name m false dotted t d e = absurd cc

two_are : (one mark : Result Token AsmKind) (name : List ℕ) → label_of_two one mark ≡ Some name → TwoAre one mark name
two_are (Err kind) mark name e = absurd cc
two_are (Ok (Number z)) mark name e = absurd cc
two_are (Ok (Mark m)) mark name e = absurd cc
two_are (Ok (Name first)) (Err kind) name e = absurd cc
two_are (Ok (Name first)) (Ok (Name second)) name e = absurd cc
two_are (Ok (Name first)) (Ok (Number z)) name e = absurd cc
two_are (Ok (Name first)) (Ok (Mark m)) name e = two_by first name m (m == 58) (is_dotted first) refl refl e

label_found : (lexemes : List Lexeme) (name : List ℕ) → leading_label lexemes ≡ Some name → LabelFound lexemes name
label_found [] name e = absurd cc
label_found (one ∷ []) name e = absurd cc
label_found (one ∷ mark ∷ others) name e =
    let t = two_are one.token mark.token name e in
    record { one = one; mark = mark; others = others; is = refl; name_is = t.name_is; mark_is = t.mark_is; plain = t.plain }

-- ---- the laws

pub tokens_of : TokensLaw → (line : List ℕ) (items : List Item) → SpellsLine line items → AreTokens (lexemes_of line) (flat_map item_tokens items)
tokens_of tokens_law line items spells = (tokens_law line (flat_map item_tokens items)).0 spells.spelled

-- a line of one statement
bare_says : TokensLaw → (all : List Placed) (c : Context) (line : List ℕ) (s : Option Statement) (st : Statement) → s ≡ Some st → Found all c (lexemes_of line) st → LineSays all c line s
bare_says tokens_law all c line s st is f = record {
  items = f.item ∷ [];
  spelled = record {
    is_line = bare_is_line f.item f.plain;
    in_range = All-cons IsItem f.item [] f.in_range (All-nil IsItem);
    spelled = (tokens_law line (item_tokens f.item ++ [])).1 (subst (AreTokens (lexemes_of line)) (sym (append-nil (item_tokens f.item))) f.tokens);
  };
  stand = (f.stands, tt);
  says = said_alone f.item ∙ ap option_to_list (f.says ∙ sym is);
}

-- a line of nothing
blank_says : TokensLaw → (all : List Placed) (c : Context) (line : List ℕ) (s : Option Statement) → lexemes_of line ≡ [] → s ≡ None → LineSays all c line s
blank_says tokens_law all c line s empty none = record {
  items = [];
  spelled = record { is_line = tt; in_range = All-nil IsItem; spelled = (tokens_law line []).1 (subst (λ (ls : List Lexeme). AreTokens ls []) (sym empty) tt) };
  stand = tt;
  says = ap option_to_list (sym none);
}

-- the tokens of a label stand alone, and what stands behind them too
record LabelSound (lexemes : List Lexeme) (name : List ℕ) : Type 0 where
  found : LabelFound lexemes name
  name_sound : IsSound found.one (Name name)
  mark_sound : IsSound found.mark colon
  rest_free : AreFree true found.others

free_from : (first : Bool) (lexemes : List Lexeme) → first ≡ true → AreFree first lexemes → AreFree true lexemes
free_from first lexemes is free = subst (λ (b : Bool). AreFree b lexemes) is free

label_sound : (lexemes : List Lexeme) (name : List ℕ) → AreFree true lexemes → leading_label lexemes ≡ Some name → LabelSound lexemes name
label_sound lexemes name free e =
    let f = label_found lexemes name e in
    let frees : AreFree true (f.one ∷ f.mark ∷ f.others) = subst (AreFree true) f.is free in
    let is_mark : is_mark_token f.mark.token ≡ true = ap is_mark_token f.mark_is in
    record {
      found = f;
      name_sound = record { token_is = f.name_is; free = frees.0 refl };
      mark_sound = record { token_is = f.mark_is; free = frees.2.1 is_mark };
      rest_free = free_from (is_mark_token f.mark.token) f.others is_mark frees.2.2;
    }

label_tokens : (lexemes : List Lexeme) (name : List ℕ) (l : LabelSound lexemes name) (tokens : List Token) → AreTokens l.found.others tokens → AreTokens lexemes (Name name ∷ colon ∷ tokens)
label_tokens lexemes name l tokens rest = subst (λ (ls : List Lexeme). AreTokens ls (Name name ∷ colon ∷ tokens)) (sym l.found.is) (l.name_sound, (l.mark_sound, rest))

-- a line of a label alone
labelled_says : TokensLaw → (all : List Placed) (c : Context) (line : List ℕ) (s : Option Statement) (name : List ℕ) (l : LabelSound (lexemes_of line) name) → label_fault all c name ≡ None
    → l.found.others ≡ [] → s ≡ None → LineSays all c line s
labelled_says tokens_law all c line s name l fine empty none = record {
  items = Label name ∷ [];
  spelled = record {
    is_line = tt;
    in_range = All-cons IsItem (Label name) [] l.found.plain (All-nil IsItem);
    spelled = (tokens_law line (Name name ∷ colon ∷ [])).1 (label_tokens (lexemes_of line) name l [] (subst (λ (ls : List Lexeme). AreTokens ls []) (sym empty) tt));
  };
  stand = (fine, tt);
  says = ap option_to_list (sym none);
}

-- a statement stands behind a label as it stands without it
behind_stands : (all : List Placed) (c : Context) (name : List ℕ) (item : Item) (sort : Sort) → sort_of item ≡ Some sort → Stands all c item → Stands all (with_label (Some name) c) item
behind_stands all c name item sort is stands =
    let by = stands_by all c item sort is stands in
    stands_as all (with_label (Some name) c) item sort is (same_place c name sort ∙ by.0) by.1

-- a line of a label and a statement
both_says : TokensLaw → (all : List Placed) (c : Context) (line : List ℕ) (s : Option Statement) (name : List ℕ) (l : LabelSound (lexemes_of line) name) → label_fault all c name ≡ None
    → (st : Statement) → s ≡ Some st → Found all c l.found.others st → LineSays all c line s
both_says tokens_law all c line s name l fine st is f =
    let e = has_sort f.item f.plain in
    record {
      items = Label name ∷ f.item ∷ [];
      spelled = record {
        is_line = statement_alone f.item f.plain;
        in_range = All-cons IsItem (Label name) (f.item ∷ []) l.found.plain (All-cons IsItem f.item [] f.in_range (All-nil IsItem));
        spelled = (tokens_law line (Name name ∷ colon ∷ (item_tokens f.item ++ []))).1
            (label_tokens (lexemes_of line) name l (item_tokens f.item ++ []) (subst (AreTokens l.found.others) (sym (append-nil (item_tokens f.item))) f.tokens));
      };
      stand = (fine, (behind_stands all c name f.item e.sort e.sort_is f.stands, tt));
      says = said_alone f.item ∙ ap option_to_list (f.says ∙ sym is);
    }

module _ (tokens_law : TokensLaw) (free_law : FreeLaw) (fields_law : FieldsLaw) (all : List Placed) (c : Context) (line : List ℕ) (s : Option Statement) where
  bare_by : Says fields_law all c (lexemes_of line) s → LineSays all c line s
  bare_by (Nothing empty none) = blank_says tokens_law all c line s empty none
  bare_by (Statement' st is f) = bare_says tokens_law all c line s st is f

  labelled_by : (name : List ℕ) (l : LabelSound (lexemes_of line) name) → label_fault all c name ≡ None → Says fields_law all c l.found.others s → LineSays all c line s
  labelled_by name l fine (Nothing empty none) = labelled_says tokens_law all c line s name l fine empty none
  labelled_by name l fine (Statement' st is f) = both_says tokens_law all c line s name l fine st is f

  line_by : (label : Option (List ℕ)) → leading_label (lexemes_of line) ≡ label → statement_of_lexemes all c (lexemes_of line) ≡ Ok s → LineSays all c line s
  line_by None is e =
      let u = unless_ok (head_fault all c (leading_label (lexemes_of line))) (left_of (lexemes_of line)) (statement_at (immediate_of all c) c (behind_label (lexemes_of line))) s e in
      bare_by (found fields_law all c (lexemes_of line) s (free_law line)
      (sym (ap (statement_at (immediate_of all c) c) (unlabelled_behind (lexemes_of line) is)) ∙ u.1))
  line_by (Some name) is e =
      let u = unless_ok (head_fault all c (leading_label (lexemes_of line))) (left_of (lexemes_of line)) (statement_at (immediate_of all c) c (behind_label (lexemes_of line))) s e in
      let l = label_sound (lexemes_of line) name (free_law line) is in
      let fine : label_fault all c name ≡ None = sym (ap (head_fault all c) is) ∙ u.0 in
      let behind : behind_label (lexemes_of line) ≡ l.found.others =
      ap (λ (o : Option (List ℕ)). if is_some o then Rattle.spur_asm.specs.Context.behind_two (lexemes_of line) else lexemes_of line) is
      ∙ ap Rattle.spur_asm.specs.Context.behind_two l.found.is in
      labelled_by name l fine (found fields_law all c l.found.others s l.rest_free (sym (ap (statement_at (immediate_of all c) c) behind) ∙ u.1))

pub line_law : TokensLaw → FreeLaw → FieldsLaw → LineLaw
unfolding statement_of_line
line_law tokens_law free_law fields_law all c line s = (
  λ e. line_by tokens_law free_law fields_law all c line s (leading_label (lexemes_of line)) refl e,
  λ says. read_said fields_law all c (lexemes_of line) s says.items (shape says.items says.spelled.is_line) record {
    tokens = tokens_of tokens_law line says.items says.spelled;
    in_range = says.spelled.in_range;
    stand = says.stand;
    says = says.says;
  },
)
