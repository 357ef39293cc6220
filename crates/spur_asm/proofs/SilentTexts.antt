-- A text says a unit exactly where no fault is told of it.
use Rattle.std.proofs.Common.{◌≡◌, ◌∙◌, refl, sym, ap, subst, ℕ, ◌+◌, Bool, true, false, ◌==◌, cond, not, List, [], ◌∷◌, Option, Some, None, Result, Ok, Err, arith}
use Rattle.std.specs.Option.{is_some, option_map}
use Rattle.std.proofs.lemmas.Bool.{ne_eqb}
use Rattle.spur_object.specs.declared.unit.Unit as units
use Rattle.spur_asm.specs.Context.{Placed, first_context, labels_from, next_context}
use Rattle.spur_asm.specs.Draft.{empty_draft, unit_in, with_line_statement}
use Rattle.spur_asm.specs.Fields.{◌>>=◌, misfit}
use Rattle.spur_asm.specs.Item.{Item, Label, Page, Word, Board, Seg, Code}
use Rattle.spur_asm.specs.Line.{statement_of_line}
use Rattle.spur_asm.specs.Says.{Says}
use Rattle.spur_asm.specs.Text.{draft_from, draft_in, lines_of, unit_from, unit_of}
use Rattle.spur_asm.specs.Told.{Told, first_told, told_from, told_of}
use Rattle.spur_asm.specs.declared.draft.Draft.{Draft}
use Rattle.spur_asm.specs.declared.fault.AsmKind.TheVariants.{NoBoard}
use Rattle.spur_asm.specs.declared.fault.Misfit.{Misfit}
use Rattle.spur_asm.specs.declared.statement.Context.{Context}
use Rattle.spur_asm.specs.declared.statement.Statement.{Statement}
use Rattle.spur_asm.proofs.ItemDrafts.{drafted}
use Rattle.spur_asm.proofs.ItemLines.{line_drafted}
use Rattle.spur_asm.proofs.Levels.{behind_item, behind_items}
use Rattle.spur_asm.proofs.LineLaws.{line_is_read, next_is_read}
use Rattle.spur_asm.proofs.Theorems.{reads_what_is_said}

-- ---- a board is begun where one was counted

abbrev has_begun : Draft → Bool
has_begun d = is_some d.begun

-- a draft has begun a board exactly where the count of boards is not 0
abbrev pub IsCounted : Draft → Context → Type 0
IsCounted d c = not (c.boards == 0) ≡ has_begun d

mapped_begun : {X Y : Type 0} (f : X → Y) (o : Option X) → is_some (option_map f o) ≡ is_some o
mapped_begun f None = refl
mapped_begun f (Some x) = refl

next_board : (n : ℕ) → not ((n + 1) == 0) ≡ true
next_board n = rw (ne_eqb (n + 1) 0 (λ e. omega (arith, e))) refl

item_counted : (d : Draft) (c : Context) (item : Item) → IsCounted d c → IsCounted (drafted d (item ∷ [])) (behind_item c item)
item_counted d c (Label name) h = h
item_counted d c (Page segment place prot) h = h
item_counted d c (Word segment offset value) h = h
item_counted d c Board h = next_board c.boards
item_counted d c (Seg first second third fourth) h = h ∙ sym (mapped_begun _ d.begun)
item_counted d c (Code instr label) h = h ∙ sym (mapped_begun _ d.begun)

items_counted : (d : Draft) (c : Context) (items : List Item) → IsCounted d c → IsCounted (drafted d items) (behind_items c items)
items_counted d c [] h = h
items_counted d c (Label name ∷ items) h = items_counted d (behind_item c (Label name)) items (item_counted d c (Label name) h)
items_counted d c (Page segment place prot ∷ items) h = items_counted (drafted d (Page segment place prot ∷ [])) (behind_item c (Page segment place prot)) items (item_counted d c (Page segment place prot) h)
items_counted d c (Word segment offset value ∷ items) h = items_counted (drafted d (Word segment offset value ∷ [])) (behind_item c (Word segment offset value)) items (item_counted d c (Word segment offset value) h)
items_counted d c (Board ∷ items) h = items_counted (drafted d (Board ∷ [])) (behind_item c Board) items (item_counted d c Board h)
items_counted d c (Seg first second third fourth ∷ items) h = items_counted (drafted d (Seg first second third fourth ∷ [])) (behind_item c (Seg first second third fourth)) items (item_counted d c (Seg first second third fourth) h)
items_counted d c (Code instr label ∷ items) h = items_counted (drafted d (Code instr label ∷ [])) (behind_item c (Code instr label)) items (item_counted d c (Code instr label) h)

-- behind a line that was read
pub line_counted : (all : List Placed) (c : Context) (d : Draft) (line : List ℕ) (s : Option Statement) → statement_of_line all c line ≡ Ok s → IsCounted d c → IsCounted (with_line_statement d s) (next_context c line)
line_counted all c d line s e h =
    let says = (line_is_read all c line s).0 e in
    subst (λ (x : Draft). IsCounted x (next_context c line)) (line_drafted d says.items s says.says)
    (subst (λ (x : Context). IsCounted (drafted d says.items) x) (sym (next_is_read c line says.items says.spelled)) (items_counted d c says.items h))

-- ---- what is read, and what is told

abbrev pub is_Ok : Result Draft Misfit → Bool
is_Ok (Ok d) = true
is_Ok (Err m) = false

abbrev pub is_silent : Option Told → Bool
is_silent None = true
is_silent (Some t) = false

read_at_end : (t b : Bool) (d : Draft) → not t ≡ b → is_Ok (cond b (Ok d) (Err (misfit NoBoard 0))) ≡ is_silent (cond t (Some (record { line = 1; column = 1; kind = NoBoard })) None)
read_at_end true true d h = absurd cc
read_at_end true false d h = refl
read_at_end false true d h = refl
read_at_end false false d h = absurd cc

-- a draft is read exactly where nothing is told
pub read_or_told : (all : List Placed) (c : Context) (d : Draft) (number : ℕ) (lines : List (List ℕ)) → IsCounted d c → is_Ok (draft_from all c d lines) ≡ is_silent (told_from all c number lines)
read_or_told all c d number [] h = read_at_end (c.boards == 0) (has_begun d) d h
read_or_told all c d number (line ∷ lines) h =
    by (statement_of_line all c line) refl (λ s e. read_or_told all (next_context c line) (with_line_statement d s) (number + 1) lines (line_counted all c d line s e h))
  where
    next : Context
    next = next_context c line

    by : (r : Result (Option Statement) Misfit) → statement_of_line all c line ≡ r
        → ((s : Option Statement) → statement_of_line all c line ≡ Ok s → is_Ok (draft_from all next (with_line_statement d s) lines) ≡ is_silent (told_from all next (number + 1) lines))
        → is_Ok (r >>= (λ s. draft_from all next (with_line_statement d s) lines)) ≡ is_silent (first_told number line r (told_from all next (number + 1) lines))
    by (Err m) e h = refl
    by (Ok s) e h = h s e

read_text : (text : List ℕ) → is_Ok (draft_in (lines_of text)) ≡ is_silent (told_of text)
read_text text = read_or_told (labels_from first_context (lines_of text)) first_context empty_draft 1 (lines_of text) refl

unit_is_read : (r : Result Draft Misfit) → is_Ok r ≡ true → (u : units.Unit) × (unit_from r ≡ Some u)
unit_is_read (Ok d) e = (unit_in d, refl)
unit_is_read (Err m) e = absurd cc

read_is_unit : (r : Result Draft Misfit) (u : units.Unit) → unit_from r ≡ Some u → is_Ok r ≡ true
read_is_unit (Ok d) u e = refl
read_is_unit (Err m) u e = absurd cc

unit_of_draft : (text : List ℕ) → unit_of text ≡ unit_from (draft_in (lines_of text))
unfolding unit_of
unit_of_draft text = refl

silent : (o : Option Told) → is_silent o ≡ true → o ≡ None
silent None e = refl
silent (Some t) e = absurd cc

pub silent_if_said : (text : List ℕ) (u : units.Unit) → Says text u → told_of text ≡ None
silent_if_said text u said =
    silent (told_of text) (sym (read_text text) ∙ read_is_unit (draft_in (lines_of text)) u (sym (unit_of_draft text) ∙ (reads_what_is_said text u).0 said))

pub said_if_silent : (text : List ℕ) → told_of text ≡ None → (u : units.Unit) × Says text u
said_if_silent text e =
    let u = unit_is_read (draft_in (lines_of text)) (read_text text ∙ ap is_silent e) in
    (u.0, (reads_what_is_said text u.0).1 (unit_of_draft text ∙ u.1))
