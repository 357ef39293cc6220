-- Lines that spell items are read as these, one line after the other.
use Rattle.std.proofs.Common.{◌≡◌, ℕ, List, [], ◌∷◌, ◌++◌, Option, Some, None, Result, Ok, Err, refl, sym, ap, ◌∙◌}
use Rattle.std.specs.List.{AllZip, filter_map, flat_map, fold}
use Rattle.std.specs.Option.{option_to_list}
use Rattle.spur_asm.specs.Item.{Item, Label, Page, Word, Board, Seg, Code, IsStatement, IsLine, SpellsLine}
use Rattle.spur_asm.specs.Context.{Placed, next_context, labels_from, onto_labels}
use Rattle.spur_asm.specs.Line.{statement_of_line}
use Rattle.spur_asm.specs.Draft.{with_line_statement, with_statement}
use Rattle.spur_asm.specs.Fields.{◌>>=◌}
use Rattle.spur_asm.specs.Text.{draft_at_end, draft_from}
use Rattle.spur_asm.specs.declared.draft.Draft.{Draft}
use Rattle.spur_asm.specs.declared.fault.Misfit.{Misfit}
use Rattle.spur_asm.specs.declared.statement.Context.{Context}
use Rattle.spur_asm.specs.declared.statement.Statement.{Statement}
use Rattle.spur_asm.proofs.Levels.{statement_of, label_of_line, behind_item, behind_items, AllStand, LineSays, LineLaw, NextLaw, LabelLaw}
use Rattle.spur_asm.proofs.ItemDrafts.{drafted, drafted_append}
use Rattle.spur_asm.proofs.ItemLabels.{placed_items, placed_append}

-- the items of lines, one after the other
abbrev pub joined : List (List Item) → List Item
joined items = flat_map (λ line. line) items

-- ---- the items of one line

-- the labels of a line's items
placed_statement : (c : Context) (items : List Item) → IsStatement items → placed_items c items ≡ []
placed_statement c [] h = refl
placed_statement c (Label name ∷ items) h = absurd h
placed_statement c (item ∷ []) h = refl
placed_statement c (item ∷ other ∷ items) h = absurd h

placed_line : (c : Context) (items : List Item) → IsLine items → placed_items c items ≡ onto_labels c (label_of_line items) []
placed_line c [] h = refl
placed_line c (Label name ∷ items) h = ap (λ (ls : List Placed). record { board = c.boards; name = name; place = c.codes } ∷ ls) (placed_statement (behind_item c (Label name)) items h)
placed_line c (item ∷ []) h = refl
placed_line c (item ∷ other ∷ items) h = absurd h

onto_more : (c : Context) (o : Option (List ℕ)) (ls : List Placed) → onto_labels c o ls ≡ onto_labels c o [] ++ ls
onto_more c None ls = refl
onto_more c (Some name) ls = refl

-- a line has one statement at most
record HasStatement (items : List Item) : Type 0 where
  statement : Option Statement
  is : filter_map statement_of items ≡ option_to_list statement

one_statement : (items : List Item) → IsStatement items → HasStatement items
one_statement [] h = record { statement = None; is = refl }
one_statement (Label name ∷ items) h = absurd h
one_statement (item ∷ []) h = record { statement = statement_of item; is = refl }
one_statement (item ∷ other ∷ items) h = absurd h

has_statement : (items : List Item) → IsLine items → HasStatement items
has_statement [] h = one_statement [] h
has_statement (Label name ∷ items) h = (let one = one_statement items h in record { statement = one.statement; is = one.is })
has_statement (item ∷ items) h = one_statement (item ∷ items) h

-- what a line's items add to a draft is what its statement adds
by_statements : (d : Draft) (items : List Item) → drafted d items ≡ fold with_statement d (filter_map statement_of items)
by_statements d [] = refl
by_statements d (Label name ∷ items) = by_statements d items
by_statements d (Page segment place prot ∷ items) = by_statements (drafted d (Page segment place prot ∷ [])) items
by_statements d (Word segment offset value ∷ items) = by_statements (drafted d (Word segment offset value ∷ [])) items
by_statements d (Board ∷ items) = by_statements (drafted d (Board ∷ [])) items
by_statements d (Seg first second third fourth ∷ items) = by_statements (drafted d (Seg first second third fourth ∷ [])) items
by_statements d (Code instr label ∷ items) = by_statements (drafted d (Code instr label ∷ [])) items

by_line : (d : Draft) (s : Option Statement) → fold with_statement d (option_to_list s) ≡ with_line_statement d s
by_line d None = refl
by_line d (Some s) = refl

pub line_drafted : (d : Draft) (items : List Item) (s : Option Statement) → filter_map statement_of items ≡ option_to_list s → drafted d items ≡ with_line_statement d s
line_drafted d items s says = by_statements d items ∙ ap (λ (ss : List Statement). fold with_statement d ss) says ∙ by_line d s

-- ---- items that stand, one line after the other

stand_parts : (all : List Placed) (c : Context) (items others : List Item) → AllStand all c (items ++ others) → AllStand all c items × AllStand all (behind_items c items) others
stand_parts all c [] others h = (tt, h)
stand_parts all c (item ∷ items) others h = (let on = stand_parts all (behind_item c item) items others h.1 in ((h.0, on.0), on.1))

stand_append : (all : List Placed) (c : Context) (items others : List Item) → AllStand all c items → AllStand all (behind_items c items) others → AllStand all c (items ++ others)
stand_append all c [] others h more = more
stand_append all c (item ∷ items) others h more = (h.0, stand_append all (behind_item c item) items others h.1 more)

module _ (law : LineLaw) (next : NextLaw) (label : LabelLaw) where
  -- ---- the labels of all lines

  pub labels_are : (c : Context) (lines : List (List ℕ)) (items : List (List Item)) → AllZip SpellsLine lines items → labels_from c lines ≡ placed_items c (joined items)
  labels_are c [] [] h = refl
  labels_are c [] (one ∷ items) h = absurd h
  labels_are c (line ∷ lines) [] h = absurd h
  labels_are c (line ∷ lines) (one ∷ items) h =
      let rest : List Placed = labels_from (next_context c line) lines in
      ap (λ (o : Option (List ℕ)). onto_labels c o rest) (label line one h.0)
      ∙ onto_more c (label_of_line one) rest
      ∙ ap (λ (ls : List Placed). ls ++ rest) (sym (placed_line c one h.0.is_line))
      ∙ ap (λ (x : Context). placed_items c one ++ labels_from x lines) (next c line one h.0)
      ∙ ap (λ (ls : List Placed). placed_items c one ++ ls) (labels_are (behind_items c one) lines items h.1)
      ∙ sym (placed_append c one (joined items))

  -- ---- lines that are spelled are read

  draft_read : (all : List Placed) (c : Context) (d : Draft) (line : List ℕ) (lines : List (List ℕ)) (s : Option Statement) → statement_of_line all c line ≡ Ok s
      → draft_from all c d (line ∷ lines) ≡ draft_from all (next_context c line) (with_line_statement d s) lines
  draft_read all c d line lines s read = ap (λ (r : Result (Option Statement) Misfit). r >>= (λ (t : Option Statement). draft_from all (next_context c line) (with_line_statement d t) lines)) read

  pub lines_drafted : (all : List Placed) (c : Context) (d : Draft) (lines : List (List ℕ)) (items : List (List Item)) → AllZip SpellsLine lines items → AllStand all c (joined items)
      → draft_from all c d lines ≡ draft_at_end (drafted d (joined items))
  lines_drafted all c d [] [] h stand = refl
  lines_drafted all c d [] (one ∷ items) h stand = absurd h
  lines_drafted all c d (line ∷ lines) [] h stand = absurd h
  lines_drafted all c d (line ∷ lines) (one ∷ items) h stand =
      let parts = stand_parts all c one (joined items) stand in
      let has = has_statement one h.0.is_line in
      let read : statement_of_line all c line ≡ Ok has.statement = (law all c line has.statement).1 (record { items = one; spelled = h.0; stand = parts.0; says = has.is }) in
      draft_read all c d line lines has.statement read
      ∙ ap (λ (x : Context). draft_from all x (with_line_statement d has.statement) lines) (next c line one h.0)
      ∙ ap (λ (e : Draft). draft_from all (behind_items c one) e lines) (sym (line_drafted d one has.statement has.is))
      ∙ lines_drafted all (behind_items c one) (drafted d one) lines items h.1 parts.1
      ∙ ap draft_at_end (sym (drafted_append d one (joined items)))

  -- ---- lines that are read are spelled

  pub record AreSpelled (all : List Placed) (c : Context) (d : Draft) (lines : List (List ℕ)) (end : Draft) : Type 0 where
    pub items : List (List Item)
    pub spelled : AllZip SpellsLine lines items
    pub stand : AllStand all c (joined items)
    pub draft : draft_at_end (drafted d (joined items)) ≡ Ok end

  spelled_more : (all : List Placed) (c : Context) (d : Draft) (line : List ℕ) (lines : List (List ℕ)) (end : Draft) (s : Option Statement) (says : LineSays all c line s)
      → AreSpelled all (behind_items c says.items) (drafted d says.items) lines end → AreSpelled all c d (line ∷ lines) end
  spelled_more all c d line lines end s says on = record {
    items = says.items ∷ on.items;
    spelled = (says.spelled, on.spelled);
    stand = stand_append all c says.items (joined on.items) says.stand on.stand;
    draft = ap draft_at_end (drafted_append d says.items (joined on.items)) ∙ on.draft;
  }

  spelled_from : (all : List Placed) (c : Context) (d : Draft) (line : List ℕ) (lines : List (List ℕ)) (end : Draft) (r : Result (Option Statement) Misfit)
      → ((x : Context) (e : Draft) → draft_from all x e lines ≡ Ok end → AreSpelled all x e lines end)
      → statement_of_line all c line ≡ r → (r >>= (λ (t : Option Statement). draft_from all (next_context c line) (with_line_statement d t) lines)) ≡ Ok end → AreSpelled all c d (line ∷ lines) end
  spelled_from all c d line lines end (Err m) on read e = absurd cc
  spelled_from all c d line lines end (Ok s) on read e =
      let says = (law all c line s).0 read in
      let behind : draft_from all (behind_items c says.items) (drafted d says.items) lines ≡ Ok end =
      ap (λ (x : Draft). draft_from all (behind_items c says.items) x lines) (line_drafted d says.items s says.says)
      ∙ ap (λ (x : Context). draft_from all x (with_line_statement d s) lines) (sym (next c line says.items says.spelled))
      ∙ e in
      spelled_more all c d line lines end s says (on (behind_items c says.items) (drafted d says.items) behind)

  pub lines_spelled : (all : List Placed) (c : Context) (d : Draft) (lines : List (List ℕ)) (end : Draft) → draft_from all c d lines ≡ Ok end → AreSpelled all c d lines end
  lines_spelled all c d [] end e = record { items = []; spelled = tt; stand = tt; draft = e }
  lines_spelled all c d (line ∷ lines) end e =
      spelled_from all c d line lines end (statement_of_line all c line) (λ x f g. lines_spelled all x f lines end g) refl e
