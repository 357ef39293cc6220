-- What stands before the next line, and the label of a line.
use Rattle.std.proofs.Common.{◌≡◌, ℕ, List, [], ◌∷◌, ◌++◌, Option, Some, None, sym, ap, ◌∙◌, subst, append-nil}
use Rattle.std.specs.List.{All, flat_map}
use Rattle.spur_asm.specs.Item.{Item, Label, IsItem, item_tokens, SpellsLine}
use Rattle.spur_asm.specs.Lexeme.{Lexeme, lexemes_of}
use Rattle.spur_asm.specs.Context.{leading_label, behind_label, sort_in, next_in, next_context, with_label, with_sort}
use Rattle.spur_asm.specs.declared.statement.Context.{Context}
use Rattle.spur_asm.specs.declared.statement.Sort.{Sort}
use Rattle.spur_asm.proofs.Levels.{AreTokens, TokensLaw, label_of, label_of_line, behind_items, NextLaw, LabelLaw, LinesFromTokens}
use Rattle.spur_asm.proofs.LineShapes.{Shape, Blank, Labelled, Bare, Both, shape}
use Rattle.spur_asm.proofs.LineReading.{has_sort, heads, heads_sort, no_lexemes, labels, label_is, unlabelled_behind}
use Rattle.spur_asm.proofs.LinesLaw.{line_law, one_item, first_item, tokens_of}

-- the label and the sort with which a line's tokens begin are those of its items
record Told (lexemes : List Lexeme) (items : List Item) (label : Option (List ℕ)) (sort : Option Sort) : Type 0 where
  label_is : leading_label lexemes ≡ label
  sort_is : sort_in (behind_label lexemes) ≡ sort

module _ (c : Context) (lexemes : List Lexeme) where
  next_by : (items : List Item) (label : Option (List ℕ)) (sort : Option Sort) → Told lexemes items label sort → next_in c lexemes ≡ with_sort sort (with_label label c)
  next_by items label sort t = ap (λ (p : Option Sort × Option (List ℕ)). with_sort p.0 (with_label p.1 c)) (λ k. (t.sort_is k, t.label_is k))

  record NextIs (items : List Item) : Type 0 where
    label_is : leading_label lexemes ≡ label_of_line items
    next_is : next_in c lexemes ≡ behind_items c items

  bare_is : (item : Item) → label_of item ≡ None → AreTokens lexemes (item_tokens item) → NextIs (item ∷ [])
  bare_is item plain tokens =
      let e = has_sort item plain in
      let h = heads item e.sort lexemes e.sort_is tokens in
      let t : Told lexemes (item ∷ []) None (Some e.sort) = record { label_is = h.unlabelled; sort_is = ap sort_in (unlabelled_behind lexemes h.unlabelled) ∙ heads_sort lexemes e.sort _ h } in
      record {
        label_is = h.unlabelled ∙ sym plain;
        next_is = next_by (item ∷ []) None (Some e.sort) t
            ∙ ap (λ (p : Option Sort × Option (List ℕ)). with_sort p.0 (with_label p.1 c)) (λ k. (sym e.sort_is k, sym plain k));
      }

  both_is : (name : List ℕ) (item : Item) → label_of item ≡ None → IsItem (Label name) → AreTokens lexemes (item_tokens (Label name) ++ (item_tokens item ++ [])) → NextIs (Label name ∷ item ∷ [])
  both_is name item plain dotless tokens =
      let e = has_sort item plain in
      let l = labels lexemes name (item_tokens item ++ []) tokens in
      let at = label_is lexemes name (item_tokens item ++ []) dotless l in
      let rest : AreTokens l.others (item_tokens item) = subst (AreTokens l.others) (append-nil (item_tokens item)) l.rest in
      let h = heads item e.sort l.others e.sort_is rest in
      let t : Told lexemes (Label name ∷ item ∷ []) (Some name) (Some e.sort) = record { label_is = at.0; sort_is = ap sort_in at.1 ∙ heads_sort l.others e.sort _ h } in
      record {
        label_is = at.0;
        next_is = next_by (Label name ∷ item ∷ []) (Some name) (Some e.sort) t
            ∙ ap (λ (p : Option Sort × Option (List ℕ)). with_sort p.0 (with_label p.1 (with_label (Some name) c))) (λ k. (sym e.sort_is k, sym plain k));
      }

  is_next : (items : List Item) → Shape items → All IsItem items → AreTokens lexemes (flat_map item_tokens items) → NextIs items
  is_next items (Blank is) range tokens =
      let none = no_lexemes lexemes (subst (λ (xs : List Item). AreTokens lexemes (flat_map item_tokens xs)) is tokens) in
      subst NextIs (sym is) record { label_is = ap leading_label none; next_is = ap (next_in c) none }
  is_next items (Labelled name is) range tokens =
      let l = labels lexemes name [] (subst (λ (xs : List Item). AreTokens lexemes (flat_map item_tokens xs)) is tokens) in
      let at = label_is lexemes name [] (one_item (Label name) (subst (All IsItem) is range)) l in
      let t : Told lexemes (Label name ∷ []) (Some name) None = record { label_is = at.0; sort_is = ap sort_in (at.1 ∙ no_lexemes l.others l.rest) } in
      subst NextIs (sym is) record { label_is = at.0; next_is = next_by (Label name ∷ []) (Some name) None t }
  is_next items (Bare item plain is) range tokens =
      subst NextIs (sym is)
      (bare_is item plain (subst (AreTokens lexemes) (append-nil (item_tokens item)) (subst (λ (xs : List Item). AreTokens lexemes (flat_map item_tokens xs)) is tokens)))
  is_next items (Both name item plain is) range tokens =
      subst NextIs (sym is)
      (both_is name item plain (first_item (Label name) item (subst (All IsItem) is range)) (subst (λ (xs : List Item). AreTokens lexemes (flat_map item_tokens xs)) is tokens))

next_is_of : TokensLaw → (c : Context) (line : List ℕ) (items : List Item) → SpellsLine line items → NextIs c (lexemes_of line) items
next_is_of tokens_law c line items spells =
    is_next c (lexemes_of line) items (shape items spells.is_line) spells.in_range (tokens_of tokens_law line items spells)

next_law : TokensLaw → NextLaw
next_law tokens_law c line items spells = (next_is_of tokens_law c line items spells).next_is

label_law : TokensLaw → LabelLaw
label_law tokens_law line items spells = (next_is_of tokens_law Rattle.spur_asm.specs.Context.first_context line items spells).label_is

-- what lines owe to texts, from what tokens and fields owe to lines
pub lines_from_tokens : LinesFromTokens
lines_from_tokens tokens_law free_law fields_law = (line_law tokens_law free_law fields_law, next_law tokens_law, label_law tokens_law)
