use Rattle.std.proofs.Common.{◌≡◌, ◌∙◌, ap, sym, subst, Some, ℕ, refl, get_or}
use Rattle.std.specs.Prelude.{slice_get, slice_set}
use Rattle.std.proofs.lemmas.Option.{slice_get_read}
use Rattle.spur_flat.specs.Blocks.{board_of}
use Rattle.spur_check.specs.Numbered.{entries_of, noted, numbers_of}
use Rattle.spur_check.proofs.Serves.{at_ok, entries_noted, numbers_noted}
use Rattle.spur_check.proofs.checker.note_open.Goals as goal

pub returns-clause-entries : goal.returns-clause-entries
returns-clause-entries c =
    let list = c.index-lists-board_of.result in
    let at : slice_get c.args.lists.now (board_of c.args.entry.now) ≡ Some list =
    slice_get_read _ _ _ _ refl c.requires.boards (subst (λ (b : ℕ). list ≡ get_or c.args.lists.now b list) c.board_of.ensures c.index-lists-board_of.is) in
    at_ok c.note.result c.note.ensures (λ is. ap (λ (b : ℕ). entries_of (slice_set c.args.lists.now b c.note.new.self)) c.board_of.ensures
    ∙ entries_noted c.args.lists.now c.args.entry.now c.args.number list c.note.new.self at (is ∙ ap (λ x. noted x c.args.entry.now c.args.number) (sym c.index-lists-board_of.is)))

pub returns-clause-numbers : goal.returns-clause-numbers
returns-clause-numbers c =
    let list = c.index-lists-board_of.result in
    let at : slice_get c.args.lists.now (board_of c.args.entry.now) ≡ Some list =
    slice_get_read _ _ _ _ refl c.requires.boards (subst (λ (b : ℕ). list ≡ get_or c.args.lists.now b list) c.board_of.ensures c.index-lists-board_of.is) in
    at_ok c.note.result c.note.ensures (λ is. ap (λ (b : ℕ). numbers_of (slice_set c.args.lists.now b c.note.new.self)) c.board_of.ensures
    ∙ numbers_noted c.args.lists.now c.args.entry.now c.args.number list c.note.new.self at (is ∙ ap (λ x. noted x c.args.entry.now c.args.number) (sym c.index-lists-board_of.is)))
