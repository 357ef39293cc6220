use Rattle.std.proofs.Common.{◌∙◌, sym, arith}
use Rattle.spur_asm.proofs.CursorFacts.{takes_first, takes_nothing}
use Rattle.spur_asm.proofs.cursor.Cursor.next.Goals as goal

pub returns-in_default : goal.returns-in_default
returns-in_default c = sym c.self.view_is ∙ takes_nothing c.self.inside.behind_word c.blanks-skipped.result c.self.inside.rest.now _ c.blanks-skipped.ensures.len c.split_at.ensures.back c.in_default.len_below

pub returns : goal.returns
returns c =
    sym c.self.view_is ∙ takes_first c.self.inside.behind_word c.is_glued-glued.result c.begins_word-is_word.result c.blanks-skipped.result c.self.inside.rest.now c.split_at.result.1.now c.front.result.1.now _
    c.blanks-skipped.ensures.len c.split_at.ensures.back (omega arith) c.begins_word-is_word.ensures c.is_glued-glued.ensures c.front.ensures.token c.front.ensures.rest
