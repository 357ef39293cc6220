use Rattle.std.proofs.Common.{◌∙◌, sym, subst, ℕ}
use Rattle.std.specs.Prelude.{IsTrue}
use Rattle.spur_addr.specs.PageEntry.{is_readable}
use Rattle.spur_pager.proofs.StandingFacts.{is_entry}
use Rattle.spur_pager.proofs.standing.standing_entry.Goals as goal

pub unreachable-requires : goal.unreachable-requires
unreachable-requires g c =
    is_entry c.standing_word.result c.in-Err.field-0
    (subst (λ (n : ℕ). IsTrue (is_readable n)) (sym c.standing_word.ensures) (c.requires.walk.tables.readable c.args.page c.requires.user))
    (sym c.read.ensures ∙ c.in-Err.is)
