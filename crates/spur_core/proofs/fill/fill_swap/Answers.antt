use Rattle.spur_core.proofs.FillFacts.{filled_all}
use Rattle.spur_core.proofs.fill.fill_swap.Goals as goal

pub returns-clause-filled : goal.returns-clause-filled
returns-clause-filled g c =
    filled_all (g.B.Backing.meaning c.args.backing.now) (g.B.Backing.meaning c.prepare.new.self) (g.B.Backing.meaning c.write_pages.new.backing) c.args.swap.now c.args.slots c.requires
    c.in_ok-prepare.ensures.zeros c.in_ok-write_pages.ensures.written
