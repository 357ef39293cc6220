use Rattle.std.proofs.Common.{◌≡◌, ◌∙◌, ◌++◌, ap, refl, length, map, rules, List}
use Rattle.spur_flat.specs.declared.entry.Entry.{Entry}
use Rattle.spur_commute.specs.Logs.{joined_logs}
use Rattle.spur_core.specs.Boards.{emptied, logs_of}
use Rattle.spur_core.specs.World.{start_of}
use Rattle.spur_core.proofs.MergeFacts.{written_back}
use Rattle.spur_core.proofs.MergedFacts.{merged_good}
use Rattle.spur_core.proofs.world.World.merge_with.Goals as goal

pub returns-clause-good : goal.returns-clause-good
returns-clause-good g c =
    let bs = c.args.self.now.boards.items in
    let value = c.deref_mut.ensures.value in
    let long : c.args.self.now.boards.len ≡ length c.pour.new.boards = search rules in
    let boards = written_back c.pour.new.boards bs _ long ∙ c.pour.ensures.boards ∙ ap (map (emptied {C = g.row.C.Denot})) value in
    let history = c.pour.ensures.poured ∙ ap (λ (es : List Entry). es ++ joined_logs (logs_of c.deref_mut.result.now)) c.reserve.ensures.kept
    ∙ ap (λ xs. c.args.self.now.store.history.entries ++ joined_logs (logs_of {C = g.row.C.Denot} xs)) value in
    merged_good g.C.Cpu.meaning g.C.Cpu.state g.C.Cpu.room g.B.Backing.meaning (start_of g.C.Cpu.state g.B.Backing.meaning c.args.self.now.beginning)
    c.args.self.now.store _ bs _ c.requires.good boards history refl
