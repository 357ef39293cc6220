use Rattle.std.proofs.Common.{◌≡◌, ◌∙◌, ap, sym}
use Rattle.spur_frames.specs.Frames.{free_count, least_free}
use Rattle.spur_frames.proofs.CountFacts.{none_counted}
use Rattle.spur_frames.proofs.table.FrameTable.free_one.Goals as goal

pub returns-then-self-eq0-clause-least : goal.returns-then-self-eq0-clause-least
returns-then-self-eq0-clause-least c =
    let none : free_count c.self.inside.held.items ≡ 0 = sym c.self.invariant.1 ∙ c.if-self-eq0.true in
    sym (none_counted c.self.inside.first c.self.inside.held.items none) ∙ ap least_free c.self.view_is
