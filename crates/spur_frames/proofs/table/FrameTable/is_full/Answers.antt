use Rattle.std.proofs.Common.{◌∙◌, ◌==◌, ℕ, ap}
use Rattle.std.specs.Prelude.{is_none}
use Rattle.spur_frames.specs.Frames.{Frames, least_free}
use Rattle.spur_frames.proofs.CountFacts.{counted_none}
use Rattle.spur_frames.proofs.table.FrameTable.is_full.Goals as goal

pub returns : goal.returns
returns c = record {
  full = ap (λ (n : ℕ). n == 0) c.self.invariant.1 ∙ counted_none c.self.inside.first c.self.inside.held.items ∙ ap (λ (f : Frames). is_none (least_free f)) c.self.view_is;
}
