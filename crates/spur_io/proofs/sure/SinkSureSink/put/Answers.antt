use Rattle.std.proofs.Common.{◌∙◌, ap, arith, rules}
use Rattle.spur_io.proofs.Pieces.{stored}
use Rattle.spur_io.specs.Store.{Store, after_put}
use Rattle.spur_io.proofs.sure.SinkSureSink.put.Goals as goal

pub returns-clause-stored : goal.returns-clause-stored
returns-clause-stored c =
    stored _ c.args.piece.now c.extend_from_slice.new.self.items c.min-kept.result (omega arith) (omega arith) (search rules)
    ∙ ap (λ (s : Store). after_put s c.args.piece.now) c.self.view_is
