use Rattle.std.proofs.Common.{◌∙◌, arith, drop, rules, sym}
use Rattle.std.proofs.lemmas.List.{drop_all}
use Rattle.spur_io.proofs.Pieces.{took}
use Rattle.spur_io.proofs.sure.SourceSureSource.take.Goals as goal

pub returns-clause-bytes : goal.returns-clause-bytes
returns-clause-bytes c =
    let bytes = c.self.inside.bytes.items in
    let n = c.min-n.result in (
      sym c.self.view_is ∙ took bytes c.copy_from_slice.new.self (drop n c.args.into.now) c.self.inside.at n (omega arith) (search rules),
      λ none some. drop_all _ bytes (omega arith),
    )
