use Rattle.std.proofs.Common.{◌+◌, ◌++◌, arith, length-append, length-take, rules, take}
use Rattle.spur_io.proofs.Chain.{Loses-then}
use Rattle.spur_io.specs.Told.{LosesAtMost}
use Rattle.spur_io.proofs.whole.read_all.Goals as goal

-- the bytes of the call for which there was no memory were taken too
pub returns-in_err-map_err-in-Ok-clause-front : goal.returns-in_err-map_err-in-Ok-clause-front
returns-in_err-map_err-in-Ok-clause-front g c =
    let all = c.loop-piece.all.items in
    let more = take c.in-Ok.n c.take.new.into in
    let read = c.in-Ok.ensures.bound in
    let h : LosesAtMost (g.S.Source.left c.args.source.now) (g.S.Source.left c.take.new.self) (c.args.limit + 1) = (
      all ++ more,
      Loses-then _ _ _ _ _ c.loop-piece.invariant.bytes c.in-Ok.ensures.bytes.0,
      omega (
        arith,
        length-append all more,
        read.0,
        read.1,
        c.take.auto.into,
        length-take c.min-room.result c.loop-piece.piece,
        c.min-room.ensures,
        c.len-in-loop-piece.ensures,
        c.loop-piece.all.ok.0,
        c.loop-piece.invariant.long,
      ),
    ) in
    search rules
