use Rattle.std.proofs.Common.{arith}
use Rattle.spur_turns.specs.Room.{IsGoodWithRoom, name_with_room}
use Rattle.spur_turns.proofs.SplitFacts.{splits}
use Rattle.spur_turns.proofs.opening.another.Goals as goal

pub split_seat-requires : goal.split_seat-requires
split_seat-requires g c = let wide = c.requires.words in let is = c.requires.free in
    (c.requires.of_table, omega (arith, wide), splits (IsGoodWithRoom g.P.Pact.good) (name_with_room g.P.Pact.name) _ _ c.requires.named.0 is.live c.requires.first is.stock is.own c.requires.named.1)
