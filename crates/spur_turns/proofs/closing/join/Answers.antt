use Rattle.std.proofs.Common.{arith}
use Rattle.spur_turns.specs.Room.{IsGoodWithRoom, name_with_room}
use Rattle.spur_turns.proofs.SplitFacts.{joins}
use Rattle.spur_turns.proofs.closing.join.Goals as goal

pub join_seat-requires : goal.join_seat-requires
join_seat-requires g c = let wide = c.requires.words in let is = c.requires.free.0 in let its = c.requires.free.1 in (
  c.requires.first_of_table,
  c.requires.last_of_table,
  its.hand,
  omega (arith, wide),
  joins (IsGoodWithRoom g.P.Pact.good) (name_with_room g.P.Pact.name) _ _ _ _ c.requires.named.0 is.live c.requires.first is.stock is.own c.requires.named.1 its.live its.stock its.own c.requires.last,
)
