use Rattle.std.proofs.Common.{arith, refl}
use Rattle.spur_turns.specs.Room.{IsGoodWithRoom, name_with_room}
use Rattle.spur_turns.proofs.BusFacts.{takes_bus_from}
use Rattle.spur_turns.proofs.taking.try_bus.Goals as goal

pub compare_exchange-found-requires : goal.compare_exchange-found-requires
compare_exchange-found-requires g c =
    let wide = c.requires.words in let free = c.requires.free in (
      c.requires.of_table,
      omega (arith, wide),
      takes_bus_from (IsGoodWithRoom g.P.Pact.good) (name_with_room g.P.Pact.name) _ _ _ _ refl free.live free.stock free.own free.hand,
    )
