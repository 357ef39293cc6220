use Rattle.std.proofs.Common.{rules, arith, refl}
use Rattle.spur_turns.specs.Room.{IsGoodWithRoom, name_with_room}
use Rattle.spur_turns.proofs.BusFacts.{takes_place}
use Rattle.spur_turns.proofs.HandFacts.{took_from}
use Rattle.spur_turns.proofs.taking.try_place.Goals as goal

pub compare_exchange-found-requires : goal.compare_exchange-found-requires
compare_exchange-found-requires g c =
    let wide = c.requires.words in let low = c.requires.low in let held = c.requires.held in (
      c.requires.of_table,
      omega (arith, wide, low),
      takes_place (IsGoodWithRoom g.P.Pact.good) (name_with_room g.P.Pact.name) _ _ _ _ _ refl held.live held.tall held.own low,
    )

pub overflow_cast-result : goal.overflow_cast-result
overflow_cast-result g c = let low = (c.compare_exchange-found.ensures.2.miss c.if-found-ne0.true).1 in omega (arith, low)

pub returns-clause-got : goal.returns-clause-got
returns-clause-got g c = took_from g.P.Pact.good g.P.Pact.name _ _ _ _ _ _ _ _ c.in-Some-Place.place c.compare_exchange-found.ensures.2 c.if-found-ne0.false refl c.requires.held.tall c.exchange.ensures.2 c.exchange.ensures.3 (search rules)
