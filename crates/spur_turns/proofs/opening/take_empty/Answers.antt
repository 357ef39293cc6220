use Rattle.std.proofs.Common.{rules, arith, ◌<◌, ap, refl}
use Rattle.spur_turns.specs.Room.{IsGoodWithRoom, name_with_room}
use Rattle.spur_turns.proofs.BusFacts.{takes_bus_from, takes_place}
use Rattle.spur_turns.proofs.HandFacts.{took_empty_bus}
use Rattle.spur_turns.proofs.opening.take_empty.Goals as goal

pub compare_exchange-requires : goal.compare_exchange-requires
compare_exchange-requires g c =
    let wide = c.requires.words in let e = c.requires.first in (
      c.requires.of_table,
      omega (arith, wide),
      takes_bus_from (IsGoodWithRoom g.P.Pact.good) (name_with_room g.P.Pact.name) _ _ _ _ refl (ap (λ m. m.0.live) e) (ap (λ m. m.0.stock) e) (ap (λ m. m.0.own) e) (ap (λ m. m.1) e),
    )

pub loop-next-init : goal.loop-next-init
loop-next-init g c =
    let took = took_empty_bus (IsGoodWithRoom g.P.Pact.good) _ _ _ _ c.requires.first c.compare_exchange.ensures.2 in record {
      table = search rules;
      held = took.0;
      same = took.1;
    }

pub compare_exchange-requires-in-loop-next : goal.compare_exchange-requires-in-loop-next
compare_exchange-requires-in-loop-next g c =
    let wide = c.requires.words in let all = c.requires.count in let held = c.loop-next.invariant.held in
    let low : c.loop-next.next < c.args.count = search rules in (
      search rules,
      omega (arith, wide, all, low),
      takes_place (IsGoodWithRoom g.P.Pact.good) (name_with_room g.P.Pact.name) _ _ _ _ _ refl held.live held.tall held.own (omega (arith, all, low)),
    )
