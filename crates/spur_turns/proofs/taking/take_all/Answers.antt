use Rattle.std.proofs.Common.{rules, ◌≡◌, ◌∷◌, [], ap, ◌∙◌, ◌++◌, ◌≤◌, vec_capacity}
use Rattle.spur_turns.proofs.HandFacts.{got_bus, got_has, got_next, has_taken_all}
use Rattle.spur_turns.proofs.taking.take_all.Goals as goal

pub loop-next-init : goal.loop-next-init
loop-next-init g c = record {
  table = search rules;
  got = got_bus g.P.Pact.good g.P.Pact.name _ c.args.count _ _ _ c.take_bus-bus.ensures.got c.requires.count c.requires.some_places;
}

pub take_place-place-requires-clause-held : goal.take_place-place-requires-clause-held
take_place-place-requires-clause-held g c = got_has g.P.Pact.good g.P.Pact.name _ _ _ _ _ _ c.requires.free c.loop-next.invariant.got

pub take_place-place-requires-clause-named : goal.take_place-place-requires-clause-named
take_place-place-requires-clause-named g c = (c.requires.named.0, ap (λ v. v.name) c.loop-next.invariant.got.view ∙ c.requires.named.1)

pub loop-next-preserved : goal.loop-next-preserved
loop-next-preserved g c =
    let items : c.push-pushed.new.self.items ≡ c.loop-next.places.items ++ c.take_place-place.result ∷ [] = search rules in
    let grows : vec_capacity c.loop-next.places ≤ vec_capacity c.push-pushed.new.self = search rules in record {
      table = search rules;
      got = got_next g.P.Pact.good g.P.Pact.name _ _ _ _ _ _ _ _ _ c.loop-next.invariant.got c.take_place-place.ensures.got items grows;
    }

pub returns-clause-got : goal.returns-clause-got
returns-clause-got g c =
    let done : c.loop-next.next ≡ c.args.count = search rules in
    has_taken_all g.P.Pact.good g.P.Pact.name _ _ _ _ _ _ _ done c.requires.count c.loop-next.invariant.got
