use Rattle.std.proofs.Common.{sym, subst}
use Rattle.spur_turns.specs.Room.{IsGoodWithRoom, name_with_room}
use Rattle.spur_turns.specs.Seats.{AreNamed}
use Rattle.spur_turns.proofs.ListedFacts.{front_closes}
use Rattle.spur_turns.proofs.turns.Turns.close.Goals as goal

pub take_out-bus-requires-clause-last : goal.take_out-bus-requires-clause-last
take_out-bus-requires-clause-last g c =
    let is = c.front-first.ensures in
    (is.named.0, (front_closes (IsGoodWithRoom g.P.Pact.good) (name_with_room g.P.Pact.name) _ _ _ _ _ _ _ _ _ is c.join_all-first.ensures.joined c.close_with-closed.ensures.values.2).0)

pub returns-clause-named : goal.returns-clause-named
returns-clause-named g c =
    let is = c.front-first.ensures in
    let ends = front_closes (IsGoodWithRoom g.P.Pact.good) (name_with_room g.P.Pact.name) _ _ _ _ _ _ _ _ _ is c.join_all-first.ensures.joined c.close_with-closed.ensures.values.2 in
    subst (λ x. AreNamed x c.args.seats.items) (sym (c.take_out-bus.ensures.name is.named.0 ends.0)) ends.1
