use Rattle.std.proofs.Common.{rules, ◌≡◌, ◌∷◌}
use Rattle.spur_turns.proofs.ListedFacts.{front_is, removed_first}
use Rattle.spur_turns.proofs.closing.front.Goals as goal

pub returns : goal.returns
returns g c =
    let items : c.args.seats.items ≡ c.remove.result ∷ c.remove.new.self.items = removed_first _ _ _ (search rules) c.remove.ensures.value c.remove.ensures.items in
    front_is _ _ _ _ _ _ _ c.seat.invariant c.seat.view_is c.requires.idle items
