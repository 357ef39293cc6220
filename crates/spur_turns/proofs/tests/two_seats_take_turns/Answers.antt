use Rattle.std.proofs.Common.{rules, ◌≡◌, ◌++◌, ◌∷◌, []}
use Rattle.spur_turns.proofs.TestFacts.{turned_idle, two_back, two_seats}
use Rattle.spur_turns.proofs.tests.two_seats_take_turns.Goals as goal

pub find_in_turn-requires-clause-first : goal.find_in_turn-requires-clause-first
find_in_turn-requires-clause-first g c =
    let items : c.in-Ok.made.1.items ≡ c.pop.new.self.items ++ c.unwrap-second.result ∷ [] = search rules in
    let items1 : c.pop.new.self.items ≡ c.pop-2.new.self.items ++ c.unwrap-first.result ∷ [] = search rules in
    let two : c.in-Ok.made.0.places ≡ 2 = search rules in
    let both = two_seats c.in-Ok.made.0 _ _ _ _ _ c.in-Ok.ensures.idle items items1 two in
    (both.0.table_is, both.0.nothing)

pub find_in_turn-requires-clause-second : goal.find_in_turn-requires-clause-second
find_in_turn-requires-clause-second g c =
    let items : c.in-Ok.made.1.items ≡ c.pop.new.self.items ++ c.unwrap-second.result ∷ [] = search rules in
    let items1 : c.pop.new.self.items ≡ c.pop-2.new.self.items ++ c.unwrap-first.result ∷ [] = search rules in
    let two : c.in-Ok.made.0.places ≡ 2 = search rules in
    let both = two_seats c.in-Ok.made.0 _ _ _ _ _ c.in-Ok.ensures.idle items items1 two in
    (both.1.table_is, both.1.nothing)

pub close-bus-requires : goal.close-bus-requires
close-bus-requires g c =
    let items : c.in-Ok.made.1.items ≡ c.pop.new.self.items ++ c.unwrap-second.result ∷ [] = search rules in
    let items1 : c.pop.new.self.items ≡ c.pop-2.new.self.items ++ c.unwrap-first.result ∷ [] = search rules in
    let two : c.in-Ok.made.0.places ≡ 2 = search rules in
    let both = two_seats c.in-Ok.made.0 _ _ _ _ _ c.in-Ok.ensures.idle items items1 two in
    let pushed : c.push-pushed.new.self.items ≡ c.pop-2.new.self.items ++ c.find_in_turn.new.first ∷ [] = search rules in
    let pushed1 : c.push-pushed-2.new.self.items ≡ c.push-pushed.new.self.items ++ c.find_in_turn.new.second ∷ [] = search rules in
    record { seats = two_back c.in-Ok.made.0 _ _ _ _ _ both.2 two (turned_idle c.in-Ok.made.0 _ _ _ both.0 c.find_in_turn.ensures.first) (turned_idle c.in-Ok.made.0 _ _ _ both.1 c.find_in_turn.ensures.second) pushed pushed1 }
