use Rattle.std.proofs.Common.{arith, ap, sym, ◌∙◌}
use Rattle.spur_turns.proofs.SeatFacts.{kept_free, kept_took_all, shown_took_all}
use Rattle.spur_turns.proofs.turns.Turns.take_all.Goals as goal

pub invariant_of-seat : goal.invariant_of-seat
invariant_of-seat g c =
    let same = ap (λ z. z.table) c.seat.view_is ∙ (c.requires.table ∙ sym (ap (λ t. t.table) c.self.view_is)) in
    let slots = ap (λ t. t.slots) same in
    let some_slots = c.self.invariant in
    let count = c.slot_count-count.ensures in
    kept_took_all g.P.Pact.good g.P.Pact.name _ _ _ _ _ _ _ _ _ c.seat.invariant c.take_all.ensures.of_table (kept_free _ _ _ c.seat.invariant _ c.seat.view_is c.requires.idle) (omega (arith, slots, some_slots, count)) c.take_all.ensures.got

pub returns-clause-took : goal.returns-clause-took
returns-clause-took g c =
    shown_took_all g.P.Pact.good g.P.Pact.name _ _ _ _ _ _ _ _ _ c.seat.view_is c.take_all.ensures.of_table (kept_free _ _ _ c.seat.invariant _ c.seat.view_is c.requires.idle) c.take_all.ensures.got
