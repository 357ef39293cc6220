use Rattle.std.proofs.Common.{rules, arith, ◌≡◌, ◌+◌, ◌++◌, [], length, refl, ap, ◌∙◌, append-nil}
use Rattle.spur_turns.specs.Shown.{names_of}
use Rattle.spur_turns.proofs.SeatFacts.{kept_free}
use Rattle.spur_turns.proofs.ListedFacts.{joined_first, joined_last, joined_next, joined_names_next, last_seat, others_less}
use Rattle.spur_turns.proofs.closing.join_all.Goals as goal

pub loop-last-init : goal.loop-last-init
loop-last-init g c =
    let none = c.requires.none_joined in record {
      table = refl;
      view = joined_first c.args.first.me.0 _ c.requires.seats;
      hand = c.requires.free.hand;
      names = ap (λ l. names_of c.args.seats.items ++ l) none ∙ append-nil (names_of c.args.seats.items);
      others = c.requires.others;
    }

pub join-requires-clause-last_of_table : goal.join-requires-clause-last_of_table
join-requires-clause-last_of_table g c =
    let its = last_seat _ _ _ _ c.loop-last.invariant.others c.in-Some.ensures.items in
    ap (λ s. s.table) c.last.view_is ∙ its.table_is

pub join-requires-clause-free : goal.join-requires-clause-free
join-requires-clause-free g c =
    let its = last_seat _ _ _ _ c.loop-last.invariant.others c.in-Some.ensures.items in
    let view = c.loop-last.invariant.view in
    let free = c.requires.free in
    (record { live = ap (λ v. v.live) view ∙ free.live; stock = ap (λ v. v.stock) view ∙ free.stock; own = ap (λ v. v.own) view ∙ free.own; hand = c.loop-last.invariant.hand }, kept_free _ _ _ c.last.invariant _ c.last.view_is its.nothing)

pub join-requires-clause-last : goal.join-requires-clause-last
join-requires-clause-last g c =
    let its = last_seat _ _ _ _ c.loop-last.invariant.others c.in-Some.ensures.items in
    let long : length c.loop-last.seats.items ≡ length c.pop.new.self.items + 1 = search rules in
    let seats = ap (λ v. v.seats) c.loop-last.invariant.view in
    let number = ap (λ s. s.number) c.last.view_is ∙ its.number_is in
    omega (arith, long, seats, number)

pub loop-last-preserved : goal.loop-last-preserved
loop-last-preserved g c =
    let inv = c.loop-last.invariant in
    let long : length c.loop-last.seats.items ≡ length c.pop.new.self.items + 1 = search rules in
    let joined = c.join.ensures.joined in
    let view = ap (λ m. m.0) joined in record {
      table = c.join.ensures.of_table ∙ inv.table;
      view = joined_next c.args.first.me.0 c.loop-last.first.me.0 c.join.new.first.me.0 c.last.inside.seat.me.0 _ _ view inv.view long;
      hand = ap (λ m. m.1) joined ∙ inv.hand;
      names = joined_names_next _ _ _ _ c.loop-last.first.me.0 c.join.new.first.me.0 c.last.inside.seat.me.0 c.in-Some.ensures.items c.last.view_is view ∙ inv.names;
      others = others_less _ _ _ _ inv.others c.in-Some.ensures.items;
    }

pub returns-clause-joined : goal.returns-clause-joined
returns-clause-joined g c =
    let inv = c.loop-last.invariant in
    let none : c.loop-last.seats.items ≡ [] = search rules in
    joined_last c.args.first.me.0 c.loop-last.first.me _ _ none inv.view inv.hand inv.names
