use Rattle.std.proofs.Common.{rules, arith, ◌≡◌, ◌+◌, ◌-◌, ◌∙◌, refl, sym, subst, ℕ}
use Rattle.spur_turns.specs.Hands.{IsReady}
use Rattle.spur_turns.specs.Room.{IsGoodWithRoom, name_with_room}
use Rattle.spur_turns.proofs.HandFacts.{all_given, gives_ready, gives_last, ready_next, same_trans}
use Rattle.spur_turns.proofs.giving.give_back.Goals as goal

pub loop-left-init : goal.loop-left-init
loop-left-init g c = record { table = refl; low = omega arith; ready = subst (λ (n : ℕ). IsReady n c.args.seat.now.me) (sym c.requires.count) c.requires.ready; same = refl }

pub store-requires : goal.store-requires
store-requires g c =
    let wide = c.requires.words in let all = c.requires.count in let low = c.loop-left.invariant.low in
    (c.loop-left.invariant.table ∙ c.requires.of_table, omega (arith, wide, all, low), gives_ready (IsGoodWithRoom g.P.Pact.good) (name_with_room g.P.Pact.name) _ _ _ _ _ (search rules) c.loop-left.invariant.ready)

pub loop-left-preserved : goal.loop-left-preserved
loop-left-preserved g c =
    let inv = c.loop-left.invariant in
    let some_left = c.loop-left-test.true in
    let low = inv.low in
    let less : c.loop-left.left - 1 + 1 ≡ c.loop-left.left = omega (arith, some_left) in
    let next = ready_next _ _ c.loop-left.left c.loop-left.seat.me c.store.new.seat.me inv.ready c.store.ensures.2 in record {
      table = search rules;
      low = omega (arith, low);
      ready = subst (λ (n : ℕ). IsReady n c.store.new.seat.me) (sym less) next.0;
      same = same_trans c.args.seat.now.me.0 c.loop-left.seat.me.0 c.store.new.seat.me.0 inv.same next.1;
    }

pub store-requires-2 : goal.store-requires-2
store-requires-2 g c =
    let wide = c.requires.words in
    let none_left : c.loop-left.left ≡ 0 = search rules in
    (search rules, omega (arith, wide), gives_last (IsGoodWithRoom g.P.Pact.good) (name_with_room g.P.Pact.name) _ _ _ _ (subst (λ (n : ℕ). IsReady (n + 1) c.loop-left.seat.me) none_left c.loop-left.invariant.ready))

pub returns-clause-gave : goal.returns-clause-gave
returns-clause-gave g c =
    let inv = c.loop-left.invariant in
    let none_left : c.loop-left.left ≡ 0 = search rules in
    all_given _ _ c.args.seat.now.me.0 c.loop-left.seat.me _ inv.same (subst (λ (n : ℕ). IsReady (n + 1) c.loop-left.seat.me) none_left inv.ready) c.store-2.ensures.2
