use Rattle.std.proofs.Common.{rules, arith, ◌≡◌, ◌≤◌, ℕ, ◌+◌, ◌∷◌, ◌++◌, [], ap, ◌∙◌, refl, Some, length, subst, vec_capacity}
use Rattle.atomic_table.specs.Table.{rest}
use Rattle.spur_turns.specs.declared.table.Item.TheVariants.{Place}
use Rattle.spur_turns.specs.Hands.{IsFilling}
use Rattle.spur_turns.proofs.HandFacts.{fills_first, fills_next, fills_last}
use Rattle.spur_turns.proofs.giving.put_in.Goals as goal

pub loop-place-init : goal.loop-place-init
loop-place-init g c = record {
  table = refl;
  view = refl;
  few = omega arith;
  wide = search rules;
  fills = fills_first _ _ c.requires.hand;
}

pub loop-place-preserved : goal.loop-place-preserved
loop-place-preserved g c =
    let inv = c.loop-place.invariant in
    let items : c.loop-place.places.items ≡ c.pop.new.self.items ++ c.in-Some.place ∷ [] = c.in-Some.ensures.items in
    let long : c.len-slot.result ≡ length c.pop.new.self.items = search rules in record {
      table = search rules;
      view = search rules;
      few = search rules;
      wide = search rules;
      fills = fills_next _ _ c.in-Some.place _ _ (subst (λ l. IsFilling c.args.places.items c.loop-place.seat.me.1 l) items inv.fills)
          (c.put.ensures.hand ∙ ap (λ (n : ℕ). rest c.loop-place.seat.me.1 ++ (n + 1, Some (Place c.in-Some.place)) ∷ []) long);
    }

pub returns-clause-hand : goal.returns-clause-hand
returns-clause-hand g c =
    let inv = c.loop-place.invariant in
    let wide : length c.args.places.items ≤ vec_capacity c.pop.new.self = search rules in
    let none : c.pop.new.self.items ≡ [] = search rules in
    let none_before : c.loop-place.places.items ≡ [] = search rules in record {
      room = c.pop.new.self;
      roomy = record { empty = none; wide = wide };
      hand_is = fills_last _ _ (record { bus = c.args.bus; room = c.pop.new.self }) _ _ inv.fills none_before c.put-2.ensures.hand;
    }
