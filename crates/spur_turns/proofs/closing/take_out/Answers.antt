use Rattle.std.proofs.Common.{rules, arith, ◌≡◌, ◌+◌, ◌++◌, ◌∷◌, ◌<◌, [], length, ap, ◌∙◌, sym, ⊎_elim, Some, ℕ, get_or, false, get_or-set_other, slice_get}
use mathlib.Core.Option.{some}
use lib.ListN.{get_elem?}
use Rattle.spur_turns.specs.declared.table.Item.TheVariants.{Place}
use Rattle.spur_turns.specs.Room.{IsGoodWithRoom, name_with_room}
use Rattle.spur_turns.proofs.ListFacts.{got_there}
use Rattle.spur_turns.proofs.ListedFacts.{ended_good, gone_next, got_snoc}
use Rattle.spur_turns.proofs.closing.take_out.Goals as goal

pub place_at-place-requires-clause-value : goal.place_at-place-requires-clause-value
place_at-place-requires-clause-value g c =
    let e = c.requires.last.1 in
    let many = e.many in
    let long = c.args.closed.slots.ok.0 in
    let low : c.loop-next.next + 1 < c.args.closed.slots.len = search rules in
    let t = got_there e.places c.loop-next.next (omega (arith, many, long, low)) in
    (t.0, ap (λ l. get_elem? l (c.loop-next.next + 1)) c.loop-next.invariant.items ∙ e.place_is c.loop-next.next t.0 t.1)

pub loop-next-preserved : goal.loop-next-preserved
loop-next-preserved g c =
    let inv = c.loop-next.invariant in
    let at = c.place_at-place.ensures in
    let items : c.push-pushed.new.self.items ≡ c.loop-next.places.items ++ c.place_at-place.result ∷ [] = search rules in
    let many = inv.many in record {
      items = at.items ∙ inv.items;
      len = at.len ∙ inv.len;
      gone = λ k h. ap (λ fs. get_or fs k false) at.taken ∙ gone_next c.loop-next.closed.slots.filled (c.loop-next.next + 1) inv.gone k h;
      there = λ k a b. ap (λ fs. get_or fs k false) at.taken ∙ (get_or-set_other c.loop-next.closed.slots.filled (c.loop-next.next + 1) k false false (λ q. omega (arith, a, q)) ∙ inv.there k (omega (arith, a)) b);
      many = search rules;
      wide = search rules;
      same = λ j p e. ⊎_elim (λ (t : slice_get c.loop-next.places.items j ≡ Some p). inv.same j p t)
          (λ (t : (j ≡ length c.loop-next.places.items) × (c.place_at-place.result ≡ p)). ap (λ (n : ℕ). get_elem? c.args.closed.slots.items (n + 1)) (t.0 ∙ many) ∙ (ap (λ l. get_elem? l (c.loop-next.next + 1)) (sym inv.items) ∙ (at.value ∙ ap (λ z. some (Some (Place z))) t.1)))
          (got_snoc c.loop-next.places.items c.place_at-place.result p j (ap (λ l. slice_get l j) (sym items) ∙ e));
    }

pub returns-clause-good : goal.returns-clause-good
returns-clause-good g c =
    let inv = c.loop-next.invariant in
    let long = c.args.closed.slots.ok.0 in
    let all : c.loop-next.next + 1 ≡ c.args.closed.slots.len = search rules in
    let many = inv.many in
    (ended_good (IsGoodWithRoom g.P.Pact.good) (name_with_room g.P.Pact.name) c.args.closed.slots.items c.requires.last.0 c.bus_at-bus.result c.loop-next.places.items c.requires.last.1 c.bus_at-bus.ensures.value (omega (arith, many, long, all)) inv.same).is_good
