use Rattle.std.proofs.Common.{◌∙◌, ap, subst, sym, ℕ, List, Option, rules, slice_set}
use Rattle.std.specs.Prelude.{◌≢◌}
use Rattle.spur_cache.specs.declared.line.Line.{Line}
use Rattle.spur_snoop.specs.declared.BlockState.TheVariants.{Invalid}
use Rattle.spur_cache.specs.Lines.{IsCache, in_live_state, index_of}
use Rattle.spur_cache.proofs.CacheFacts.{cache-changed, in_live_state-keeps, place_is}
use Rattle.spur_cache.proofs.cache.Cache.set_state.Goals as goal

pub invariant_of-self : goal.invariant_of-self
invariant_of-self c =
    let lines : List (Option Line) = c.self.inside.lines.items in
    let slot : ℕ = c.slot-slot.result in
    let place : Option Line = c.index_mut.result.now in
    let within = c.slot-slot.ensures.within in
    let is = place_is lines c.args.self.now c.args.at slot place c.self.view_is (c.slot-slot.ensures.value ∙ ap (index_of c.args.self.now) c.block.ensures.value) within c.index_mut.ensures.value c.requires in
    let live : c.args.state ≢ Invalid = search rules in
    subst (λ (p : Option Line). IsCache (slice_set lines slot p)) (sym c.put_state.ensures) (cache-changed lines c.args.at slot (in_live_state c.args.state) place c.self.invariant is (in_live_state-keeps c.args.state live))
