use Rattle.std.proofs.Common.{◌≡◌, ◌<◌, length, ◌∙◌, refl, arith, add-one, length-set, Some}
use Rattle.std.specs.Prelude.{slice_get}
use Rattle.std.proofs.lemmas.Option.{slice_get_read}
use Rattle.spur_probe.proofs.MovedFacts.{moved_all, moved_more}
use Rattle.spur_probe.proofs.ShownFacts.{one}
use Rattle.spur_probe.proofs.show.show_to_each.Goals as goal

pub loop-i-init : goal.loop-i-init
loop-i-init g c = record { many = refl; shown = record { is = refl } }

pub loop-i-preserved : goal.loop-i-preserved
loop-i-preserved g c =
    let inside : c.loop-i.i < length c.loop-i.probes.items = let m = c.loop-i.invariant.many in grind arith in
    let at : slice_get c.loop-i.probes.items c.loop-i.i ≡ Some c.index_mut.result.now = slice_get_read _ _ _ _ refl inside c.index_mut.ensures.value in
    let told = one _ _ _ _ _ _ _ _ c.show-wish.ensures.moved c.show-wish.ensures.same_rule c.show-wish.ensures.same_reading in
    record {
      many = length-set _ _ _ ∙ c.loop-i.invariant.many;
      shown = moved_more _ _ _ _ _ _ _ c.show-wish.new.probe (add-one _) c.loop-i.invariant.shown at told.0;
    }

pub returns : goal.returns
returns g c =
    let whole : c.loop-i.i ≡ length c.loop-i.probes.items = let m = c.loop-i.invariant.many in grind arith in
    moved_all _ _ _ _ _ whole c.loop-i.invariant.shown
