use Rattle.std.proofs.Common.{◌≡◌, ◌<◌, length, sym, ap, ◌∙◌, refl, arith, add-one, length-set, Some}
use Rattle.std.specs.Prelude.{slice_get}
use Rattle.std.proofs.lemmas.Option.{slice_get_read}
use Rattle.spur_probe.specs.Shown.{wants_stop}
use Rattle.spur_probe.proofs.ShownFacts.{shown_more, shown_all, shown_stop, one, not_stop}
use Rattle.spur_probe.proofs.show.show_entry.Goals as goal

pub loop-i-init : goal.loop-i-init
loop-i-init g c = record { many = refl; shown = record { is = refl } }

pub returns-in-Stop-clause-moved : goal.returns-in-Stop-clause-moved
returns-in-Stop-clause-moved g c =
    let inside : c.loop-i.i < length c.loop-i.probes.items = let m = c.loop-i.invariant.many in grind arith in
    let at : slice_get c.loop-i.probes.items c.loop-i.i ≡ Some c.index_mut.result.now = slice_get_read _ _ _ _ refl inside c.index_mut.ensures.value in
    let told = one _ _ _ _ _ _ _ _ c.show.ensures.moved c.show.ensures.same_rule c.show.ensures.same_reading in
    (shown_stop _ _ _ _ _ _ c.show.new.probe c.loop-i.invariant.shown at told.0 (told.1 ∙ ap wants_stop c.in-Stop.is)).0

pub returns-in-Stop-clause-stopped : goal.returns-in-Stop-clause-stopped
returns-in-Stop-clause-stopped g c =
    let inside : c.loop-i.i < length c.loop-i.probes.items = let m = c.loop-i.invariant.many in grind arith in
    let at : slice_get c.loop-i.probes.items c.loop-i.i ≡ Some c.index_mut.result.now = slice_get_read _ _ _ _ refl inside c.index_mut.ensures.value in
    let told = one _ _ _ _ _ _ _ _ c.show.ensures.moved c.show.ensures.same_rule c.show.ensures.same_reading in
    sym (shown_stop _ _ _ _ _ _ c.show.new.probe c.loop-i.invariant.shown at told.0 (told.1 ∙ ap wants_stop c.in-Stop.is)).1

pub loop-i-preserved : goal.loop-i-preserved
loop-i-preserved g c =
    let inside : c.loop-i.i < length c.loop-i.probes.items = let m = c.loop-i.invariant.many in grind arith in
    let at : slice_get c.loop-i.probes.items c.loop-i.i ≡ Some c.index_mut.result.now = slice_get_read _ _ _ _ refl inside c.index_mut.ensures.value in
    let told = one _ _ _ _ _ _ _ _ c.show.ensures.moved c.show.ensures.same_rule c.show.ensures.same_reading in
    record {
      many = length-set _ _ _ ∙ c.loop-i.invariant.many;
      shown = shown_more _ _ _ _ _ _ _ c.show.new.probe (add-one _) c.loop-i.invariant.shown at told.0 (told.1 ∙ not_stop _ c.in_default.not-Stop);
    }

pub returns-clause-moved : goal.returns-clause-moved
returns-clause-moved g c =
    let whole : c.loop-i.i ≡ length c.loop-i.probes.items = let m = c.loop-i.invariant.many in grind arith in
    (shown_all _ _ _ _ _ whole c.loop-i.invariant.shown).0

pub returns-clause-stopped : goal.returns-clause-stopped
returns-clause-stopped g c =
    let whole : c.loop-i.i ≡ length c.loop-i.probes.items = let m = c.loop-i.invariant.many in grind arith in
    sym (shown_all _ _ _ _ _ whole c.loop-i.invariant.shown).1
