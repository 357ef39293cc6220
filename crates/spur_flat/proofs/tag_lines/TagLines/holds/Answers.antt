use Rattle.std.proofs.Common.{◌∙◌, sym, arith, subst}
use Rattle.spur_flat.specs.TagLines.{AreInPlace}
use Rattle.spur_flat.proofs.HolderFacts.{found_holds, none_holds, some_tag}
use Rattle.spur_flat.proofs.tag_lines.TagLines.holds.Goals as goal

pub returns-then-is_some : goal.returns-then-is_some
returns-then-is_some c =
    let t = some_tag c.tag.result (sym c.is_some.ensures ∙ c.if-is_some.true) in
    sym (found_holds c.args.self.now c.args.page c.loop-j.j t.0 (omega arith) (sym c.tag.ensures ∙ t.1))

pub returns : goal.returns
returns c = sym (none_holds c.args.self.now c.args.page (subst AreInPlace c.self.view_is c.self.invariant) (λ i small. c.loop-j.invariant i (let past = c.loop-j-test.false in omega arith)))
