use Rattle.std.proofs.Common.{◌≡◌, ◌∙◌, ◌<◌, Option, ℕ, List, None, Some, true, ap, length, subst, sym, arith}
use Rattle.spur_flat.specs.declared.access.AccessKind.TheVariants as access
use Rattle.spur_flat.specs.Access.{may}
use Rattle.spur_flat.specs.Table.{place_in, walk_of}
use Rattle.spur_flat.proofs.WalkFacts.{data_within, done_is_valid}
use Rattle.spur_flat.proofs.flat.Flat.word.Goals as goal

pub bounds-as_slice-place_under : goal.bounds-as_slice-place_under
bounds-as_slice-place_under c =
    let walked : walk_of c.args.self.now c.args.at ≡ Some c.in-Some.entry = sym c.walk.ensures ∙ c.in-Some.is in
    let done : may (Some c.in-Some.entry) access.Load c.args.at None ≡ true =
    subst (λ (w : Option ℕ). may w access.Load c.args.at None ≡ true) walked c.requires.allowed in
    let within : place_in (Some c.in-Some.entry) c.args.at < length c.args.self.now.words =
    (data_within c.args.self.now c.args.at c.in-Some.entry c.requires.valid c.place_under.ensures.small walked (done_is_valid c.in-Some.entry access.Load c.args.at done)).1 in
    let place = c.place_under.ensures.value in
    let words : length c.as_slice.result.now ≡ length c.args.self.now.words = ap (λ (ws : List ℕ). length ws) c.as_slice.ensures in
    omega arith
