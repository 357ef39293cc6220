use Rattle.std.proofs.Common.{◌≡◌, ◌∙◌, ◌<◌, ◌≤◌, Option, ℕ, None, Some, length, subst, sym, arith}
use Rattle.spur_flat.specs.Access.{bar_of}
use Rattle.spur_flat.specs.Table.{place_in, table_words, walk_of}
use Rattle.spur_flat.proofs.WalkFacts.{data_within, unbarred_is_valid}
use Rattle.spur_flat.proofs.flat.Flat.place.Goals as goal

bounds : (c : goal.After-place_under) → (table_words c.args.self.now.tables ≤ place_in (Some c.in-Ok.entry) c.args.at) × (place_in (Some c.in-Ok.entry) c.args.at < length c.args.self.now.words)
bounds c =
    let walked : walk_of c.args.self.now c.args.at ≡ Some c.in-Ok.entry = sym c.walk.ensures ∙ c.in-Ok.ensures.entry in
    let free : bar_of (Some c.in-Ok.entry) c.args.access c.args.at ≡ None =
    subst (λ (w : Option ℕ). bar_of w c.args.access c.args.at ≡ None) c.in-Ok.ensures.entry c.in-Ok.ensures.done in
    data_within c.args.self.now c.args.at c.in-Ok.entry c.requires c.place_under.ensures.small walked
    (unbarred_is_valid c.in-Ok.entry c.args.access c.args.at free)

pub returns-in-Ok-clause-data : goal.returns-in-Ok-clause-data
returns-in-Ok-clause-data c = let low = (bounds c).0 in let place = c.place_under.ensures.value in omega arith

pub returns-in-Ok-clause-within : goal.returns-in-Ok-clause-within
returns-in-Ok-clause-within c = let high = (bounds c).1 in let place = c.place_under.ensures.value in omega arith
