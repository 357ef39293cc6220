use Rattle.spur_flat.proofs.WalkFacts.{valid-with_word}
use Rattle.spur_flat.proofs.flat.Flat.test_and_set.Goals as goal

pub returns-clause-valid : goal.returns-clause-valid
returns-clause-valid c = valid-with_word c.args.self.now c.set.new.self c.in_ok-place.place _ c.requires c.in_ok-place.ensures.data c.set.ensures
