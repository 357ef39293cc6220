use Rattle.std.proofs.Common.{◌∙◌, sym, None}
use Rattle.spur_flat.specs.declared.access.AccessKind.TheVariants.{Load}
use Rattle.spur_flat.specs.Table.{walk_of}
use Rattle.spur_flat.proofs.AccessFacts.{miss_may}
use Rattle.spur_flat.proofs.tests.an_access_is_answered.Goals as goal

pub word-requires-clause-allowed : goal.word-requires-clause-allowed
word-requires-clause-allowed g c = miss_may (walk_of c.in_ok-flat.flat c.at-place.result) Load c.at-place.result None (sym c.miss-2.ensures ∙ c.in-None.is)
