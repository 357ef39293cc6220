use Rattle.std.proofs.Common.{sym, ◌∷◌, [], Some, None}
use Rattle.std.proofs.lemmas.Bool.Decides.{Decides-eqb}
use Rattle.std.proofs.lemmas.Slice.Eq.{strip_prefix_is}
use Rattle.spur_trace.proofs.FrontFacts.{space_lacks, word_lacks, word_found}
use Rattle.spur_trace.proofs.cursor.Cursor.eat.Goals as goal

pub returns-in_default-clause-skips : goal.returns-in_default-clause-skips
returns-in_default-clause-skips c =
    rw (sym c.self.view_is) (word_lacks c.args.word.now c.self.inside.rest.now
    (strip_prefix_is Decides-eqb c.self.inside.rest.now c.args.word.now None c.in_default.ensures.cases))

pub returns-in_default-strip_prefix-clause-skips : goal.returns-in_default-strip_prefix-clause-skips
returns-in_default-strip_prefix-clause-skips c =
    rw (sym c.self.view_is) (space_lacks c.args.word.now c.self.inside.rest.now c.in-Some.behind.now
    (strip_prefix_is Decides-eqb c.self.inside.rest.now c.args.word.now (Some c.in-Some.behind) c.in-Some.ensures.cases)
    (strip_prefix_is Decides-eqb c.in-Some.behind.now (32 ∷ []) None c.in_default-strip_prefix.ensures.cases))

pub returns-clause-skips : goal.returns-clause-skips
returns-clause-skips c =
    rw (sym c.self.view_is) (word_found c.args.word.now c.self.inside.rest.now c.in-Some.behind.now c.in-Some-strip_prefix.rest.now
    (strip_prefix_is Decides-eqb c.self.inside.rest.now c.args.word.now (Some c.in-Some.behind) c.in-Some.ensures.cases)
    (strip_prefix_is Decides-eqb c.in-Some.behind.now (32 ∷ []) (Some c.in-Some-strip_prefix.rest) c.in-Some-strip_prefix.ensures.cases))
