use Rattle.spur_text.specs.Words.{access_word}
use Rattle.spur_trace.specs.Reading.{access_kinds, word_at}
use Rattle.spur_trace.proofs.WordFacts.{goes_on, is_found}
use Rattle.spur_trace.proofs.words.take_access_kind.Goals as goal

pub loop-kind-preserved : goal.loop-kind-preserved
loop-kind-preserved c =
    goes_on access_word access_kinds c.loop-kind.kind-index _ c.loop-kind.rest c.eat.new.self c.access_word.result.now c.eat.result (word_at access_word access_kinds c.args.rest.now)
    c.loop-kind-test.true c.access_word.ensures c.eat.ensures.skips c.if-eat.false c.eat.ensures.stays c.loop-kind.invariant

pub returns-then-eat : goal.returns-then-eat
returns-then-eat c =
    is_found access_word access_kinds c.loop-kind.kind-index _ c.loop-kind.rest c.eat.new.self c.access_word.result.now c.eat.result (word_at access_word access_kinds c.args.rest.now)
    c.loop-kind-test.true c.access_word.ensures c.eat.ensures.skips c.if-eat.true c.loop-kind.invariant
