use Rattle.spur_trace.specs.Reading.{verb_word, verbs, word_at}
use Rattle.spur_trace.proofs.WordFacts.{goes_on, is_found}
use Rattle.spur_trace.proofs.words.take_verb.Goals as goal

pub loop-verb-preserved : goal.loop-verb-preserved
loop-verb-preserved c =
    goes_on verb_word verbs c.loop-verb.verb-index _ c.loop-verb.rest c.eat.new.self c.verb_word.result.now c.eat.result (word_at verb_word verbs c.args.rest.now)
    c.loop-verb-test.true c.verb_word.ensures c.eat.ensures.skips c.if-eat.false c.eat.ensures.stays c.loop-verb.invariant

pub returns-then-eat : goal.returns-then-eat
returns-then-eat c =
    is_found verb_word verbs c.loop-verb.verb-index _ c.loop-verb.rest c.eat.new.self c.verb_word.result.now c.eat.result (word_at verb_word verbs c.args.rest.now)
    c.loop-verb-test.true c.verb_word.ensures c.eat.ensures.skips c.if-eat.true c.loop-verb.invariant
