use Rattle.spur_trace.specs.Line.{need_word}
use Rattle.spur_trace.specs.Reading.{needs, word_at}
use Rattle.spur_trace.proofs.WordFacts.{goes_on, is_found}
use Rattle.spur_trace.proofs.words.take_need.Goals as goal

pub loop-need-preserved : goal.loop-need-preserved
loop-need-preserved c =
    goes_on need_word needs c.loop-need.need-index _ c.loop-need.rest c.eat.new.self c.need_word.result.now c.eat.result (word_at need_word needs c.args.rest.now)
    c.loop-need-test.true c.need_word.ensures c.eat.ensures.skips c.if-eat.false c.eat.ensures.stays c.loop-need.invariant

pub returns-then-eat : goal.returns-then-eat
returns-then-eat c =
    is_found need_word needs c.loop-need.need-index _ c.loop-need.rest c.eat.new.self c.need_word.result.now c.eat.result (word_at need_word needs c.args.rest.now)
    c.loop-need-test.true c.need_word.ensures c.eat.ensures.skips c.if-eat.true c.loop-need.invariant
