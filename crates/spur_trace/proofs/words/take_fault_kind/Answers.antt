use Rattle.spur_text.specs.Words.{fault_word}
use Rattle.spur_trace.specs.Reading.{fault_kinds, word_at}
use Rattle.spur_trace.proofs.WordFacts.{goes_on, is_found}
use Rattle.spur_trace.proofs.words.take_fault_kind.Goals as goal

pub loop-kind-preserved : goal.loop-kind-preserved
loop-kind-preserved c =
    goes_on fault_word fault_kinds c.loop-kind.kind-index _ c.loop-kind.rest c.eat.new.self c.fault_word.result.now c.eat.result (word_at fault_word fault_kinds c.args.rest.now)
    c.loop-kind-test.true c.fault_word.ensures c.eat.ensures.skips c.if-eat.false c.eat.ensures.stays c.loop-kind.invariant

pub returns-then-eat : goal.returns-then-eat
returns-then-eat c =
    is_found fault_word fault_kinds c.loop-kind.kind-index _ c.loop-kind.rest c.eat.new.self c.fault_word.result.now c.eat.result (word_at fault_word fault_kinds c.args.rest.now)
    c.loop-kind-test.true c.fault_word.ensures c.eat.ensures.skips c.if-eat.true c.loop-kind.invariant
