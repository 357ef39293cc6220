use Rattle.spur_trace.specs.Line.{layer_word}
use Rattle.spur_trace.specs.Reading.{layers, word_at}
use Rattle.spur_trace.proofs.WordFacts.{goes_on, is_found}
use Rattle.spur_trace.proofs.words.take_layer.Goals as goal

pub loop-layer-preserved : goal.loop-layer-preserved
loop-layer-preserved c =
    goes_on layer_word layers c.loop-layer.layer-index _ c.loop-layer.rest c.eat.new.self c.layer_word.result.now c.eat.result (word_at layer_word layers c.args.rest.now)
    c.loop-layer-test.true c.layer_word.ensures c.eat.ensures.skips c.if-eat.false c.eat.ensures.stays c.loop-layer.invariant

pub returns-then-eat : goal.returns-then-eat
returns-then-eat c =
    is_found layer_word layers c.loop-layer.layer-index _ c.loop-layer.rest c.eat.new.self c.layer_word.result.now c.eat.result (word_at layer_word layers c.args.rest.now)
    c.loop-layer-test.true c.layer_word.ensures c.eat.ensures.skips c.if-eat.true c.loop-layer.invariant
