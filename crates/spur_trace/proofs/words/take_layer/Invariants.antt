use Rattle.std.proofs.Common.{◌≡◌, drop}
use Rattle.spur_trace.specs.Line.{layer_word}
use Rattle.spur_trace.specs.Reading.{layers, word_at}
use Rattle.spur_trace.proofs.words.take_layer.Given as goal

abbrev pub invariant-loop-layer : goal.invariant-loop-layer
invariant-loop-layer l = word_at layer_word (drop l.layer-index l.layer-items) l.rest ≡ word_at layer_word layers l.fn.rest
