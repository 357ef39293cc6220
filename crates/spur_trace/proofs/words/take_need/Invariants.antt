use Rattle.std.proofs.Common.{◌≡◌, drop}
use Rattle.spur_trace.specs.Line.{need_word}
use Rattle.spur_trace.specs.Reading.{needs, word_at}
use Rattle.spur_trace.proofs.words.take_need.Given as goal

abbrev pub invariant-loop-need : goal.invariant-loop-need
invariant-loop-need l = word_at need_word (drop l.need-index l.need-items) l.rest ≡ word_at need_word needs l.fn.rest
