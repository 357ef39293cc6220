use Rattle.std.proofs.Common.{◌≡◌, drop}
use Rattle.spur_trace.specs.Reading.{verb_word, verbs, word_at}
use Rattle.spur_trace.proofs.words.take_verb.Given as goal

abbrev pub invariant-loop-verb : goal.invariant-loop-verb
invariant-loop-verb l = word_at verb_word (drop l.verb-index l.verb-items) l.rest ≡ word_at verb_word verbs l.fn.rest
