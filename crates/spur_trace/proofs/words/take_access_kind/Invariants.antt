use Rattle.std.proofs.Common.{◌≡◌, drop}
use Rattle.spur_text.specs.Words.{access_word}
use Rattle.spur_trace.specs.Reading.{access_kinds, word_at}
use Rattle.spur_trace.proofs.words.take_access_kind.Given as goal

abbrev pub invariant-loop-kind : goal.invariant-loop-kind
invariant-loop-kind l = word_at access_word (drop l.kind-index l.kind-items) l.rest ≡ word_at access_word access_kinds l.fn.rest
