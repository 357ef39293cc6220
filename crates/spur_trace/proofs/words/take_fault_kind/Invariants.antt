use Rattle.std.proofs.Common.{◌≡◌, drop}
use Rattle.spur_text.specs.Words.{fault_word}
use Rattle.spur_trace.specs.Reading.{fault_kinds, word_at}
use Rattle.spur_trace.proofs.words.take_fault_kind.Given as goal

abbrev pub invariant-loop-kind : goal.invariant-loop-kind
invariant-loop-kind l = word_at fault_word (drop l.kind-index l.kind-items) l.rest ≡ word_at fault_word fault_kinds l.fn.rest
