use Rattle.std.proofs.Common.{arith, length, rules, sym}
use Rattle.std.proofs.lemmas.List.Sums.{prefix_len_is}
use Rattle.spur_asm.specs.Bytes.{is_blank}
use Rattle.spur_asm.proofs.bytes.blanks.Goals as goal

pub returns-then-not-is_blank-clause-len : goal.returns-then-not-is_blank-clause-len
returns-then-not-is_blank-clause-len c =
    sym (prefix_len_is is_blank c.args.bytes.now c.loop-i.i 0 (omega arith) c.loop-i.invariant (λ _. search rules))

pub returns-clause-len : goal.returns-clause-len
returns-clause-len c =
    sym (prefix_len_is is_blank c.args.bytes.now (length c.args.bytes.now) 0 (omega arith) (λ k lt. c.loop-i.invariant k (omega arith)) (λ lt. absurd (omega arith)))
