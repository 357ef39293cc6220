use Rattle.std.proofs.Common.{◌*◌, ◌+◌, ◌^◌, ◌<◌, arith}
use Rattle.std.proofs.lemmas.Grind.{common_steps}
use Rattle.spur_asm.proofs.DigitFacts.{grows, stays_small}
use Rattle.spur_asm.proofs.number.digits.Goals as goal

pub overflow_mul-n : goal.overflow_mul-n
overflow_mul-n c =
    let more : c.loop-c.n * c.args.radix + c.in_ok-digit.digit < 16 ^ (c.loop-c.c-index + 1) = grows c.loop-c.n c.args.radix c.in_ok-digit.digit c.loop-c.c-index c.loop-c.invariant.below c.requires.radix.1 (omega (arith, c.in_ok-digit.ensures.value)) in
    let small : c.loop-c.n * c.args.radix + c.in_ok-digit.digit < 16 ^ 10 = stays_small _ (c.loop-c.c-index + 1) c.args.most more (omega arith) c.requires.most in
    rw c.from-in-loop-c.ensures (omega arith)

pub overflow_add-n : goal.overflow_add-n
overflow_add-n c =
    let more : c.loop-c.n * c.args.radix + c.in_ok-digit.digit < 16 ^ (c.loop-c.c-index + 1) = grows c.loop-c.n c.args.radix c.in_ok-digit.digit c.loop-c.c-index c.loop-c.invariant.below c.requires.radix.1 (omega (arith, c.in_ok-digit.ensures.value)) in
    let small : c.loop-c.n * c.args.radix + c.in_ok-digit.digit < 16 ^ 10 = stays_small _ (c.loop-c.c-index + 1) c.args.most more (omega arith) c.requires.most in
    rw (c.from-in-loop-c.ensures, c.from-in-loop-c-2.ensures) (omega arith)

pub loop-c-preserved : goal.loop-c-preserved
loop-c-preserved c = record {
  so_far = grind (arith, common_steps);
  below = rw (c.from-in-loop-c.ensures, c.from-in-loop-c-2.ensures) (grows c.loop-c.n c.args.radix c.in_ok-digit.digit c.loop-c.c-index c.loop-c.invariant.below c.requires.radix.1 (omega (arith, c.in_ok-digit.ensures.value)));
}

pub returns-clause-below : goal.returns-clause-below
returns-clause-below c = stays_small c.loop-c.n c.loop-c.c-index c.args.most c.loop-c.invariant.below (omega arith) c.requires.most
