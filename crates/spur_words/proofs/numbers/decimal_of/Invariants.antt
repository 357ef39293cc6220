use Rattle.std.proofs.Common.{◌≡◌, ◌^◌, ◌<◌, drop}
use Rattle.spur_words.specs.Words.{decimal_after}
use Rattle.spur_words.proofs.numbers.decimal_of.Given as goal

abbrev pub invariant-loop-c : goal.invariant-loop-c
invariant-loop-c l = record {
  so_far : decimal_after l.n (drop l.c-index l.text) ≡ decimal_after 0 l.text;
  below : l.n < 10 ^ l.c-index;
}
