use Rattle.std.proofs.Common.{◌≡◌, ◌^◌, ◌<◌, drop}
use Rattle.spur_words.specs.Words.{hexadecimal_after}
use Rattle.spur_words.proofs.numbers.hexadecimal_of.Given as goal

abbrev pub invariant-loop-c : goal.invariant-loop-c
invariant-loop-c l = record {
  so_far : hexadecimal_after l.n (drop l.c-index l.text) ≡ hexadecimal_after 0 l.text;
  below : l.n < 16 ^ l.c-index;
}
