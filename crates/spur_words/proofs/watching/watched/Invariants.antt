use Rattle.std.proofs.Common.{◌≡◌, ◌++◌, drop}
use Rattle.spur_words.specs.Watched.{addresses_in}
use Rattle.spur_words.specs.Words.{texts}
use Rattle.spur_words.proofs.watching.watched.Given as goal

-- the addresses so far, with those of the words that are left, are those of all words
abbrev pub invariant-loop-place : goal.invariant-loop-place
invariant-loop-place l = l.addresses.items ++ addresses_in (texts (drop l.place l.words)) ≡ addresses_in (texts l.words)
