-- The memory's words of an owned block are of no account.
use Rattle.std.proofs.Common.{◌≡◌, ◌∙◌, ℕ, ◌+◌, ◌*◌, ◌/◌, ◌%◌, ◌<◌, ◌≤◌, inl, inr, ⊎_elim, true, ap, sym, subst, List, slice_index, Option, Some}
use Rattle.std.proofs.lemmas.Bool.{cases_lt}
use Rattle.spur_cache.specs.declared.line.Line.{Line}
use Rattle.spur_snoop.specs.Protocol.{is_owned}
use Rattle.spur_phys.specs.Blocks.{with_block}
use Rattle.spur_bus.specs.Boards.{line_in}
use Rattle.spur_bus.specs.Logical.{logical_at, logical_word}
use Rattle.spur_bus.specs.Agrees.{Agrees, IsAt, OwnedIsFree}
use Rattle.spur_bus.proofs.OwnerFacts.{OwnsAt, logical_owned}
use Rattle.spur_bus.proofs.BackFacts.{length-words, place_at, start_of, words_out}

owns_here : (k : ℕ) (line : Line) → IsAt k line → is_owned line.state ≡ true → OwnsAt (k / 1024) (k / 8 % 128) line
owns_here k line at owned = record { owned = owned; in_frame = sym at.frame; in_position = sym at.position }

-- what the memory has of an owned block is no word of the logical memory
pub old_word : (caches : List (List (Option Line))) (memory words : List ℕ) (i s k : ℕ) (line : Line) → Agrees caches → line_in caches i s ≡ Some line → is_owned line.state ≡ true
    → logical_word caches (with_block memory (start_of line) words) k ≡ logical_word caches memory k
old_word caches memory words i s k line agree there owned =
    let new : List ℕ = with_block memory (start_of line) words in
    let out : (slice_index new k ≡ slice_index memory k) → logical_word caches new k ≡ logical_word caches memory k =
    λ (same : slice_index new k ≡ slice_index memory k). ap (λ (w : ℕ). logical_at caches k w) same in
    ⊎_elim
    (λ (low : k < start_of line). out (words_out 8 memory (start_of line) words k (inl low)))
    (λ (low : start_of line ≤ k).
    ⊎_elim
    (λ (high : k < start_of line + 8).
    let o = owns_here k line (place_at k line low high) owned in
    logical_owned caches new k i s line agree there o ∙ sym (logical_owned caches memory k i s line agree there o))
    (λ (high : start_of line + 8 ≤ k). out (words_out 8 memory (start_of line) words k (inr high)))
    (cases_lt k (start_of line + 8)))
    (cases_lt k (start_of line))

pub owned-free : OwnedIsFree
owned-free caches memory words i s line agree serves there owned = record {
  within = λ (j t : ℕ) (l : Line) (at : line_in caches j t ≡ Some l).
      subst (λ (n : ℕ). l.frame * 1024 + 1024 ≤ n) (sym (length-words 8 memory (start_of line) words)) (serves.within j t l at);
  words = λ (j t k : ℕ) (l : Line) (at : line_in caches j t ≡ Some l) (is : IsAt k l).
      serves.words j t k l at is ∙ sym (old_word caches memory words i s k line agree there owned);
}
