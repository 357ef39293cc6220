-- The logical memory, as a list.
use Rattle.std.proofs.Common.{◌≡◌, ◌∙◌, ℕ, ◌<◌, ap, sym, refl, List, [], ◌∷◌, length, slice_index, Option, arith, zero-add}
use Rattle.std.proofs.lemmas.List.{ext_get_or}
use Rattle.spur_cache.specs.declared.line.Line.{Line}
use Rattle.spur_flat.specs.TagLines.{each_from}
use Rattle.spur_bus.specs.Logical.{logical_at, logical_word, logical_words}
use Rattle.spur_bus.specs.Calls.{line_count}
use Rattle.spur_bus.proofs.EachFacts.{get_or-each, length-each}

pub length-logical : (caches : List (List (Option Line))) (memory : List ℕ) → length (logical_words caches memory) ≡ length memory
length-logical caches memory = length-each (logical_at caches) 0 memory

pub logical_index : (caches : List (List (Option Line))) (memory : List ℕ) (k : ℕ) → k < length memory → slice_index (logical_words caches memory) k ≡ logical_word caches memory k
logical_index caches memory k within =
    get_or-each (logical_at caches) 0 memory k 0 within ∙ ap (λ (n : ℕ). logical_at caches n (slice_index memory k)) (zero-add k)

-- it is kept where each word is
pub same-words : (before after : List (List (Option Line))) (old new : List ℕ) → ((k : ℕ) → logical_word after new k ≡ logical_word before old k) → length new ≡ length old
    → logical_words after new ≡ logical_words before old
same-words before after old new word size =
    let count : length (logical_words after new) ≡ length new = length-logical after new in
    let count_old : length (logical_words before old) ≡ length old = length-logical before old in
    ext_get_or 0 (logical_words after new) (logical_words before old) (count ∙ size ∙ sym count_old)
    (λ (i : ℕ) (within : i < length (logical_words after new)).
    logical_index after new i (omega arith) ∙ word i ∙ sym (logical_index before old i (omega arith)))

-- each cache keeps its number of lines, so the first does
pub count-each : (f : ℕ → List (Option Line) → List (Option Line)) (caches : List (List (Option Line))) → ((i : ℕ) (lines : List (Option Line)) → length (f i lines) ≡ length lines)
    → line_count (each_from f 0 caches) ≡ line_count caches
count-each f [] size = refl
count-each f (lines ∷ rest) size = size 0 lines
