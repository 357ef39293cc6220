-- Where no line stands, the logical memory is the memory, and the tags are none.
use Rattle.std.proofs.Common.{◌≡◌, ◌∙◌, ℕ, zero, suc, ◌/◌, ◌%◌, ◌<◌, ap, sym, refl, List, ◌∷◌, length, replicate, slice_index, Option, Some, None, arith}
use Rattle.std.proofs.lemmas.List.{ext_get_or}
use Rattle.spur_cache.specs.declared.line.Line.{Line}
use Rattle.spur_flat.specs.declared.tag.Tag.{Tag}
use Rattle.spur_bus.specs.Boards.{line_in}
use Rattle.spur_bus.specs.Calls.{cache_tags, tags_of}
use Rattle.spur_bus.specs.Logical.{logical_word, logical_words, word_or}
use Rattle.spur_bus.specs.Empty.{EmptyHasNoTags, NoLineIsMemory}
use Rattle.spur_bus.proofs.EmptyFacts.{empty}
use Rattle.spur_bus.proofs.OwnerFacts.{Free, Owned, Owner, OwnsAt, owner}
use Rattle.spur_bus.proofs.WordsFacts.{length-logical, logical_index}

-- a word that no line owns is memory's
pub free_word : (caches : List (List (Option Line))) (memory : List ℕ) (k : ℕ) → ((i s : ℕ) (l : Line) → line_in caches i s ≡ Some l → OwnsAt (k / 1024) (k / 8 % 128) l → ⊥)
    → logical_word caches memory k ≡ slice_index memory k
free_word caches memory k none = by (owner caches (k / 1024) (k / 8 % 128))
  where
    by : Owner caches (k / 1024) (k / 8 % 128) → logical_word caches memory k ≡ slice_index memory k
    by (Free free nobody) = ap (λ (o : Option (List ℕ)). word_or o (slice_index memory k) k) free
    by (Owned i s l there o words) = absurd (none i s l there o)

none_some : (o : Option Line) (l : Line) → o ≡ None → o ≡ Some l → ⊥
none_some o l none some = let clash : None ≡ Some l = sym none ∙ some in cc

pub no-line-is-memory : NoLineIsMemory
no-line-is-memory caches memory none =
    let long : length (logical_words caches memory) ≡ length memory = length-logical caches memory in
    ext_get_or 0 (logical_words caches memory) memory long
    (λ (k : ℕ) (within : k < length (logical_words caches memory)).
    let small : k < length memory = omega arith in
    logical_index caches memory k small
    ∙ free_word caches memory k (λ (i s : ℕ) (l : Line) (there : line_in caches i s ≡ Some l) (o : OwnsAt (k / 1024) (k / 8 % 128) l). none_some (line_in caches i s) l (none i s) there))

cache_tags-empty : (lines : ℕ) → cache_tags (replicate lines None) ≡ replicate lines None
cache_tags-empty zero = refl
cache_tags-empty (suc lines) = ap (λ (tags : List (Option Tag)). None ∷ tags) (cache_tags-empty lines)

pub tags-empty : EmptyHasNoTags
tags-empty zero lines = refl
tags-empty (suc boards) lines =
    ap (λ (tags : List (Option Tag)). tags ∷ tags_of (empty boards lines)) (cache_tags-empty lines)
    ∙ ap (λ (all : List (List (Option Tag))). replicate lines None ∷ all) (tags-empty boards lines)
