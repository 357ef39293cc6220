-- The lines of a board's own cache after an access that hits: those of a cache, with the same tags.
use Rattle.std.proofs.Math.ListN.{set}
use Rattle.std.proofs.Common.{◌≡◌, ◌∙◌, ℕ, zero, suc, ap, sym, refl, subst, List, [], ◌∷◌, Option, Some, None, map}
use Rattle.std.specs.Prelude.{slice_get, IsSome}
use Rattle.spur_cache.specs.declared.line.Line.{Line}
use Rattle.spur_cache.specs.Lines.{joined as at_joined, IsCache, changed_found, found, index_of, with_word, written, line_at}
use Rattle.spur_cache.proofs.CacheFacts.{IsPlace, cache-changed, tagged_is, written-keeps}
use Rattle.spur_addr.specs.Address.{block_of, word_in_block_of}
use Rattle.spur_flat.specs.declared.access.AccessKind.{AccessKind}
use Rattle.spur_flat.specs.declared.access.AccessKind.TheVariants as access
use Rattle.spur_flat.specs.declared.tag.Tag.{Tag}
use Rattle.spur_bus.specs.Calls.{cache_tags, line_tag}
use Rattle.spur_board.specs.Boards.{done_lines}

-- a word is written in its line
word_put : (lines : List (Option Line)) (at value : ℕ) (o : Option Line) → found lines at ≡ o → IsCache lines → IsCache (with_word lines at value)
word_put lines at value None is cache = subst (λ (z : Option Line). IsCache (changed_found lines (index_of lines (block_of at)) (written (word_in_block_of at) value) z)) (sym is) cache
word_put lines at value (Some line) is cache =
    let slot : ℕ = index_of lines (block_of at) in
    let place : IsPlace lines at slot (Some line) = record {
      slot_is = refl;
      there = (tagged_is (block_of at) (line_at lines slot) line is).0;
      some = subst IsSome (sym is) refl;
    } in
    subst (λ (z : Option Line). IsCache (changed_found lines slot (written (word_in_block_of at) value) z)) (sym is)
    (cache-changed lines at slot (written (word_in_block_of at) value) (Some line) cache place (written-keeps (word_in_block_of at) value))

pub done_cache : (kind : AccessKind) (lines : List (Option Line)) (at value : ℕ) → IsCache lines → IsCache (done_lines kind lines at value)
done_cache access.Load lines at value cache = cache
done_cache access.Store lines at value cache = word_put lines at value (found lines at) refl cache
done_cache access.Tas lines at value cache = word_put lines at 1 (found lines at) refl cache

-- a line that is changed in its words alone
tags_set : (xs : List (Option Line)) (i : ℕ) (line changed : Line) → at_joined (slice_get xs i) ≡ Some line → line_tag (Some changed) ≡ line_tag (Some line) → map line_tag (set xs i (Some changed)) ≡ map line_tag xs
tags_set [] i line changed there same = refl
tags_set (o ∷ os) zero line changed there same = ap (λ (t : Option Tag). t ∷ map line_tag os) (same ∙ ap line_tag (sym there))
tags_set (o ∷ os) (suc i) line changed there same = ap (λ (ts : List (Option Tag)). line_tag o ∷ ts) (tags_set os i line changed there same)

tags_word : (lines : List (Option Line)) (at value : ℕ) (o : Option Line) → found lines at ≡ o → cache_tags (with_word lines at value) ≡ map line_tag lines
tags_word lines at value None is = ap (λ (z : Option Line). map line_tag (changed_found lines (index_of lines (block_of at)) (written (word_in_block_of at) value) z)) is
tags_word lines at value (Some line) is =
    ap (λ (z : Option Line). map line_tag (changed_found lines (index_of lines (block_of at)) (written (word_in_block_of at) value) z)) is
    ∙ tags_set lines (index_of lines (block_of at)) line (written (word_in_block_of at) value line) (tagged_is (block_of at) (line_at lines (index_of lines (block_of at))) line is).0 refl

pub tags_done : (kind : AccessKind) (lines : List (Option Line)) (at value : ℕ) → map line_tag (done_lines kind lines at value) ≡ map line_tag lines
tags_done access.Load lines at value = refl
tags_done access.Store lines at value = tags_word lines at value (found lines at) refl
tags_done access.Tas lines at value = tags_word lines at 1 (found lines at) refl
