-- The tags allow the pager's entries: where the block of the entry is exclusive, and for a page that goes out, where no
-- cache has a line of it.
use Rattle.std.proofs.Common.{◌≡◌, ◌≢◌, ◌∙◌, ℕ, suc, ◌+◌, ◌*◌, ◌/◌, ◌^◌, ◌<◌, ◌||◌, Bool, false, if◌then◌else◌, ap, refl, List, [], ◌∷◌, length, Option, Some, None, arith}
use Rattle.std.specs.List.{list_any}
use Rattle.std.proofs.lemmas.Bool.{ne_eqb}
use Rattle.spur_addr.specs.Address.{entry_address_of, table_start}
use Rattle.spur_cache.specs.declared.line.Line.{Line}
use Rattle.spur_cache.specs.Lines.{line_at}
use Rattle.spur_snoop.specs.declared.BlockState.{BlockState}
use Rattle.spur_flat.specs.declared.flat.Flat.{Flat}
use Rattle.spur_flat.specs.declared.tag.Tag.{Tag}
use Rattle.spur_flat.specs.declared.entry.Entry.TheVariants.{PageOut}
use Rattle.spur_flat.specs.Blocks.{entry_block}
use Rattle.spur_flat.specs.TagLines.{block_state, tag_at}
use Rattle.spur_flat.specs.TagRules.{entry_state, holder_from, holds_page, is_tag_of_page, pager_refusal, unheld}
use Rattle.spur_bus.specs.Boards.{line_in}
use Rattle.spur_bus.specs.Calls.{cache_tags, tag_of, tags_of}
use Rattle.spur_bus.proofs.CallFacts.{tags_in}
use Rattle.spur_pager.specs.Acts.{Hold}
use Rattle.spur_pager.specs.Drops.{IsUnheld}
use Rattle.spur_pager.proofs.CarryFacts.{IsPagers}
use Rattle.spur_pager.proofs.EntryFacts.{small_user}
use Rattle.spur_pager.proofs.WriteFacts.{HasEntry}

-- the block of an entry is exclusive, so that the tags allow an entry of the pager that wants no more
pub own_state : (caches : List (List (Option Line))) (b g : ℕ) → b < length caches → HasEntry caches b g → pager_refusal (entry_state (tags_of caches) b g) None ≡ None
own_state caches b g within has =
    let tag : tag_at (tags_of caches) b (entry_block g) ≡ Some (tag_of has.line) = tags_in caches b (entry_address_of g) has.line within has.there in
    ap (λ (t : Option Tag). pager_refusal (block_state t) None) tag ∙ ap (λ (s : BlockState). pager_refusal s None) has.exclusive

lines_none : (page : ℕ) (lines : List (Option Line)) → ((s : ℕ) (line : Line) → line_at lines s ≡ Some line → line.tag / 2 ^ 7 ≢ page) → holds_page page (cache_tags lines) ≡ false
lines_none page [] none = refl
lines_none page (None ∷ rest) none = lines_none page rest (λ (s : ℕ) (line : Line) (there : line_at rest s ≡ Some line). none (suc s) line there)
lines_none page (Some x ∷ rest) none =
    ap (λ (b : Bool). b || list_any (is_tag_of_page page) (cache_tags rest)) (ne_eqb (x.tag / 2 ^ 7) page (none 0 x refl))
    ∙ lines_none page rest (λ (s : ℕ) (line : Line) (there : line_at rest s ≡ Some line). none (suc s) line there)

holder_none : (page k : ℕ) (caches : List (List (Option Line))) → ((i s : ℕ) (line : Line) → line_in caches i s ≡ Some line → line.tag / 2 ^ 7 ≢ page) → holder_from page k (tags_of caches) ≡ None
holder_none page k [] none = refl
holder_none page k (lines ∷ rest) none =
    ap (λ (b : Bool). if b then Some k else holder_from page (k + 1) (tags_of rest)) (lines_none page lines (λ (s : ℕ) (line : Line) (there : line_at lines s ≡ Some line). none 0 s line there))
    ∙ holder_none page (k + 1) rest (λ (i s : ℕ) (line : Line) (there : line_in rest i s ≡ Some line). none (suc i) s line there)

unheld_tags : (h : Hold) (g : ℕ) → g < table_start → IsUnheld h g → holder_from (g / 2 ^ 12) 0 (tags_of h.caches) ≡ None
unheld_tags h g user un =
    holder_none (g / 2 ^ 12) 0 h.caches (λ (i s : ℕ) (line : Line) (there : line_in h.caches i s ≡ Some line) (same : line.tag / 2 ^ 7 ≡ g / 2 ^ 12).
    let u : g < 255 * 2 ^ 30 = user in
    let low : line.tag * 2 ^ 5 < 255 * 2 ^ 30 = omega arith in
    let page : line.tag * 2 ^ 5 / 2 ^ 12 ≡ g / 2 ^ 12 = omega arith in
    un.none i s line there low page)

pub out_pager : (b g : ℕ) (mid : Hold) → b < length mid.caches → g < table_start → HasEntry mid.caches b g → IsUnheld mid g → IsPagers b g mid (PageOut b g)
out_pager b g mid within user has un = record {
  board = refl;
  role = refl;
  small = small_user g user;
  tagged = λ (F : Flat). ap (λ (o : Option ℕ). pager_refusal (entry_state (tags_of mid.caches) b g) (unheld o)) (unheld_tags mid g user un) ∙ own_state mid.caches b g within has;
  still = λ (F : Flat). refl;
}
