-- What a call needs of a line is what the tags ask of its entry.
use Rattle.std.proofs.Common.{◌≡◌, ◌∙◌, ℕ, ◌<◌, ◌&&◌, not, Bool, false, ap, refl, get_or, List, [], length, Option, Some, None}
use Rattle.std.proofs.lemmas.List as L
use Rattle.spur_addr.specs.Address.{block_of, block_start_of}
use Rattle.spur_addr.specs.PageEntry.{is_valid, is_leaving}
use Rattle.spur_cache.specs.declared.line.Line.{Line}
use Rattle.spur_cache.specs.Lines.{occupant}
use Rattle.spur_snoop.specs.declared.BlockState.{BlockState}
use Rattle.spur_snoop.specs.Protocol.{is_owned, is_alive}
use Rattle.spur_flat.specs.declared.tag.Tag.{Tag}
use Rattle.spur_flat.specs.TagRules.{claim_refusal, write_back_refusal, tag_condition, state_number, flush_refusal, table_refusal}
use Rattle.spur_bus.specs.Boards.{line_of_block}
use Rattle.spur_bus.specs.Calls.{line_tag, cache_tags, tags_of}
use Rattle.spur_bus.specs.Stand.{ClaimIsTagged, WriteBackIsTagged, ReadIsTagged, FlushIsTagged}
use Rattle.spur_flat.specs.Pager.{word_of}
use Rattle.spur_flat.specs.Blocks.{entry_block}
use Rattle.spur_flat.specs.declared.illegal.Illegal.{Illegal}
use Rattle.spur_flat.specs.TagLines as T
use Rattle.spur_bus.proofs.TagsFacts.{standing-tags, tag_in-tags}
use Rattle.spur_bus.proofs.CallFacts.{start_block, tags_in}

pub state_here : (caches : List (List (Option Line))) (b at : ℕ) (line : Line) → b < length caches → line_of_block caches b at ≡ Some line → T.block_state (T.tag_at (tags_of caches) b (block_of (block_start_of at))) ≡ line.state
state_here caches b at line within is =
    ap (λ (n : ℕ). T.block_state (T.tag_at (tags_of caches) b n)) (start_block at) ∙ ap T.block_state (tags_in caches b at line within is)

pub claim-tagged : ClaimIsTagged
claim-tagged F caches b at within h =
    ap claim_refusal (state_here caches b at h.line within h.there)
    ∙ ap (λ (t : Bool). tag_condition t 12 (state_number h.line.state) None) h.passes

pub back-tagged : WriteBackIsTagged
back-tagged F caches b at within h =
    ap write_back_refusal (state_here caches b at h.line within h.there)
    ∙ ap (λ (t : Bool). tag_condition t 13 (state_number h.line.state) None) h.passes

pub flush-tagged : FlushIsTagged
flush-tagged F caches b holder at within h leaving =
    ap (λ (st : BlockState). flush_refusal (word_of F (block_start_of at)) st) (state_here caches holder at h.line within h.there)
    ∙ ap (λ (t : Bool). tag_condition t 16 (state_number h.line.state) (tag_condition (is_valid (word_of F (block_start_of at)) && is_leaving (word_of F (block_start_of at))) 17 (word_of F (block_start_of at)) None)) h.passes
    ∙ ap (λ (t : Bool). tag_condition t 17 (word_of F (block_start_of at)) None) leaving

-- the tags of a cache without the block
lacked : (caches : List (List (Option Line))) (b at : ℕ) → b < length caches → line_of_block caches b at ≡ None → T.tag_at (tags_of caches) b (block_of at) ≡ None
lacked caches b at within is =
    ap (λ (ls : List (Option Tag)). T.tag_in ls (block_of at)) (L.get_or-map cache_tags caches b [] [] within)
    ∙ tag_in-tags (get_or caches b []) at ∙ ap line_tag is

-- no owned line stands on its place
unowned_tag : (o : Option Line) → ((line : Line) → o ≡ Some line → is_owned line.state ≡ false) → is_owned (T.block_state (line_tag o)) ≡ false
unowned_tag None h = refl
unowned_tag (Some line) h = h line refl

victim_tag : (caches : List (List (Option Line))) (b at : ℕ) → b < length caches → ((line : Line) → occupant (get_or caches b []) at ≡ Some line → is_owned line.state ≡ false)
    → is_owned (T.block_state (T.standing_tag (T.lines_at (tags_of caches) b) (block_of at))) ≡ false
victim_tag caches b at within h =
    ap (λ (ls : List (Option Tag)). is_owned (T.block_state (T.standing_tag ls (block_of at)))) (L.get_or-map cache_tags caches b [] [] within)
    ∙ ap (λ (t : Option Tag). is_owned (T.block_state t)) (standing-tags (get_or caches b []) (block_of at))
    ∙ unowned_tag (occupant (get_or caches b []) at) h

pub read-tagged : ReadIsTagged
read-tagged F caches memory b at frame l n within may layer_is tables =
    let start : ℕ = block_start_of at in
    let own : Option Tag = T.tag_at (tags_of caches) b (block_of start) in
    let there : Option Tag = T.standing_tag (T.lines_at (tags_of caches) b) (block_of start) in
    let above : Option Tag = T.tag_at (tags_of caches) b (entry_block start) in
    let rest : Option Illegal = table_refusal F l n start (T.block_state above) in
    let own_none : own ≡ None = ap (λ (k : ℕ). T.tag_at (tags_of caches) b k) (start_block at) ∙ lacked caches b at within may.lacks in
    let unowned : is_owned (T.block_state there) ≡ false = ap (λ (k : ℕ). is_owned (T.block_state (T.standing_tag (T.lines_at (tags_of caches) b) k))) (start_block at) ∙ victim_tag caches b at within may.victim in
    ap (λ (t : Bool). tag_condition t 5 0 (tag_condition (not (is_alive (T.block_state own))) 6 (state_number (T.block_state own)) (tag_condition (not (is_owned (T.block_state there))) 7 (state_number (T.block_state there)) rest))) layer_is
    ∙ ap (λ (o : Option Tag). tag_condition (not (is_alive (T.block_state o))) 6 (state_number (T.block_state o)) (tag_condition (not (is_owned (T.block_state there))) 7 (state_number (T.block_state there)) rest)) own_none
    ∙ ap (λ (t : Bool). tag_condition (not t) 7 (state_number (T.block_state there)) rest) unowned
    ∙ tables
