-- The tags of caches after a transaction.
use Rattle.std.proofs.Common.{◌≡◌, ◌∙◌, ℕ, ◌+◌, ◌%◌, ◌==◌, Bool, true, false, if◌then◌else◌, ap, sym, refl, List, [], ◌∷◌, length, map, slice_get, slice_set, Option, Some, None}
use Rattle.std.proofs.lemmas.List.{map-set, length-map}
use Rattle.std.proofs.lemmas.Option.{slice_get-map}
use Rattle.std.specs.Option.{option_map}
use Rattle.spur_addr.specs.Address.{block_of}
use Rattle.spur_cache.specs.declared.line.Line.{Line}
use Rattle.spur_cache.specs.Lines.{found, tagged, line_at, joined, index_of, set_found, in_state}
use Rattle.spur_snoop.specs.declared.BlockState.{BlockState}
use Rattle.spur_snoop.specs.declared.BlockState.TheVariants.{Invalid, UnOwned, OwnedNonExclusive, OwnedExclusive}
use Rattle.spur_snoop.specs.declared.BusKind.{BusKind}
use Rattle.spur_snoop.specs.Protocol.{snooped_of}
use Rattle.spur_flat.specs.declared.tag.Tag.{Tag}
use Rattle.spur_flat.specs.TagLines.{each_from}
use Rattle.spur_bus.specs.Boards.{snooped_line, snooped_lines, turned_lines, turned}
use Rattle.spur_bus.specs.Calls.{tag_of, line_tag, cache_tags, tags_of}
use Rattle.spur_flat.specs.TagLines as T

joined-tag : (o : Option (Option Line)) → T.joined (option_map line_tag o) ≡ line_tag (joined o)
joined-tag None = refl
joined-tag (Some o) = refl

pub standing-tags : (lines : List (Option Line)) (block : ℕ) → T.standing_tag (cache_tags lines) block ≡ line_tag (line_at lines (block % length lines))
standing-tags lines block =
    ap (λ (n : ℕ). T.joined (slice_get (cache_tags lines) (block % n))) (length-map lines line_tag)
    ∙ ap T.joined (slice_get-map line_tag lines (block % length lines)) ∙ joined-tag (slice_get lines (block % length lines))

if_tag : (b : Bool) (l : Line) → (if b then Some (tag_of l) else None) ≡ line_tag (if b then Some l else None)
if_tag true l = refl
if_tag false l = refl

of_block-tag : (block : ℕ) (o : Option Line) → T.of_block block (line_tag o) ≡ line_tag (tagged block o)
of_block-tag block None = refl
of_block-tag block (Some l) = if_tag (l.tag == block) l

pub tag_in-tags : (lines : List (Option Line)) (at : ℕ) → T.tag_in (cache_tags lines) (block_of at) ≡ line_tag (found lines at)
tag_in-tags lines at = ap (T.of_block (block_of at)) (standing-tags lines (block_of at)) ∙ of_block-tag (block_of at) (line_at lines (index_of lines (block_of at)))

in_state-tag : (st : BlockState) (l : Line) → T.tag_in_state st (tag_of l) ≡ line_tag (in_state st l)
in_state-tag Invalid l = refl
in_state-tag UnOwned l = refl
in_state-tag OwnedNonExclusive l = refl
in_state-tag OwnedExclusive l = refl

pub with-tags : (lines : List (Option Line)) (block : ℕ) (o : Option Line) → cache_tags (slice_set lines (block % length lines) o) ≡ T.with_tag (cache_tags lines) block (line_tag o)
with-tags lines block o =
    map-set line_tag lines (block % length lines) o
    ∙ ap (λ (n : ℕ). slice_set (cache_tags lines) (block % n) (line_tag o)) (sym (length-map lines line_tag))

told_in : (lines : List (Option Line)) (at : ℕ) (kind : BusKind) (o : Option Line) → found lines at ≡ o → cache_tags (snooped_line lines at kind o) ≡ T.snooped_tag (cache_tags lines) (block_of at) kind (line_tag o)
told_in lines at kind None is = refl
told_in lines at kind (Some x) is =
    let st : BlockState = snooped_of x.state kind in
    ap (λ (o : Option Line). cache_tags (set_found lines (index_of lines (block_of at)) st o)) is
    ∙ with-tags lines (block_of at) (in_state st x)
    ∙ ap (λ (t : Option Tag). T.with_tag (cache_tags lines) (block_of at) t) (sym (in_state-tag st x))

told-tags : (lines : List (Option Line)) (at : ℕ) (kind : BusKind) → cache_tags (snooped_lines lines at kind) ≡ T.snooped_tags (cache_tags lines) (block_of at) kind
told-tags lines at kind =
    told_in lines at kind (found lines at) refl
    ∙ ap (λ (t : Option Tag). T.snooped_tag (cache_tags lines) (block_of at) kind t) (sym (tag_in-tags lines at))

read_if : (b : Bool) (at : ℕ) (kind : BusKind) (fresh : Line) (lines : List (Option Line)) → fresh.tag ≡ block_of at
    → cache_tags (if b then slice_set lines (index_of lines fresh.tag) (Some fresh) else snooped_lines lines at kind)
    ≡ (if b then T.with_tag (cache_tags lines) (block_of at) (Some (tag_of fresh)) else T.snooped_tags (cache_tags lines) (block_of at) kind)
read_if true at kind fresh lines tag = with-tags lines fresh.tag (Some fresh) ∙ ap (λ (n : ℕ). T.with_tag (cache_tags lines) n (Some (tag_of fresh))) tag
read_if false at kind fresh lines tag = told-tags lines at kind

turned_from : (own at : ℕ) (kind : BusKind) (fresh : Line) (k : ℕ) (caches : List (List (Option Line))) → fresh.tag ≡ block_of at
    → map cache_tags (each_from (turned_lines own at kind fresh) k caches) ≡ T.each_from (T.snooped_board own (block_of at) kind (Some (tag_of fresh))) k (map cache_tags caches)
turned_from own at kind fresh k [] tag = refl
turned_from own at kind fresh k (c ∷ cs) tag =
    ap (λ (ls : List (Option Tag)). ls ∷ map cache_tags (each_from (turned_lines own at kind fresh) (k + 1) cs)) (read_if (k == own) at kind fresh c tag)
    ∙ ap (λ (rest : List (List (Option Tag))). T.snooped_board own (block_of at) kind (Some (tag_of fresh)) k (cache_tags c) ∷ rest) (turned_from own at kind fresh (k + 1) cs tag)

-- the tags move as the bus moves the lines
pub tags-turned : (caches : List (List (Option Line))) (own at : ℕ) (kind : BusKind) (fresh : Line) → fresh.tag ≡ block_of at
    → tags_of (turned caches own at kind fresh) ≡ T.bus_on (tags_of caches) own (block_of at) kind (Some (tag_of fresh))
tags-turned caches own at kind fresh tag = turned_from own at kind fresh 0 caches tag
