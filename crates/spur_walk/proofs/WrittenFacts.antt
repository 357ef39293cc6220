-- A word of a line is written: the tags, and what is said of its block, stay.
use Rattle.std.proofs.Common.{◌≡◌, ◌∙◌, ℕ, zero, suc, ◌<◌, ap, sym, refl, subst, List, [], ◌∷◌, get_or, length, slice_set, Option, Some}
use Rattle.std.proofs.lemmas.List as L
use Rattle.spur_addr.specs.Address.{block_of, table_start}
use Rattle.spur_cache.specs.declared.line.Line.{Line}
use Rattle.spur_cache.specs.Lines.{line_at, index_of, written}
use Rattle.spur_flat.specs.declared.flat.Flat.{Flat}
use Rattle.spur_bus.specs.Boards.{line_in}
use Rattle.spur_bus.specs.Calls.{cache_tags, tags_of}
use Rattle.spur_bus.proofs.TagsFacts.{with-tags}
use Rattle.spur_walk.specs.Tables.{StandsIn, block_address}
use Rattle.spur_walk.specs.Present.{AreMapped}
use Rattle.spur_walk.proofs.FillFacts.{Suits}
use Rattle.spur_walk.proofs.PutFacts.{Here, Put, There, put, stood}

-- a line put where it stands
pub set_same : (lines : List (Option Line)) (s : ℕ) (line : Line) → line_at lines s ≡ Some line → slice_set lines s (Some line) ≡ lines
set_same [] s line h = refl
set_same (z ∷ zs) zero line h = ap (λ (o : Option Line). o ∷ zs) (sym h)
set_same (z ∷ zs) (suc s) line h = ap (λ (rest : List (Option Line)). z ∷ rest) (set_same zs s line h)

-- a word says nothing of a tag
pub tags-written : (caches : List (List (Option Line))) (b g n e : ℕ) (line : Line) → b < length caches → line_in caches b (index_of (get_or caches b []) (block_of g)) ≡ Some line
    → tags_of (put caches b (index_of (get_or caches b []) (block_of g)) (written n e line)) ≡ tags_of caches
tags-written caches b g n e line within there =
    let own : List (Option Line) = get_or caches b [] in
    let slot : ℕ = index_of own (block_of g) in
    L.map-set cache_tags caches b (slice_set own slot (Some (written n e line)))
    ∙ ap (slice_set (tags_of caches) b) (with-tags own (block_of g) (Some (written n e line)) ∙ sym (with-tags own (block_of g) (Some line)))
    ∙ sym (L.map-set cache_tags caches b (slice_set own slot (Some line)))
    ∙ ap tags_of (ap (slice_set caches b) (set_same own slot line (stood caches b slot line within there)) ∙ L.set-get_or caches b [])

-- each line stands where it stood
pub put_stands : (G : Flat) (caches : List (List (Option Line))) (b s n value : ℕ) (line : Line) (i t : ℕ) (l : Line) → AreMapped G caches → StandsIn G line.tag line.frame → Put caches b s (written n value line) i t l → StandsIn G l.tag l.frame
put_stands G caches b s n value line i t l mapped old (Here ei et is) = subst (λ (m : Line). StandsIn G m.tag m.frame) (sym is) old
put_stands G caches b s n value line i t l mapped old (There was away) = mapped i t l was

pub suits_written : (G : Flat) (n value : ℕ) (line : Line) → Suits G line → Suits G (written n value line)
suits_written G n value line suits = record {
  user = λ (low : block_address line.tag < table_start).
      let was = suits.user low in
      record { valid = was.valid; frame = was.frame; prot = was.prot; dirty = was.dirty };
  table = suits.table;
  root = suits.root;
  unowned = suits.unowned;
}
