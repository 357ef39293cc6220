-- A frame in which no line stands has the words that memory has.
use Rattle.std.proofs.Common.{◌≡◌, ◌≢◌, ◌∙◌, ℕ, ◌+◌, ◌*◌, ◌/◌, ◌%◌, ◌<◌, ◌≤◌, true, sym, subst, List, length, slice_index, Option, Some, arith}
use Rattle.std.proofs.lemmas.List.{ext_get_or}
use Rattle.spur_addr.specs.Address.{table_start}
use Rattle.spur_addr.specs.PageEntry.{is_valid, number_of}
use Rattle.spur_cache.specs.declared.line.Line.{Line}
use Rattle.spur_flat.specs.declared.flat.Flat.{Flat}
use Rattle.spur_flat.specs.Blocks.{root_word_of, wired_frame}
use Rattle.spur_flat.specs.Pager.{word_of}
use Rattle.spur_addr.specs.Pages.{page_at}
use Rattle.spur_flat.proofs.PagerFacts.{page_long}
use Rattle.spur_bus.specs.Boards.{line_in}
use Rattle.spur_bus.specs.Logical.{logical_word, logical_words}
use Rattle.spur_bus.proofs.OwnerFacts.{OwnsAt}
use Rattle.spur_bus.proofs.WordsFacts.{length-logical, logical_index}
use Rattle.spur_walk.specs.Present.{MayWalk}
use Rattle.spur_walk.specs.Tables.{OfPage, OfRoot, OfTable, StandsIn, block_address, logical_flat, user_roots}
use Rattle.spur_walk.proofs.FrameFacts.{root_small, wired_small}
use Rattle.spur_pager.specs.Acts.{Hold}
use Rattle.spur_pager.specs.Drops.{IsUnheld}
use Rattle.spur_pager.proofs.MoveFacts.{IsSpare}
use Rattle.spur_flat.proofs.PageWordFacts.{page_word}
use Rattle.spur_bus.proofs.NoLineFacts.{free_word}

-- no line stands in this frame
pub record IsBare (caches : List (List (Option Line))) (frame : ℕ) : Type 0 where
  pub none : (i s : ℕ) (line : Line) → line_in caches i s ≡ Some line → line.frame ≢ frame

-- so each word of it is memory's
pub bare_word : (caches : List (List (Option Line))) (memory : List ℕ) (frame k : ℕ) → IsBare caches frame → k / 1024 ≡ frame → logical_word caches memory k ≡ slice_index memory k
bare_word caches memory frame k bare is =
    free_word caches memory k (λ (i s : ℕ) (l : Line) (there : line_in caches i s ≡ Some l) (o : OwnsAt (k / 1024) (k / 8 % 128) l). bare.none i s l there (o.in_frame ∙ is))

pub frame_words : (caches : List (List (Option Line))) (memory : List ℕ) (frame : ℕ) → IsBare caches frame → frame * 1024 + 1024 ≤ length memory → page_at (logical_words caches memory) frame ≡ page_at memory frame
frame_words caches memory frame bare inside =
    let long : length (logical_words caches memory) ≡ length memory = length-logical caches memory in
    let left : length (page_at (logical_words caches memory) frame) ≡ 1024 = page_long (logical_words caches memory) frame (omega arith) in
    let right : length (page_at memory frame) ≡ 1024 = page_long memory frame inside in
    ext_get_or 0 (page_at (logical_words caches memory) frame) (page_at memory frame) (left ∙ sym right)
    (λ (i : ℕ) (within : i < length (page_at (logical_words caches memory) frame)).
    let small : i < 1024 = omega arith in
    let k : ℕ = frame * 1024 + i in
    let k_inside : frame * 1024 + i < length memory = omega arith in
    let k_frame : (frame * 1024 + i) / 1024 ≡ frame = omega arith in
    page_word (logical_words caches memory) frame i small ∙ logical_index caches memory k k_inside
    ∙ bare_word caches memory frame k bare k_frame ∙ sym (page_word memory frame i small))

-- the block of a page's entry with this frame
record IsOfPage (F : Flat) (block frame : ℕ) : Type 0 where
  pub user : block_address block < table_start
  pub valid : is_valid (word_of F (block_address block)) ≡ true
  pub number : number_of (word_of F (block_address block)) ≡ frame

-- what stands in a frame past the root that no root entry names is of a page
of_page : (F : Flat) (block f frame : ℕ) → 64 ≤ frame → ((r : ℕ) → r < user_roots → is_valid (slice_index F.words r) ≡ true → frame ≢ number_of (slice_index F.words r)) → StandsIn F block f → f ≡ frame → IsOfPage F block frame
of_page F block f frame low table (OfPage user valid number) same = record { user = user; valid = valid; number = number ∙ same }
of_page F block f frame low table (OfTable from to valid number) same = absurd (table (root_word_of (block_address block)) (root_small block from to) valid (sym same ∙ sym number))
of_page F block f frame low table (OfRoot from to wired) same =
    let small : wired_frame (block_address block) < 64 = wired_small (block_address block) in
    let is : frame ≡ wired_frame (block_address block) = sym same ∙ wired in
    absurd (omega arith)

-- no line stands in the frame of a valid page of which no cache has a line
pub unheld_bare : (h : Hold) (g frame : ℕ) → MayWalk h.caches h.memory → g < table_start → is_valid (word_of (logical_flat h.caches h.memory) g) ≡ true → number_of (word_of (logical_flat h.caches h.memory) g) ≡ frame → IsUnheld h g
    → IsBare h.caches frame
unheld_bare h g frame walk user valid number un = record {
  none = λ (i s : ℕ) (line : Line) (there : line_in h.caches i s ≡ Some line) (is : line.frame ≡ frame).
      let F : Flat = logical_flat h.caches h.memory in
      let low : 64 ≤ frame = subst (λ (n : ℕ). 64 ≤ n) number (walk.tables.frame g user valid).low in
      let table : (r : ℕ) → r < user_roots → is_valid (slice_index F.words r) ≡ true → frame ≢ number_of (slice_index F.words r) =
      λ (r : ℕ) (small : r < user_roots) (v : is_valid (slice_index F.words r) ≡ true) (same : frame ≡ number_of (slice_index F.words r)). walk.tables.table_apart g r user small valid v (number ∙ same) in
      let p = of_page F line.tag line.frame frame low table (walk.mapped i s line there) is in
      un.none i s line there p.user (walk.tables.apart (block_address line.tag) g p.user user p.valid valid (p.number ∙ sym number));
}

-- nor in a spare frame
pub spare_bare : (caches : List (List (Option Line))) (memory : List ℕ) (frame : ℕ) → MayWalk caches memory → IsSpare (logical_flat caches memory) frame → IsBare caches frame
spare_bare caches memory frame walk spare = record {
  none = λ (i s : ℕ) (line : Line) (there : line_in caches i s ≡ Some line) (is : line.frame ≡ frame).
      let p = of_page (logical_flat caches memory) line.tag line.frame frame spare.is.low spare.table (walk.mapped i s line there) is in
      spare.apart (block_address line.tag) p.user p.valid p.number;
}
