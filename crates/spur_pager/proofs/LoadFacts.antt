-- A page is put into a frame that no entry names: the tables are as they were, and what the walk needs is there again.
use Rattle.std.proofs.Common.{◌≡◌, ◌≢◌, ◌∙◌, ℕ, ◌+◌, ◌*◌, ◌/◌, ◌%◌, ◌^◌, ◌<◌, ◌≤◌, ◌⊎◌, inl, inr, ⊎_elim, true, ap, sym, subst, List, length, slice_index, Option, Some, arith}
use Rattle.std.proofs.lemmas.Bool.{cases_lt}
use Rattle.std.proofs.lemmas.List.{ext_get_or}
use Rattle.spur_addr.specs.Address.{page_of, root_start, table_start}
use Rattle.spur_addr.specs.PageEntry.{is_dirty, is_valid, number_of, protection_of}
use Rattle.spur_cache.specs.declared.line.Line.{Line}
use Rattle.spur_flat.specs.declared.flat.Flat.{Flat}
use Rattle.spur_flat.specs.Blocks.{root_word_of}
use Rattle.spur_flat.specs.Pager.{or_zero, word_of}
use Rattle.spur_addr.specs.Pages.{with_page}
use Rattle.spur_flat.specs.Table.{table_words}
use Rattle.spur_flat.specs.Validity.{IsDataFrame, IsValidFlat}
use Rattle.spur_flat.proofs.PagerFacts.{frame_inside, length-with_page}
use Rattle.spur_flat.proofs.WalkFacts.{entry_at-same, tables-same, walk_of-entry}
use Rattle.spur_bus.specs.Agrees.{IsAt}
use Rattle.spur_bus.specs.Boards.{line_in}
use Rattle.spur_bus.specs.Logical.{logical_at, logical_word, logical_words}
use Rattle.spur_bus.proofs.WordsFacts.{length-logical, logical_index}
use Rattle.spur_walk.specs.Present.{ArePresent, MayWalk}
use Rattle.spur_walk.specs.Tables.{HasTables, HasTablesOf, OfPage, OfRoot, OfTable, StandsIn, block_address, flat_of_words, logical_flat, user_roots}
use Rattle.spur_walk.proofs.FrameFacts.{root_small}
use Rattle.spur_walk.proofs.ValidFacts.{tables_alone}
use Rattle.spur_pager.proofs.EntryFacts.{small_user}
use Rattle.spur_pager.proofs.FrameWordFacts.{IsBare, bare_word, spare_bare}
use Rattle.spur_pager.proofs.MoveFacts.{IsSpare}
use Rattle.spur_flat.proofs.PageWordFacts.{IsPut, before_part, in_part, outside_part}

-- the flat state with a page in a frame
abbrev pub put : Flat → ℕ → List ℕ → Flat
put F frame words = record F { words = with_page F.words frame words }

-- a page that may be put into a frame: it is one of the data
pub record MayPut (F : Flat) (frame : ℕ) (words : List ℕ) : Type 0 where
  pub valid : IsValidFlat F
  pub among : IsDataFrame F.tables F.frames frame
  pub long : length words ≡ 1024

pub put_is : (F : Flat) (frame : ℕ) (words : List ℕ) → MayPut F frame words → IsPut F.words words frame
put_is F frame words may = record { within = frame_inside F frame may.valid may.among; long = may.long }

-- the words of the root and of the page table are as they were
pub table_kept : (F : Flat) (frame : ℕ) (words : List ℕ) → MayPut F frame words → (k : ℕ) → k < table_words F.tables → slice_index (put F frame words).words k ≡ slice_index F.words k
table_kept F frame words may k below =
    let low : 64 + F.tables ≤ frame = may.among.low in
    let few : k < 1024 * (64 + F.tables) = below in
    before_part F.words words frame k (put_is F frame words may) (omega arith)

in_root : (r t : ℕ) → r < 2 ^ 16 → r < table_words t
in_root r t small = let s : r < 1024 * (64 + t) = omega arith in s

pub root_kept : (F : Flat) (frame : ℕ) (words : List ℕ) → MayPut F frame words → (r : ℕ) → r < 2 ^ 16 → slice_index (put F frame words).words r ≡ slice_index F.words r
root_kept F frame words may r small = table_kept F frame words may r (in_root r F.tables small)

-- so is each entry
pub entry_kept : (F : Flat) (frame : ℕ) (words : List ℕ) → MayPut F frame words → (at : ℕ) → at < 2 ^ 38 → word_of (put F frame words) at ≡ word_of F at
entry_kept F frame words may at small =
    let G : Flat = put F frame words in
    let page : at / 2 ^ 12 < 2 ^ 26 = omega arith in
    ap or_zero (walk_of-entry G at
    ∙ entry_at-same F.words G.words F.pages F.tables F.frames may.valid.tables (table_kept F frame words may) (page_of at) page
    ∙ sym (walk_of-entry F at))

pub size_kept : (F : Flat) (frame : ℕ) (words : List ℕ) → MayPut F frame words → length (put F frame words).words ≡ length F.words
size_kept F frame words may = length-with_page F.words words frame (frame_inside F frame may.valid may.among) may.long

-- and the flat state is valid again
pub valid_put : (F : Flat) (frame : ℕ) (words : List ℕ) → MayPut F frame words → IsValidFlat (put F frame words)
valid_put F frame words may = record {
  words = size_kept F frame words may ∙ may.valid.words;
  swap = may.valid.swap;
  few_frames = may.valid.few_frames;
  few_pages = may.valid.few_pages;
  pages = may.valid.pages;
  tables = tables-same F.words (put F frame words).words F.pages F.tables F.frames may.valid.tables may.valid.pages.small (table_kept F frame words may);
}

-- the words of root and tables, one by one, of a flat state that has them as F has
pub tables_of : (F G : Flat) (words : List ℕ) → IsValidFlat F → ((k : ℕ) → k < table_words F.tables → slice_index G.words k ≡ slice_index F.words k)
    → ((k : ℕ) → k < table_words F.tables → slice_index words k ≡ slice_index F.words k) → HasTablesOf G words
tables_of F G words ok one other =
    let here : (r : ℕ) → r < 2 ^ 16 → slice_index words r ≡ slice_index F.words r = λ (r : ℕ) (small : r < 2 ^ 16). other r (in_root r F.tables small) in
    record {
      root = λ (r : ℕ) (small : r < 2 ^ 16). one r (in_root r F.tables small) ∙ sym (here r small);
      table = λ (r k : ℕ) (small : r < 2 ^ 16) (within : k < 1024) (valid : is_valid (slice_index words r) ≡ true).
          let frame = ok.tables.root r small (ap (λ (w : ℕ). is_valid w) (sym (here r small)) ∙ valid) in
          let below : number_of (slice_index words r) * 1024 + k < table_words F.tables =
          subst (λ (w : ℕ). number_of w * 1024 + k < table_words F.tables) (sym (here r small)) (in_table (number_of (slice_index F.words r)) k F.tables frame.high within) in
          one (number_of (slice_index words r) * 1024 + k) below ∙ sym (other (number_of (slice_index words r) * 1024 + k) below);
    }
  where
    in_table : (n k t : ℕ) → n < 64 + t → k < 1024 → n * 1024 + k < table_words t
    in_table n k t high within = let s : n * 1024 + k < 1024 * (64 + t) = omega arith in s

-- ---- what lines are said to be, by the same entries

pub record HasEntries (F G : Flat) : Type 0 where
  pub root : (r : ℕ) → r < 2 ^ 16 → slice_index G.words r ≡ slice_index F.words r
  pub entry : (at : ℕ) → at < table_start → word_of G at ≡ word_of F at

roots_few : (r : ℕ) → r < user_roots → r < 2 ^ 16
roots_few r small = let s : r < 255 * 2 ^ 8 = small in omega arith

root_at_block : (F G : Flat) (block : ℕ) → HasEntries F G → table_start ≤ block_address block → block_address block < root_start
    → slice_index G.words (root_word_of (block_address block)) ≡ slice_index F.words (root_word_of (block_address block))
root_at_block F G block same from to = same.root (root_word_of (block_address block)) (roots_few (root_word_of (block_address block)) (root_small block from to))

pub stands_same : (F G : Flat) (block frame : ℕ) → HasEntries F G → StandsIn F block frame → StandsIn G block frame
stands_same F G block frame same (OfPage low valid number) =
    let e = same.entry (block_address block) low in OfPage low (ap (λ (w : ℕ). is_valid w) e ∙ valid) (ap (λ (w : ℕ). number_of w) e ∙ number)
stands_same F G block frame same (OfTable from to valid number) =
    let r = root_at_block F G block same from to in OfTable from to (ap (λ (w : ℕ). is_valid w) r ∙ valid) (ap (λ (w : ℕ). number_of w) r ∙ number)
stands_same F G block frame same (OfRoot from to wired) = OfRoot from to wired

pub present_same : (F G : Flat) (caches : List (List (Option Line))) → HasEntries F G → ArePresent F caches → ArePresent G caches
present_same F G caches same present = record {
  user = λ (i s : ℕ) (line : Line) (there : line_in caches i s ≡ Some line) (low : block_address line.tag < table_start).
      let e = same.entry (block_address line.tag) low in
      let was = present.user i s line there low in
      record {
        valid = ap (λ (w : ℕ). is_valid w) e ∙ was.valid;
        frame = ap (λ (w : ℕ). number_of w) e ∙ was.frame;
        prot = ap (λ (w : ℕ). protection_of w) e ∙ was.prot;
        dirty = λ (d : line.dirty ≡ true). ap (λ (w : ℕ). is_dirty w) e ∙ was.dirty d;
      };
  table = λ (i s : ℕ) (line : Line) (there : line_in caches i s ≡ Some line) (from : table_start ≤ block_address line.tag) (to : block_address line.tag < root_start).
      ap (λ (w : ℕ). number_of w) (root_at_block F G line.tag same from to) ∙ present.table i s line there from to;
  root = present.root;
  unowned = present.unowned;
}

pub spare_same : (F G : Flat) (frame : ℕ) → HasEntries F G → length G.words ≡ length F.words → IsSpare F frame → IsSpare G frame
spare_same F G frame same size spare = record {
  is = record { low = spare.is.low; room = subst (λ (n : ℕ). frame * 1024 + 1024 ≤ n) (sym size) spare.is.room };
  apart = λ (to : ℕ) (user : to < table_start) (valid : is_valid (word_of G to) ≡ true) (number : number_of (word_of G to) ≡ frame).
      let e = same.entry to user in spare.apart to user (ap (λ (w : ℕ). is_valid w) (sym e) ∙ valid) (ap (λ (w : ℕ). number_of w) (sym e) ∙ number);
  table = λ (r : ℕ) (small : r < user_roots) (valid : is_valid (slice_index G.words r) ≡ true) (number : frame ≡ number_of (slice_index G.words r)).
      let e = same.root r (roots_few r small) in spare.table r small (ap (λ (w : ℕ). is_valid w) (sym e) ∙ valid) (number ∙ ap (λ (w : ℕ). number_of w) e);
}

-- ---- the logical memory

where_is : (k n : ℕ) → (k / 1024 ≡ n) ⊎ ((k < n * 1024) ⊎ (n * 1024 + 1024 ≤ k))
where_is k n =
    ⊎_elim
    (λ (before : k < n * 1024). inr (inl before))
    (λ (past : n * 1024 ≤ k).
    ⊎_elim
    (λ (within : k < n * 1024 + 1024). let here : k / 1024 ≡ n = omega arith in inl here)
    (λ (after : n * 1024 + 1024 ≤ k). inr (inr after))
    (cases_lt k (n * 1024 + 1024)))
    (cases_lt k (n * 1024))

module _ (caches : List (List (Option Line))) (memory : List ℕ) (frame : ℕ) (words : List ℕ) (bare : IsBare caches frame) (p : IsPut memory words frame) where
  put_logical : IsPut (logical_words caches memory) words frame
  put_logical = record { within = subst (λ (n : ℕ). frame * 1024 + 1024 ≤ n) (sym (length-logical caches memory)) p.within; long = p.long }

  inside_new : (k : ℕ) → k / 1024 ≡ frame → slice_index (with_page memory frame words) k ≡ slice_index words (k % 1024)
  inside_new k here =
      let at : k ≡ frame * 1024 + k % 1024 = omega arith in
      ap (slice_index (with_page memory frame words)) at ∙ in_part memory words frame (k % 1024) p (omega arith)

  inside_logical : (k : ℕ) → k / 1024 ≡ frame → slice_index (with_page (logical_words caches memory) frame words) k ≡ slice_index words (k % 1024)
  inside_logical k here =
      let at : k ≡ frame * 1024 + k % 1024 = omega arith in
      ap (slice_index (with_page (logical_words caches memory) frame words)) at ∙ in_part (logical_words caches memory) words frame (k % 1024) put_logical (omega arith)

  pub outside_word : (k : ℕ) → (k < frame * 1024) ⊎ (frame * 1024 + 1024 ≤ k) → logical_word caches (with_page memory frame words) k ≡ logical_word caches memory k
  outside_word k apart = ap (logical_at caches k) (outside_part memory words frame k p apart)

  pub size_new : length (with_page memory frame words) ≡ length memory
  size_new = length-with_page memory words frame p.within p.long

  pub logical_put : logical_words caches (with_page memory frame words) ≡ with_page (logical_words caches memory) frame words
  logical_put =
      let new : List ℕ = with_page memory frame words in
      let one : length (logical_words caches new) ≡ length new = length-logical caches new in
      let two : length new ≡ length memory = size_new in
      let three : length (logical_words caches memory) ≡ length memory = length-logical caches memory in
      let four : length (with_page (logical_words caches memory) frame words) ≡ length (logical_words caches memory) = length-with_page (logical_words caches memory) words frame put_logical.within p.long in
      ext_get_or 0 (logical_words caches new) (with_page (logical_words caches memory) frame words) (omega arith)
      (λ (k : ℕ) (small : k < length (logical_words caches new)).
      let in_new : k < length new = omega arith in
      let in_old : k < length memory = omega arith in
      ⊎_elim
      (λ (here : k / 1024 ≡ frame). logical_index caches new k in_new ∙ bare_word caches new frame k bare here ∙ inside_new k here ∙ sym (inside_logical k here))
      (λ (apart : (k < frame * 1024) ⊎ (frame * 1024 + 1024 ≤ k)).
      logical_index caches new k in_new ∙ outside_word k apart ∙ sym (logical_index caches memory k in_old) ∙ sym (outside_part (logical_words caches memory) words frame k put_logical apart))
      (where_is k frame))

-- the tables of the logical memory have the same entries
pub entries_put : (rest : Flat) (caches : List (List (Option Line))) (memory : List ℕ) (frame : ℕ) (words : List ℕ) → MayPut (record rest { words = logical_words caches memory }) frame words
    → logical_words caches (with_page memory frame words) ≡ with_page (logical_words caches memory) frame words → HasEntries (logical_flat caches memory) (logical_flat caches (with_page memory frame words))
entries_put rest caches memory frame words may now =
    let F : Flat = record rest { words = logical_words caches memory } in
    let L : Flat = logical_flat caches memory in
    subst (λ (ws : List ℕ). HasEntries L (flat_of_words ws)) (sym now) (record {
      root = λ (r : ℕ) (small : r < 2 ^ 16). root_kept F frame words may r small;
      entry = λ (at : ℕ) (user : at < table_start). entry_kept F frame words may at (small_user at user);
    })

-- what the walk needs is there again
pub walks_put : (rest : Flat) (caches : List (List (Option Line))) (memory : List ℕ) (frame : ℕ) (words : List ℕ) → MayWalk caches memory → IsSpare (logical_flat caches memory) frame
    → MayPut (record rest { words = logical_words caches memory }) frame words → MayWalk caches (with_page memory frame words)
walks_put rest caches memory frame words walk spare may =
    let F : Flat = record rest { words = logical_words caches memory } in
    let new : List ℕ = with_page memory frame words in
    let bare : IsBare caches frame = spare_bare caches memory frame walk spare in
    let p : IsPut memory words frame = record { within = subst (λ (n : ℕ). frame * 1024 + 1024 ≤ n) (length-logical caches memory) (put_is F frame words may).within; long = may.long } in
    let now : logical_words caches new ≡ with_page (logical_words caches memory) frame words = logical_put caches memory frame words bare p in
    let same : HasEntries (logical_flat caches memory) (logical_flat caches new) = entries_put rest caches memory frame words may now in
    record {
      agree = walk.agree;
      serves = record {
        within = λ (i s : ℕ) (line : Line) (there : line_in caches i s ≡ Some line). subst (λ (n : ℕ). line.frame * 1024 + 1024 ≤ n) (sym (size_new caches memory frame words bare p)) (walk.serves.within i s line there);
        words = λ (i s k : ℕ) (line : Line) (there : line_in caches i s ≡ Some line) (at : IsAt k line).
            walk.serves.words i s k line there at ∙ sym (outside_word caches memory frame words bare p k (away k frame line.frame at.frame (bare.none i s line there)));
      };
      tables = subst (λ (ws : List ℕ). HasTables (flat_of_words ws)) (sym now) (tables_alone rest (with_page (logical_words caches memory) frame words) (valid_put F frame words may));
      mapped = λ (i s : ℕ) (line : Line) (there : line_in caches i s ≡ Some line). stands_same (logical_flat caches memory) (logical_flat caches new) line.tag line.frame same (walk.mapped i s line there);
    }
  where
    away : (k frame f : ℕ) → k / 1024 ≡ f → f ≢ frame → (k < frame * 1024) ⊎ (frame * 1024 + 1024 ≤ k)
    away k frame f at apart = ⊎_elim (λ (here : k / 1024 ≡ frame). absurd (apart (sym at ∙ here))) (λ (out : (k < frame * 1024) ⊎ (frame * 1024 + 1024 ≤ k)). out) (where_is k frame)
