-- The word of a page's entry is that of a line of its block, or that of memory where no cache has the block.
use Rattle.std.proofs.Common.{◌≡◌, ◌∙◌, ℕ, zero, suc, ◌+◌, ◌*◌, ◌/◌, ◌%◌, ◌^◌, ◌<◌, ◌≤◌, Bool, true, false, if◌then◌else◌, ap, sym, refl, subst, List, [], ◌∷◌, length, map, slice_index, Option, Some, None, arith}
use Rattle.std.specs.Prelude.{Err, IsTrue, Ok}
use Rattle.std.proofs.lemmas.Bool.{false≢true}
use Rattle.std.proofs.lemmas.Option.{slice_get_within}
use Rattle.spur_addr.specs.Address.{block_of, entry_address_of, root_index_of, root_start, table_start, word_in_block_of}
use Rattle.spur_addr.specs.PageEntry.{is_readable, is_valid, number_of, read_of}
use Rattle.spur_addr.specs.declared.page_entry.PteFault.{PteFault}
use Rattle.spur_addr.specs.declared.page_entry.PteFault.TheVariants.{Reserved}
use Rattle.spur_cache.specs.declared.line.Line.{Line}
use Rattle.spur_cache.specs.Lines.{found}
use Rattle.spur_flat.specs.declared.flat.Flat.{Flat}
use Rattle.spur_flat.specs.Pager.{entry_place, or_zero, word_of}
use Rattle.spur_bus.specs.Boards.{first_some, line_in, line_of_block}
use Rattle.spur_bus.proofs.OwnerFacts.{OwnsAt}
use Rattle.spur_bus.proofs.ReadFacts.{found_in}
use Rattle.spur_bus.proofs.WordsFacts.{length-logical, logical_index}
use Rattle.spur_walk.specs.Plan.{cached_word, line_word}
use Rattle.spur_walk.specs.Present.{ArePresent, MayWalk}
use Rattle.spur_walk.specs.Tables.{HasTables, OfPage, OfRoot, OfTable, StandsIn, block_address, logical_flat, root_at}
use Rattle.spur_walk.proofs.FrameFacts.{one_place, root_small}
use Rattle.spur_walk.proofs.TableFacts.{entry_from, entry_to, entry_word, index_small, root_word_is, root_word_start}
use Rattle.spur_pager.specs.Standing.{first_cached_word, entry_place_in}
use Rattle.spur_bus.proofs.NoLineFacts.{free_word}
use Rattle.spur_pager.proofs.LineFacts.{row}
use Rattle.spur_pager.proofs.PlaceFacts.{within}

-- a cache has the block, with this word
record IsCached (caches : List (List (Option Line))) (g word : ℕ) : Type 0 where
  pub board : ℕ
  pub within : board < length caches
  pub line : Line
  pub there : line_of_block caches board g ≡ Some line
  pub word_is : word ≡ slice_index line.words (word_in_block_of g)

record IsHeld (o : Option Line) (g word : ℕ) : Type 0 where
  pub line : Line
  pub there : o ≡ Some line
  pub word_is : word ≡ slice_index line.words (word_in_block_of g)

held_line : (o : Option Line) (g word : ℕ) → line_word o g ≡ Some word → IsHeld o g word
held_line None g word h = cc
held_line (Some line) g word h = record { line = line; there = refl; word_is = cc }

cached_first : (lines : List (Option Line)) (rest : List (List (Option Line))) (g word : ℕ) (o : Option ℕ) → cached_word lines g ≡ o → (first_cached_word rest g ≡ Some word → IsCached rest g word)
    → first_some (o ∷ map (λ (ls : List (Option Line)). cached_word ls g) rest) ≡ Some word → IsCached (lines ∷ rest) g word
cached_first lines rest g word None is later h =
    let r = later h in
    let small : r.board < length rest = r.within in
    record { board = suc r.board; within = omega arith; line = r.line; there = r.there; word_is = r.word_is }
cached_first lines rest g word (Some x) is later h =
    let l = held_line (found lines g) g word (is ∙ h) in
    record { board = 0; within = omega arith; line = l.line; there = l.there; word_is = l.word_is }

cached_some : (caches : List (List (Option Line))) (g word : ℕ) → first_cached_word caches g ≡ Some word → IsCached caches g word
cached_some [] g word h = cc
cached_some (lines ∷ rest) g word h = cached_first lines rest g word (cached_word lines g) refl (cached_some rest g word) h

-- or none has it
none_held : (o : Option Line) (g : ℕ) → line_word o g ≡ None → o ≡ None
none_held None g h = refl
none_held (Some line) g h = cc

none_first : (o : Option ℕ) (os : List (Option ℕ)) → first_some (o ∷ os) ≡ None → (o ≡ None) × (first_some os ≡ None)
none_first None os h = (refl, h)
none_first (Some x) os h = cc

cached_none : (caches : List (List (Option Line))) (g i : ℕ) → first_cached_word caches g ≡ None → i < length caches → line_of_block caches i g ≡ None
cached_none [] g i h small = absurd (omega arith)
cached_none (lines ∷ rest) g zero h small = none_held (found lines g) g (none_first (cached_word lines g) (map (λ (ls : List (Option Line)). cached_word ls g) rest) h).0
cached_none (lines ∷ rest) g (suc i) h small =
    cached_none rest g i (none_first (cached_word lines g) (map (λ (ls : List (Option Line)). cached_word ls g) rest) h).1 (omega arith)

-- what stands in a frame below 64 is of the root
low_is_root : (F : Flat) (block frame : ℕ) → HasTables F → StandsIn F block frame → frame < 64 → root_start ≤ block_address block
low_is_root F block frame ok (OfPage low valid number) small =
    let past : 64 ≤ number_of (word_of F (block_address block)) = (ok.frame (block_address block) low valid).low in
    absurd (omega arith)
low_is_root F block frame ok (OfTable low high valid number) small =
    let past = (ok.root_frame _ (root_small block low high) valid).low in
    absurd (omega arith)
low_is_root F block frame ok (OfRoot low high is) small = low

-- a readable word is an entry
read_in : (b : Bool) (word : ℕ) (why : PteFault) → IsTrue b → (if b then Ok word else Err (Reserved word)) ≡ Err why → ⊥
read_in true word why is h = cc
read_in false word why is h = cc

pub is_entry : (word : ℕ) (why : PteFault) → IsTrue (is_readable word) → read_of word ≡ Err why → ⊥
is_entry word why is h = read_in (is_readable word) word why is h

module _ (caches : List (List (Option Line))) (memory : List ℕ) (g : ℕ) (user : g < table_start) (walk : MayWalk caches memory) (present : ArePresent (logical_flat caches memory) caches)
    (valid : is_valid (root_at (logical_flat caches memory) g) ≡ true) where
  abbrev F : Flat
  F = logical_flat caches memory

  abbrev at : ℕ
  at = entry_address_of g

  index_below : root_index_of g < 255 * 2 ^ 8
  index_below = index_small g user

  pub root_within : root_index_of g < length memory
  root_within =
      let size : length (F.words) ≡ length memory = length-logical caches memory in
      let some : 2 ^ 16 ≤ length F.words = walk.tables.root in
      let small = index_below in
      omega arith

  -- no line of the root is owned, so that the root is memory's
  root_is : root_at F g ≡ slice_index memory (root_index_of g)
  root_is =
      logical_index caches memory (root_index_of g) root_within
      ∙ free_word caches memory (root_index_of g) (λ (i s : ℕ) (l : Line) (there : line_in caches i s ≡ Some l) (o : OwnsAt (root_index_of g / 1024) (root_index_of g / 8 % 128) l).
      let small = index_below in
      let frame : l.frame ≡ root_index_of g / 1024 = o.in_frame in
      let low : l.frame < 64 = omega arith in
      false≢true (sym (present.unowned i s l there (low_is_root F l.tag l.frame walk.tables (walk.mapped i s l there) low)) ∙ o.owned))

  place_is : entry_place_in memory g ≡ entry_place F g
  place_is = ap (λ (r : ℕ). number_of r * 1024 + g / 2 ^ 12 % 1024) (sym root_is)

  place_below : entry_place F g < length memory
  place_below = subst (λ (n : ℕ). entry_place F g < n) (length-logical caches memory) (within F g (record { tables = walk.tables; user = user; valid = valid }))

  pub place_within : entry_place_in memory g < length memory
  place_within = subst (λ (n : ℕ). n < length memory) (sym place_is) place_below

  word_is : word_of F g ≡ slice_index F.words (entry_place F g)
  word_is = ap (λ (b : Bool). or_zero (if b then Some (slice_index F.words (entry_place F g)) else None)) valid

  -- by the tables the entry's block stands in the frame that the root names
  stands : StandsIn F (block_of at) (number_of (root_at F g))
  stands =
      let index = root_word_start at ∙ root_word_is g user in
      OfTable (entry_from g) (entry_to g user) (ap (λ (n : ℕ). is_valid (slice_index F.words n)) index ∙ valid) (ap (λ (n : ℕ). number_of (slice_index F.words n)) index)

  frame_is : entry_place F g / 1024 ≡ number_of (root_at F g)
  frame_is = let r : (number_of (root_at F g) * 1024 + g / 2 ^ 12 % 1024) / 1024 ≡ number_of (root_at F g) = omega arith in r

  position_is : entry_place F g / 8 % 128 ≡ block_of at % 128
  position_is = let r : (number_of (root_at F g) * 1024 + g / 2 ^ 12 % 1024) / 8 % 128 ≡ (255 * 2 ^ 30 + 4 * (g / 2 ^ 12)) / 2 ^ 5 % 128 = omega arith in r

  -- where no cache has the block, none owns the word
  pub memory_has : first_cached_word caches at ≡ None → slice_index memory (entry_place_in memory g) ≡ word_of F g
  memory_has none =
      ap (slice_index memory) place_is
      ∙ sym (word_is ∙ logical_index caches memory (entry_place F g) place_below
      ∙ free_word caches memory (entry_place F g) (λ (i s : ℕ) (l : Line) (there : line_in caches i s ≡ Some l) (o : OwnsAt (entry_place F g / 1024) (entry_place F g / 8 % 128) l).
      let r = row caches i s l there in
      let small : i < length caches = slice_get_within caches i r.lines r.is in
      let frame : l.frame ≡ number_of (root_at F g) = o.in_frame ∙ frame_is in
      let here : StandsIn F l.tag (number_of (root_at F g)) = subst (λ (n : ℕ). StandsIn F l.tag n) frame (walk.mapped i s l there) in
      let tag : l.tag ≡ block_of at = one_place F l.tag (block_of at) (number_of (root_at F g)) walk.tables here stands (o.in_position ∙ position_is) in
      let clash : None ≡ Some l = sym (cached_none caches at i none small) ∙ found_in caches i at s l walk.agree small there tag in
      cc))

  -- and a line of the block has it
  pub cached_has : (word : ℕ) → first_cached_word caches at ≡ Some word → word ≡ word_of F g
  cached_has word is =
      let c = cached_some caches at word is in
      c.word_is ∙ sym (entry_word caches memory c.board g c.line walk c.within user c.there)
