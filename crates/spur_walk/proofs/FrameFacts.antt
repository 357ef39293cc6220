-- Blocks and the frames in which they stand.
use Rattle.std.proofs.Common.{◌≡◌, ◌∙◌, ℕ, ◌+◌, ◌*◌, ◌/◌, ◌%◌, ◌^◌, ◌<◌, ◌≤◌, true, false, sym, subst, List, [], get_or, length, slice_index, Option, Some, None, arith}
use Rattle.spur_addr.specs.Address.{block_of, page_of, table_start, root_start}
use Rattle.spur_addr.specs.PageEntry.{is_valid, number_of}
use Rattle.spur_cache.specs.declared.line.Line.{Line}
use Rattle.spur_cache.specs.Lines.{occupant}
use Rattle.spur_snoop.specs.Protocol.{is_owned}
use Rattle.spur_flat.specs.declared.flat.Flat.{Flat}
use Rattle.spur_flat.specs.Blocks.{root_word_of, wired_frame}
use Rattle.spur_flat.specs.Pager.{word_of}
use Rattle.spur_bus.specs.Boards.{line_in, line_of_block}
use Rattle.spur_bus.specs.Calls.{MayRead}
use Rattle.spur_bus.proofs.WordsFacts.{length-logical}
use Rattle.spur_walk.specs.Tables.{HasTables, StandsIn, OfPage, OfTable, OfRoot, block_address, logical_flat, user_roots}
use Rattle.spur_walk.specs.Present.{MayWalk}

-- the root entry for a block of the page table is one of those for users' pages
pub root_small : (a : ℕ) → table_start ≤ block_address a → block_address a < root_start → root_word_of (block_address a) < user_roots
root_small a from to =
    let low : 255 * 2 ^ 30 ≤ a * 2 ^ 5 = from in
    let high : a * 2 ^ 5 < 255 * 2 ^ 30 + 255 * 2 ^ 20 = to in
    let r : a * 2 ^ 5 / 2 ^ 12 % 2 ^ 16 < 255 * 2 ^ 8 = omega arith in r

pub wired_small : (g : ℕ) → wired_frame g < 64
wired_small g = let is : g / 2 ^ 12 % 2 ^ 6 < 64 = omega arith in is

-- one frame a block
pub one_frame : (F : Flat) (block f g : ℕ) → StandsIn F block f → StandsIn F block g → f ≡ g
one_frame F block f g (OfPage la va na) (OfPage lb vb nb) = sym na ∙ nb
one_frame F block f g (OfPage la va na) (OfTable lb hb vb nb) = absurd (omega arith)
one_frame F block f g (OfPage la va na) (OfRoot lb hb nb) = absurd (omega arith)
one_frame F block f g (OfTable la ha va na) (OfPage lb vb nb) = absurd (omega arith)
one_frame F block f g (OfTable la ha va na) (OfTable lb hb vb nb) = sym na ∙ nb
one_frame F block f g (OfTable la ha va na) (OfRoot lb hb nb) = absurd (omega arith)
one_frame F block f g (OfRoot la ha na) (OfPage lb vb nb) = absurd (omega arith)
one_frame F block f g (OfRoot la ha na) (OfTable lb hb vb nb) = absurd (omega arith)
one_frame F block f g (OfRoot la ha na) (OfRoot lb hb nb) = na ∙ sym nb

-- one block a place
page_place : (a b : ℕ) → page_of (block_address a) ≡ page_of (block_address b) → a % 128 ≡ b % 128 → a ≡ b
page_place a b page position =
    let p : a * 2 ^ 5 / 2 ^ 12 ≡ b * 2 ^ 5 / 2 ^ 12 = page in
    omega arith

table_place : (a b : ℕ) → table_start ≤ block_address a → block_address a < root_start → table_start ≤ block_address b → block_address b < root_start
    → root_word_of (block_address a) ≡ root_word_of (block_address b) → a % 128 ≡ b % 128 → a ≡ b
table_place a b la ha lb hb root position =
    let low_a : 255 * 2 ^ 30 ≤ a * 2 ^ 5 = la in
    let high_a : a * 2 ^ 5 < 255 * 2 ^ 30 + 255 * 2 ^ 20 = ha in
    let low_b : 255 * 2 ^ 30 ≤ b * 2 ^ 5 = lb in
    let high_b : b * 2 ^ 5 < 255 * 2 ^ 30 + 255 * 2 ^ 20 = hb in
    let r : a * 2 ^ 5 / 2 ^ 12 % 2 ^ 16 ≡ b * 2 ^ 5 / 2 ^ 12 % 2 ^ 16 = root in
    let p : a * 2 ^ 5 / 2 ^ 12 ≡ b * 2 ^ 5 / 2 ^ 12 = omega arith in
    omega arith

root_place : (a b : ℕ) → root_start ≤ block_address a → block_address a < root_start + 2 ^ 18 → root_start ≤ block_address b → block_address b < root_start + 2 ^ 18
    → wired_frame (block_address a) ≡ wired_frame (block_address b) → a % 128 ≡ b % 128 → a ≡ b
root_place a b la ha lb hb root position =
    let low_a : 255 * 2 ^ 30 + 255 * 2 ^ 20 ≤ a * 2 ^ 5 = la in
    let high_a : a * 2 ^ 5 < 255 * 2 ^ 30 + 255 * 2 ^ 20 + 2 ^ 18 = ha in
    let low_b : 255 * 2 ^ 30 + 255 * 2 ^ 20 ≤ b * 2 ^ 5 = lb in
    let high_b : b * 2 ^ 5 < 255 * 2 ^ 30 + 255 * 2 ^ 20 + 2 ^ 18 = hb in
    let r : a * 2 ^ 5 / 2 ^ 12 % 2 ^ 6 ≡ b * 2 ^ 5 / 2 ^ 12 % 2 ^ 6 = root in
    let p : a * 2 ^ 5 / 2 ^ 12 ≡ b * 2 ^ 5 / 2 ^ 12 = omega arith in
    omega arith

low_wired : (n f g : ℕ) → 64 ≤ n → n ≡ f → f ≡ wired_frame g → ⊥
low_wired n f g low is wired = let small : wired_frame g < 64 = wired_small g in omega arith

pub one_place : (F : Flat) (a b f : ℕ) → HasTables F → StandsIn F a f → StandsIn F b f → a % 128 ≡ b % 128 → a ≡ b
one_place F a b f ok (OfPage la va na) (OfPage lb vb nb) pos = page_place a b (ok.apart (block_address a) (block_address b) la lb va vb (na ∙ sym nb)) pos
one_place F a b f ok (OfPage la va na) (OfTable lb hb vb nb) pos = absurd (ok.table_apart (block_address a) (root_word_of (block_address b)) la (root_small b lb hb) va vb (na ∙ sym nb))
one_place F a b f ok (OfPage la va na) (OfRoot lb hb nb) pos = let low = (ok.frame (block_address a) la va).low in absurd (low_wired (number_of (word_of F (block_address a))) f (block_address b) low na nb)
one_place F a b f ok (OfTable la ha va na) (OfPage lb vb nb) pos = absurd (ok.table_apart (block_address b) (root_word_of (block_address a)) lb (root_small a la ha) vb va (nb ∙ sym na))
one_place F a b f ok (OfTable la ha va na) (OfTable lb hb vb nb) pos =
    table_place a b la ha lb hb (ok.root_apart (root_word_of (block_address a)) (root_word_of (block_address b)) (root_small a la ha) (root_small b lb hb) va vb (na ∙ sym nb)) pos
one_place F a b f ok (OfTable la ha va na) (OfRoot lb hb nb) pos =
    let low = (ok.root_frame (root_word_of (block_address a)) (root_small a la ha) va).low in absurd (low_wired (number_of (slice_index F.words (root_word_of (block_address a)))) f (block_address b) low na nb)
one_place F a b f ok (OfRoot la ha na) (OfPage lb vb nb) pos = let low = (ok.frame (block_address b) lb vb).low in absurd (low_wired (number_of (word_of F (block_address b))) f (block_address a) low nb na)
one_place F a b f ok (OfRoot la ha na) (OfTable lb hb vb nb) pos =
    let low = (ok.root_frame (root_word_of (block_address b)) (root_small b lb hb) vb).low in absurd (low_wired (number_of (slice_index F.words (root_word_of (block_address b)))) f (block_address a) low nb na)
one_place F a b f ok (OfRoot la ha na) (OfRoot lb hb nb) pos = root_place a b la ha lb hb (sym na ∙ nb) pos

-- a frame in which a block stands is the memory's
pub room : (F : Flat) (a f : ℕ) → HasTables F → StandsIn F a f → f * 1024 + 1024 ≤ length F.words
room F a f ok (OfPage la va na) = subst (λ (n : ℕ). n * 1024 + 1024 ≤ length F.words) na (ok.frame (block_address a) la va).room
room F a f ok (OfTable la ha va na) = subst (λ (n : ℕ). n * 1024 + 1024 ≤ length F.words) na (ok.root_frame (root_word_of (block_address a)) (root_small a la ha) va).room
room F a f ok (OfRoot la ha na) =
    let small : wired_frame (block_address a) < 64 = wired_small (block_address a) in
    let enough : 65536 ≤ length F.words = ok.root in
    omega arith

-- a block that is not there, on whose place no owned line stands, and that stands in a frame, may be read from it
pub may_read : (caches : List (List (Option Line))) (memory : List ℕ) (b g frame : ℕ) → MayWalk caches memory → line_of_block caches b g ≡ None
    → ((line : Line) → occupant (get_or caches b []) g ≡ Some line → is_owned line.state ≡ false) → StandsIn (logical_flat caches memory) (block_of g) frame → MayRead caches memory b g frame
may_read caches memory b g frame may none victim stands =
    let F : Flat = logical_flat caches memory in
    record {
      room = subst (λ (n : ℕ). frame * 1024 + 1024 ≤ n) (length-logical caches memory) (room F (block_of g) frame may.tables stands);
      lacks = none;
      victim = victim;
      one_frame = λ (i s : ℕ) (line : Line) (there : line_in caches i s ≡ Some line) (tag : line.tag ≡ block_of g).
          one_frame F (block_of g) line.frame frame (subst (λ (n : ℕ). StandsIn F n line.frame) tag (may.mapped i s line there)) stands;
      one_place = λ (i s : ℕ) (line : Line) (there : line_in caches i s ≡ Some line) (frames : line.frame ≡ frame) (positions : line.tag % 128 ≡ block_of g % 128).
          one_place F line.tag (block_of g) frame may.tables (subst (λ (n : ℕ). StandsIn F line.tag n) frames (may.mapped i s line there)) stands positions;
    }

-- how a block of the page table stands, and one of the root
pub record IsTable (F : Flat) (block frame : ℕ) : Type 0 where
  pub valid : is_valid (slice_index F.words (root_word_of (block_address block))) ≡ true
  pub number : number_of (slice_index F.words (root_word_of (block_address block))) ≡ frame

pub stands_table : (F : Flat) (block frame : ℕ) → StandsIn F block frame → table_start ≤ block_address block → block_address block < root_start → IsTable F block frame
stands_table F block frame (OfPage la va na) from to = absurd (omega arith)
stands_table F block frame (OfTable la ha va na) from to = record { valid = va; number = na }
stands_table F block frame (OfRoot la ha na) from to = absurd (omega arith)

pub stands_root : (F : Flat) (block frame : ℕ) → StandsIn F block frame → root_start ≤ block_address block → frame ≡ wired_frame (block_address block)
stands_root F block frame (OfPage la va na) from = absurd (omega arith)
stands_root F block frame (OfTable la ha va na) from = absurd (omega arith)
stands_root F block frame (OfRoot la ha na) from = na

pub record IsUser (F : Flat) (block frame : ℕ) : Type 0 where
  pub valid : is_valid (word_of F (block_address block)) ≡ true
  pub number : number_of (word_of F (block_address block)) ≡ frame

pub stands_user : (F : Flat) (block frame : ℕ) → StandsIn F block frame → block_address block < table_start → IsUser F block frame
stands_user F block frame (OfPage la va na) low = record { valid = va; number = na }
stands_user F block frame (OfTable la ha va na) low = absurd (omega arith)
stands_user F block frame (OfRoot la ha na) low = absurd (omega arith)
