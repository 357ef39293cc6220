-- Tables that are the same: what stands in one flat state stands in the other.
use Rattle.std.proofs.Common.{◌≡◌, ◌∙◌, ℕ, ◌+◌, ◌*◌, ◌^◌, ◌<◌, ◌≤◌, true, ap, sym, subst, length, slice_index, arith}
use Rattle.std.specs.Prelude.{IsTrue}
use Rattle.spur_addr.specs.Address.{root_start, table_start}
use Rattle.spur_addr.specs.PageEntry.{is_valid, is_readable, is_dirty, number_of, protection_of}
use Rattle.spur_cache.specs.declared.line.Line.{Line}
use Rattle.spur_flat.specs.declared.flat.Flat.{Flat}
use Rattle.spur_flat.specs.Blocks.{root_word_of}
use Rattle.spur_flat.specs.Pager.{word_of}
use Rattle.spur_walk.specs.Tables.{HasTables, IsPageFrame, OfPage, OfRoot, OfTable, StandsIn, block_address, user_roots}
use Rattle.spur_walk.proofs.FillFacts.{Suits}
use Rattle.spur_walk.proofs.FrameFacts.{root_small}

-- a flat state with as many words, the same root, and the same entries of pages
pub record SameTables (F G : Flat) : Type 0 where
  pub size : length G.words ≡ length F.words
  pub root : (r : ℕ) → r < 2 ^ 16 → slice_index G.words r ≡ slice_index F.words r
  pub word : (to : ℕ) → to < table_start → word_of G to ≡ word_of F to

small : (r : ℕ) → r < user_roots → r < 2 ^ 16
small r few = let f : r < 255 * 2 ^ 8 = few in let g : r < 2 ^ 16 = omega arith in g

-- what is said of tables is said of it
module _ (F G : Flat) (s : SameTables F G) where
  pub is_frame : (n : ℕ) → IsPageFrame F n → IsPageFrame G n
  is_frame n f = record { low = f.low; room = subst (λ (m : ℕ). n * 1024 + 1024 ≤ m) (sym s.size) f.room }

  valid_root : (r : ℕ) → r < user_roots → is_valid (slice_index G.words r) ≡ true → is_valid (slice_index F.words r) ≡ true
  valid_root r few v = ap (λ (n : ℕ). is_valid n) (sym (s.root r (small r few))) ∙ v

  number_root : (r : ℕ) → r < user_roots → number_of (slice_index G.words r) ≡ number_of (slice_index F.words r)
  number_root r few = ap (λ (n : ℕ). number_of n) (s.root r (small r few))

  valid_word : (to : ℕ) → to < table_start → is_valid (word_of G to) ≡ true → is_valid (word_of F to) ≡ true
  valid_word to user v = ap (λ (n : ℕ). is_valid n) (sym (s.word to user)) ∙ v

  number_word : (to : ℕ) → to < table_start → number_of (word_of G to) ≡ number_of (word_of F to)
  number_word to user = ap (λ (n : ℕ). number_of n) (s.word to user)

  pub tables-same : HasTables F → HasTables G
  tables-same ok = record {
    root = subst (λ (m : ℕ). 2 ^ 16 ≤ m) (sym s.size) ok.root;
    root_readable = λ (r : ℕ) (few : r < user_roots). subst (λ (n : ℕ). IsTrue (is_readable n)) (sym (s.root r (small r few))) (ok.root_readable r few);
    readable = λ (to : ℕ) (user : to < table_start). subst (λ (n : ℕ). IsTrue (is_readable n)) (sym (s.word to user)) (ok.readable to user);
    root_frame = λ (r : ℕ) (few : r < user_roots) (v : is_valid (slice_index G.words r) ≡ true).
        is_frame (number_of (slice_index G.words r)) (subst (λ (n : ℕ). IsPageFrame F n) (sym (number_root r few)) (ok.root_frame r few (valid_root r few v)));
    frame = λ (to : ℕ) (user : to < table_start) (v : is_valid (word_of G to) ≡ true).
        is_frame (number_of (word_of G to)) (subst (λ (n : ℕ). IsPageFrame F n) (sym (number_word to user)) (ok.frame to user (valid_word to user v)));
    root_apart = λ (r t : ℕ) (fr : r < user_roots) (ft : t < user_roots) (vr : is_valid (slice_index G.words r) ≡ true) (vt : is_valid (slice_index G.words t) ≡ true) (same : number_of (slice_index G.words r) ≡ number_of (slice_index G.words t)).
        ok.root_apart r t fr ft (valid_root r fr vr) (valid_root t ft vt) (sym (number_root r fr) ∙ same ∙ number_root t ft);
    apart = λ (at to : ℕ) (ua : at < table_start) (ut : to < table_start) (va : is_valid (word_of G at) ≡ true) (vt : is_valid (word_of G to) ≡ true) (same : number_of (word_of G at) ≡ number_of (word_of G to)).
        ok.apart at to ua ut (valid_word at ua va) (valid_word to ut vt) (sym (number_word at ua) ∙ same ∙ number_word to ut);
    table_apart = λ (at r : ℕ) (ua : at < table_start) (fr : r < user_roots) (va : is_valid (word_of G at) ≡ true) (vr : is_valid (slice_index G.words r) ≡ true) (same : number_of (word_of G at) ≡ number_of (slice_index G.words r)).
        ok.table_apart at r ua fr (valid_word at ua va) (valid_root r fr vr) (sym (number_word at ua) ∙ same ∙ number_root r fr);
  }

  root_block_word : (block : ℕ) → table_start ≤ block_address block → block_address block < root_start → slice_index G.words (root_word_of (block_address block)) ≡ slice_index F.words (root_word_of (block_address block))
  root_block_word block from to = s.root (root_word_of (block_address block)) (small (root_word_of (block_address block)) (root_small block from to))

  pub stands-same : (block frame : ℕ) → StandsIn F block frame → StandsIn G block frame
  stands-same block frame (OfPage low valid number) = OfPage low (ap (λ (n : ℕ). is_valid n) (s.word (block_address block) low) ∙ valid) (number_word (block_address block) low ∙ number)
  stands-same block frame (OfTable from to valid number) =
      OfTable from to (ap (λ (n : ℕ). is_valid n) (root_block_word block from to) ∙ valid) (ap (λ (n : ℕ). number_of n) (root_block_word block from to) ∙ number)
  stands-same block frame (OfRoot from to wired) = OfRoot from to wired

  pub suits-same : (line : Line) → Suits F line → Suits G line
  suits-same line suits = record {
    user = λ (low : block_address line.tag < table_start).
        let was = suits.user low in
        let word : word_of G (block_address line.tag) ≡ word_of F (block_address line.tag) = s.word (block_address line.tag) low in
        record {
          valid = ap (λ (n : ℕ). is_valid n) word ∙ was.valid;
          frame = ap (λ (n : ℕ). number_of n) word ∙ was.frame;
          prot = ap (λ (n : ℕ). protection_of n) word ∙ was.prot;
          dirty = λ (d : line.dirty ≡ true). ap (λ (n : ℕ). is_dirty n) word ∙ was.dirty d;
        };
    table = λ (from : table_start ≤ block_address line.tag) (to : block_address line.tag < root_start).
        ap (λ (n : ℕ). number_of n) (root_block_word line.tag from to) ∙ suits.table from to;
    root = suits.root;
    unowned = suits.unowned;
  }
