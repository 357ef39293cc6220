-- The tables of a valid flat state.
use Rattle.std.proofs.Common.{◌≡◌, ◌∙◌, ℕ, ◌+◌, ◌*◌, ◌/◌, ◌%◌, ◌^◌, ◌<◌, ◌≤◌, Bool, true, false, if◌then◌else◌, ap, sym, refl, List, length, slice_index, Option, Some, None, arith}
use Rattle.std.specs.Prelude.{IsTrue}
use Rattle.std.proofs.lemmas.List.{get_or-take}
use Rattle.spur_addr.specs.Address.{page_of, table_start}
use Rattle.spur_addr.specs.PageEntry.{is_valid, is_readable, number_of}
use Rattle.spur_flat.specs.declared.flat.Flat.{Flat}
use Rattle.spur_flat.specs.Pager.{or_zero, word_of}
use Rattle.spur_flat.specs.Table.{entry_at, table_words, walk_of}
use Rattle.spur_flat.specs.Untold.{IsLike}
use Rattle.spur_flat.specs.Validity.{IsDataFrame, IsTableFrame, IsValidFlat}
use Rattle.spur_flat.proofs.WalkFacts.{walk_of-entry}
use Rattle.spur_bus.specs.Logical.{logical_words}
use Rattle.spur_bus.specs.Stand.{flat_of}
use Rattle.spur_walk.specs.Tables.{HasTables, IsPageFrame, flat_of_words, user_roots}
use Rattle.spur_walk.specs.Laws.{LikeHasTables, ValidHasTables}

walk_there : (o : Option ℕ) → is_valid (or_zero o) ≡ true → o ≡ Some (or_zero o)
walk_there None h = cc
walk_there (Some e) h = refl

-- an entry of a valid flat state
pub entry_is : (F : Flat) (at : ℕ) → is_valid (word_of F at) ≡ true → entry_at F.words (page_of at) ≡ Some (word_of F at)
entry_is F at valid = sym (walk_of-entry F at) ∙ walk_there (walk_of F at) valid

small_page : (at : ℕ) → at < table_start → page_of at < 2 ^ 26
small_page at user = let u : at < 255 * 2 ^ 30 = user in let r : at / 2 ^ 12 < 2 ^ 26 = omega arith in r

small_root : (r : ℕ) → r < user_roots → r < 2 ^ 16
small_root r small = let s : r < 255 * 2 ^ 8 = small in omega arith

readable_at : (F : Flat) (r p : ℕ) (v : Bool) → IsValidFlat F → r < 2 ^ 16 → is_valid (slice_index F.words r) ≡ v
    → IsTrue (is_readable (or_zero (if v then Some (slice_index F.words (number_of (slice_index F.words r) * 1024 + p % 1024)) else None)))
readable_at F r p true ok small valid =
    let frame = ok.tables.root r small valid in
    let high : number_of (slice_index F.words r) < 64 + F.tables = frame.high in
    ok.tables.readable (number_of (slice_index F.words r) * 1024 + p % 1024) (below (number_of (slice_index F.words r)) p F.tables high)
  where
    below : (n p t : ℕ) → n < 64 + t → n * 1024 + p % 1024 < table_words t
    below n p t high = let r : n * 1024 + p % 1024 < 1024 * (64 + t) = omega arith in r
readable_at F r p false ok small valid = refl

readable : (F : Flat) (at : ℕ) → IsValidFlat F → at < table_start → IsTrue (is_readable (word_of F at))
readable F at ok user =
    let u : at < 255 * 2 ^ 30 = user in
    readable_at F (at / 2 ^ 22) (at / 2 ^ 12) (is_valid (slice_index F.words (at / 2 ^ 22))) ok (omega arith) refl

table_frame : (F : Flat) (n : ℕ) → IsValidFlat F → IsTableFrame F.tables n → IsPageFrame F n
table_frame F n ok frame =
    let low : 64 ≤ n = frame.low in
    let high : n < 64 + F.tables = frame.high in
    let size : length F.words ≡ 1024 * (64 + F.tables + F.frames) = ok.words in
    record { low = low; room = omega arith }

data_frame : (F : Flat) (n : ℕ) → IsValidFlat F → IsDataFrame F.tables F.frames n → IsPageFrame F n
data_frame F n ok frame =
    let low : 64 + F.tables ≤ n = frame.low in
    let high : n < 64 + F.tables + F.frames = frame.high in
    let size : length F.words ≡ 1024 * (64 + F.tables + F.frames) = ok.words in
    record { low = omega arith; room = omega arith }

root_readable : (F : Flat) (r : ℕ) → IsValidFlat F → r < user_roots → IsTrue (is_readable (slice_index F.words r))
root_readable F r ok small =
    let s : r < 255 * 2 ^ 8 = small in
    ok.tables.readable r (below r F.tables s)
  where
    below : (r t : ℕ) → r < 255 * 2 ^ 8 → r < table_words t
    below r t small = let k : r < 1024 * (64 + t) = omega arith in k

apart_frames : (t f n m : ℕ) → IsDataFrame t f n → IsTableFrame t m → n ≡ m → ⊥
apart_frames t f n m data_is table_is same =
    let low : 64 + t ≤ n = data_is.low in
    let high : m < 64 + t = table_is.high in
    omega arith

pub tables : (F : Flat) → IsValidFlat F → HasTables F
tables F ok = record {
  root = let size : length F.words ≡ 1024 * (64 + F.tables + F.frames) = ok.words in omega arith;
  root_readable = λ (r : ℕ) (small : r < user_roots). root_readable F r ok small;
  readable = λ (at : ℕ) (user : at < table_start). readable F at ok user;
  root_frame = λ (r : ℕ) (small : r < user_roots) (valid : is_valid (slice_index F.words r) ≡ true). table_frame F (number_of (slice_index F.words r)) ok (ok.tables.root r (small_root r small) valid);
  frame = λ (at : ℕ) (user : at < table_start) (valid : is_valid (word_of F at) ≡ true).
      data_frame F (number_of (word_of F at)) ok (ok.tables.frame (page_of at) (word_of F at) (small_page at user) (entry_is F at valid) valid);
  root_apart = λ (r s : ℕ) (small_r : r < user_roots) (small_s : s < user_roots) (valid_r : is_valid (slice_index F.words r) ≡ true) (valid_s : is_valid (slice_index F.words s) ≡ true) (same : number_of (slice_index F.words r) ≡ number_of (slice_index F.words s)).
      ok.tables.root_apart r s (small_root r small_r) (small_root s small_s) valid_r valid_s same;
  apart = λ (at to : ℕ) (user_at : at < table_start) (user_to : to < table_start) (valid_at : is_valid (word_of F at) ≡ true) (valid_to : is_valid (word_of F to) ≡ true) (same : number_of (word_of F at) ≡ number_of (word_of F to)).
      ok.tables.frame_apart (page_of at) (page_of to) (word_of F at) (word_of F to) (small_page at user_at) (small_page to user_to) (entry_is F at valid_at) (entry_is F to valid_to) valid_at valid_to same;
  table_apart = λ (at r : ℕ) (user : at < table_start) (small : r < user_roots) (valid : is_valid (word_of F at) ≡ true) (valid_r : is_valid (slice_index F.words r) ≡ true) (same : number_of (word_of F at) ≡ number_of (slice_index F.words r)).
      apart_frames F.tables F.frames (number_of (word_of F at)) (number_of (slice_index F.words r))
      (ok.tables.frame (page_of at) (word_of F at) (small_page at user) (entry_is F at valid) valid) (ok.tables.root r (small_root r small) valid_r) same;
}

-- words by themselves have the same tables
pub tables_alone : (rest : Flat) (words : List ℕ) → IsValidFlat (record rest { words = words }) → HasTables (flat_of_words words)
tables_alone rest words ok =
    let all = tables (record rest { words = words }) ok in
    record {
      root = all.root;
      root_readable = all.root_readable;
      readable = all.readable;
      root_frame = λ (r : ℕ) (small : r < user_roots) (valid : is_valid (slice_index words r) ≡ true). let f = all.root_frame r small valid in record { low = f.low; room = f.room };
      frame = λ (at : ℕ) (user : at < table_start) (valid : is_valid (word_of (record rest { words = words }) at) ≡ true). let f = all.frame at user valid in record { low = f.low; room = f.room };
      root_apart = all.root_apart;
      apart = all.apart;
      table_apart = all.table_apart;
    }

pub valid-tables : ValidHasTables
valid-tables rest caches memory ok = tables_alone rest (logical_words caches memory) ok

-- words that are taken from the same tables
taken : (F other : Flat) (k : ℕ) → IsLike F other → k < table_words other.tables → slice_index F.words k ≡ slice_index other.words k
taken F other k like below =
    sym (get_or-take (table_words other.tables) F.words k 0 below) ∙ ap (λ (ws : List ℕ). slice_index ws k) like.table ∙ get_or-take (table_words other.tables) other.words k 0 below

pub like-tables : LikeHasTables
like-tables rest F caches memory ok like =
    let L : Flat = flat_of rest caches memory in
    record {
      root = λ (r : ℕ) (small : r < 2 ^ 16). taken F L r like (in_root r L.tables small);
      table = λ (r k : ℕ) (small : r < 2 ^ 16) (within : k < 1024) (valid : is_valid (slice_index (logical_words caches memory) r) ≡ true).
          let frame = ok.tables.root r small valid in
          taken F L (number_of (slice_index (logical_words caches memory) r) * 1024 + k) like (in_table (number_of (slice_index (logical_words caches memory) r)) k L.tables frame.high within);
    }
  where
    in_root : (r t : ℕ) → r < 2 ^ 16 → r < table_words t
    in_root r t small = let s : r < 1024 * (64 + t) = omega arith in s

    in_table : (n k t : ℕ) → n < 64 + t → k < 1024 → n * 1024 + k < table_words t
    in_table n k t high within = let s : n * 1024 + k < 1024 * (64 + t) = omega arith in s
