-- The machine of the tests: one empty cache, and a memory with one root entry and the entry of page 0.
use Rattle.std.proofs.Common.{◌≡◌, ◌≢◌, ◌∙◌, ℕ, ◌+◌, ◌*◌, ◌/◌, ◌%◌, ◌^◌, ◌<◌, ◌≤◌, ◌==◌, ◌&&◌, ◌||◌, ◌⊎◌, inl, inr, ⊎_elim, Bool, true, false, not, if◌then◌else◌, ap, sym, refl, subst, List, [], ◌∷◌, length, replicate, slice_index, slice_set, Option, Some, None, arith}
use Rattle.std.specs.Prelude.{IsTrue}
use Rattle.std.proofs.lemmas.Bool.{cases_eq, eqb-true}
use Rattle.std.proofs.lemmas.List.{get_or-replicate, get_or-set_same, get_or-set_other, length-replicate, length-set}
use Rattle.std.proofs.lemmas.Nat.{shr-shr}
use Rattle.spur_addr.specs.Address.{page_of, table_start}
use Rattle.spur_addr.specs.PageEntry.{is_valid, is_readable, number_of}
use Rattle.spur_cache.specs.declared.line.Line.{Line}
use Rattle.spur_cache.specs.Lines.{IsCache}
use Rattle.spur_snoop.specs.Size.{IsLineCount}
use Rattle.spur_flat.specs.Pager.{or_zero, word_of}
use Rattle.spur_bus.specs.Boards.{line_in}
use Rattle.spur_bus.proofs.EmptyFacts.{agrees-empty, serves-empty}
use Rattle.spur_walk.specs.Begins.{may_begin}
use Rattle.spur_walk.specs.Tables.{HasTables, IsPageFrame, flat_of_words, logical_flat, root_at, user_roots}
use Rattle.spur_walk.specs.Present.{MayWalk}
use Rattle.spur_walk.proofs.BeginFacts.{logical_memory, no_line}

-- the words of the memory
pub record AreWords (words : List ℕ) (root entry : ℕ) : Type 0 where
  pub long : length words ≡ 67584
  pub root_is : slice_index words 0 ≡ root
  pub entry_is : slice_index words 65536 ≡ entry
  pub rest : (k : ℕ) → k < 67584 → k ≢ 0 → k ≢ 65536 → slice_index words k ≡ 0

pub words_are : (root entry : ℕ) → AreWords (slice_set (slice_set (replicate 67584 0) 0 root) 65536 entry) root entry
words_are root entry =
    let none : ℕ = 0 in
    made (replicate 67584 none) root entry (length-replicate 67584 none) (λ (k : ℕ) (within : k < 67584). get_or-replicate 67584 k none none within)
  where
    made : (zeros : List ℕ) (root entry : ℕ) → length zeros ≡ 67584 → ((k : ℕ) → k < 67584 → slice_index zeros k ≡ 0) → AreWords (slice_set (slice_set zeros 0 root) 65536 entry) root entry
    made zeros root entry long zero_at =
        let one : List ℕ = slice_set zeros 0 root in
        let long_one : length one ≡ 67584 = length-set zeros 0 root ∙ long in
        record {
          long = length-set one 65536 entry ∙ long_one;
          root_is = get_or-set_other one 65536 0 entry 0 (λ h. omega arith) ∙ get_or-set_same zeros 0 root 0 (omega arith);
          entry_is = get_or-set_same one 65536 entry 0 (omega arith);
          rest = λ (k : ℕ) (within : k < 67584) (not_root : k ≢ 0) (not_entry : k ≢ 65536).
              get_or-set_other one 65536 k entry 0 not_entry ∙ get_or-set_other zeros 0 k root 0 not_root ∙ zero_at k within;
        }

-- what the entries are
pub record AreEntries (root entry : ℕ) : Type 0 where
  pub root_is : (root ≡ 0) ⊎ (root ≡ 262167)
  pub readable : IsTrue (is_readable entry)
  pub frame : is_valid entry ≡ true → number_of entry ≡ 65

one_of_two : (a b : Bool) → (a || b) ≡ true → (a ≡ true) ⊎ (b ≡ true)
one_of_two true b h = inl refl
one_of_two false b h = inr h

both_parts : (a b : Bool) → (a && b) ≡ true → (a ≡ true) × (b ≡ true)
both_parts true b h = (refl, h)
both_parts false b h = cc

if_valid : (v n : Bool) → (not v || n) ≡ true → v ≡ true → n ≡ true
if_valid true n h is = h
if_valid false n h is = cc

pub entries_are : (root entry : ℕ) → IsTrue (is_readable entry) → may_begin root entry ≡ true → AreEntries root entry
entries_are root entry readable h =
    let both = both_parts ((root == 0) || (root == 262167)) (not (is_valid entry) || (number_of entry == 65)) h in
    record {
      root_is = ⊎_elim
          (λ (none : (root == 0) ≡ true). inl (eqb-true root 0 none))
          (λ (some : (root == 262167) ≡ true). inr (eqb-true root 262167 some))
          (one_of_two (root == 0) (root == 262167) both.0);
      readable = readable;
      frame = λ (valid : is_valid entry ≡ true). eqb-true (number_of entry) 65 (if_valid (is_valid entry) (number_of entry == 65) both.1 valid);
    }

not_valid : is_valid 0 ≡ true → ⊥
not_valid h = let no : false ≡ true = h in cc

-- a valid root entry is the first, and names frame 64
valid_root : (words : List ℕ) (root entry r : ℕ) → AreWords words root entry → r < 2 ^ 16 → is_valid (slice_index words r) ≡ true → r ≡ 0
valid_root words root entry r are small valid =
    ⊎_elim (λ (h : r ≡ 0). h)
    (λ (h : r ≢ 0). absurd (not_valid (ap is_valid (sym (are.rest r (omega arith) h (λ k. omega arith))) ∙ valid)))
    (cases_eq r 0)

root_word : (words : List ℕ) (root entry r : ℕ) → AreWords words root entry → AreEntries root entry → r < 2 ^ 16 → is_valid (slice_index words r) ≡ true → slice_index words r ≡ 262167
root_word words root entry r are entries small valid =
    let first : r ≡ 0 = valid_root words root entry r are small valid in
    let is : slice_index words r ≡ root = ap (slice_index words) first ∙ are.root_is in
    ⊎_elim
    (λ (none : root ≡ 0). absurd (not_valid (ap is_valid (sym (is ∙ none)) ∙ valid)))
    (λ (some : root ≡ 262167). is ∙ some)
    entries.root_is

-- the entry of a page is that of page 0, or zero
abbrev under : List ℕ → ℕ → ℕ → ℕ
under words p root = or_zero (if is_valid root then Some (slice_index words (number_of root * 1024 + p % 1024)) else None)

under_root : (words : List ℕ) (root entry p : ℕ) → AreWords words root entry → p < 1024 → (under words p 262167 ≡ 0) ⊎ ((under words p 262167 ≡ entry) × (p ≡ 0))
under_root words root entry p are small =
    ⊎_elim
    (λ (h : p ≡ 0). inr (ap (λ (k : ℕ). under words k 262167) h ∙ are.entry_is, h))
    (λ (h : p ≢ 0). inl (are.rest (65536 + p % 1024) (omega arith) (λ k. omega arith) (λ k. h (omega arith))))
    (cases_eq p 0)

entry_in : (words : List ℕ) (root entry p r : ℕ) (v : Bool) → AreWords words root entry → AreEntries root entry → r < 2 ^ 16 → p / 2 ^ 10 ≡ r → is_valid (slice_index words r) ≡ v
    → (under words p (slice_index words r) ≡ 0) ⊎ ((under words p (slice_index words r) ≡ entry) × (p ≡ 0))
entry_in words root entry p r false are entries small high valid =
    inl (ap (λ (x : Bool). or_zero (if x then Some (slice_index words (number_of (slice_index words r) * 1024 + p % 1024)) else None)) valid)
entry_in words root entry p r true are entries small high valid =
    let is : slice_index words r ≡ 262167 = root_word words root entry r are entries small valid in
    let first : r ≡ 0 = valid_root words root entry r are small valid in
    let low : p < 1024 = omega arith in
    subst (λ (w : ℕ). (under words p w ≡ 0) ⊎ ((under words p w ≡ entry) × (p ≡ 0))) (sym is) (under_root words root entry p are low)

entry_at : (words : List ℕ) (root entry at : ℕ) → AreWords words root entry → AreEntries root entry → at < table_start → (word_of (flat_of_words words) at ≡ 0) ⊎ ((word_of (flat_of_words words) at ≡ entry) × (page_of at ≡ 0))
entry_at words root entry at are entries user =
    let u : at < 255 * 2 ^ 30 = user in
    entry_in words root entry (at / 2 ^ 12) (at / 2 ^ 22) (is_valid (slice_index words (at / 2 ^ 22))) are entries (omega arith) (shr-shr at 12 10) refl

pub record IsEntry (words : List ℕ) (entry at : ℕ) : Type 0 where
  pub is : word_of (flat_of_words words) at ≡ entry
  pub page : page_of at ≡ 0

valid_entry : (words : List ℕ) (root entry at : ℕ) → AreWords words root entry → AreEntries root entry → at < table_start → is_valid (word_of (flat_of_words words) at) ≡ true → IsEntry words entry at
valid_entry words root entry at are entries user valid =
    ⊎_elim
    (λ (none : word_of (flat_of_words words) at ≡ 0). absurd (not_valid (ap is_valid (sym none) ∙ valid)))
    (λ (some : (word_of (flat_of_words words) at ≡ entry) × (page_of at ≡ 0)). record { is = some.0; page = some.1 })
    (entry_at words root entry at are entries user)

readable_entry : (words : List ℕ) (root entry at : ℕ) → AreWords words root entry → AreEntries root entry → at < table_start → IsTrue (is_readable (word_of (flat_of_words words) at))
readable_entry words root entry at are entries user =
    ⊎_elim
    (λ (none : word_of (flat_of_words words) at ≡ 0). subst (λ (w : ℕ). IsTrue (is_readable w)) (sym none) refl)
    (λ (some : (word_of (flat_of_words words) at ≡ entry) × (page_of at ≡ 0)). subst (λ (w : ℕ). IsTrue (is_readable w)) (sym some.0) entries.readable)
    (entry_at words root entry at are entries user)

readable_root : (words : List ℕ) (root entry r : ℕ) → AreWords words root entry → AreEntries root entry → r < 2 ^ 16 → IsTrue (is_readable (slice_index words r))
readable_root words root entry r are entries small =
    ⊎_elim
    (λ (h : r ≡ 0). ⊎_elim
    (λ (none : root ≡ 0). subst (λ (w : ℕ). IsTrue (is_readable w)) (sym (ap (slice_index words) h ∙ are.root_is ∙ none)) refl)
    (λ (some : root ≡ 262167). subst (λ (w : ℕ). IsTrue (is_readable w)) (sym (ap (slice_index words) h ∙ are.root_is ∙ some)) refl)
    entries.root_is)
    (λ (h : r ≢ 0). subst (λ (w : ℕ). IsTrue (is_readable w)) (sym (are.rest r (omega arith) h (λ k. omega arith))) refl)
    (cases_eq r 0)

small_root : (r : ℕ) → r < user_roots → r < 2 ^ 16
small_root r small = let s : r < 255 * 2 ^ 8 = small in omega arith

frame_of_root : (words : List ℕ) (root entry r : ℕ) → AreWords words root entry → AreEntries root entry → r < 2 ^ 16 → is_valid (slice_index words r) ≡ true → number_of (slice_index words r) ≡ 64
frame_of_root words root entry r are entries small valid = ap (λ (w : ℕ). number_of w) (root_word words root entry r are entries small valid)

frame_of_entry : (words : List ℕ) (root entry at : ℕ) → AreWords words root entry → AreEntries root entry → at < table_start → is_valid (word_of (flat_of_words words) at) ≡ true → number_of (word_of (flat_of_words words) at) ≡ 65
frame_of_entry words root entry at are entries user valid =
    let e = valid_entry words root entry at are entries user valid in
    ap (λ (w : ℕ). number_of w) e.is ∙ entries.frame (ap (λ (w : ℕ). is_valid w) (sym e.is) ∙ valid)

in_frame : (words : List ℕ) (n f : ℕ) → length words ≡ 67584 → n ≡ f → 64 ≤ f → f ≤ 65 → IsPageFrame (flat_of_words words) n
in_frame words n f long is low high = record { low = omega arith; room = omega arith }

pub has_tables : (words : List ℕ) (root entry : ℕ) → AreWords words root entry → AreEntries root entry → HasTables (flat_of_words words)
has_tables words root entry are entries = record {
  root = let long : length words ≡ 67584 = are.long in omega arith;
  root_readable = λ (r : ℕ) (small : r < user_roots). readable_root words root entry r are entries (small_root r small);
  readable = λ (at : ℕ) (user : at < table_start). readable_entry words root entry at are entries user;
  root_frame = λ (r : ℕ) (small : r < user_roots) (valid : is_valid (slice_index words r) ≡ true).
      in_frame words (number_of (slice_index words r)) 64 are.long (frame_of_root words root entry r are entries (small_root r small) valid) (omega arith) (omega arith);
  frame = λ (at : ℕ) (user : at < table_start) (valid : is_valid (word_of (flat_of_words words) at) ≡ true).
      in_frame words (number_of (word_of (flat_of_words words) at)) 65 are.long (frame_of_entry words root entry at are entries user valid) (omega arith) (omega arith);
  root_apart = λ (r s : ℕ) (small_r : r < user_roots) (small_s : s < user_roots) (valid_r : is_valid (slice_index words r) ≡ true) (valid_s : is_valid (slice_index words s) ≡ true) (same : number_of (slice_index words r) ≡ number_of (slice_index words s)).
      valid_root words root entry r are (small_root r small_r) valid_r ∙ sym (valid_root words root entry s are (small_root s small_s) valid_s);
  apart = λ (at to : ℕ) (user_at : at < table_start) (user_to : to < table_start) (valid_at : is_valid (word_of (flat_of_words words) at) ≡ true) (valid_to : is_valid (word_of (flat_of_words words) to) ≡ true)
      (same : number_of (word_of (flat_of_words words) at) ≡ number_of (word_of (flat_of_words words) to)).
      (valid_entry words root entry at are entries user_at valid_at).page ∙ sym (valid_entry words root entry to are entries user_to valid_to).page;
  table_apart = λ (at r : ℕ) (user : at < table_start) (small : r < user_roots) (valid : is_valid (word_of (flat_of_words words) at) ≡ true) (valid_r : is_valid (slice_index words r) ≡ true)
      (same : number_of (word_of (flat_of_words words) at) ≡ number_of (slice_index words r)).
      differ (number_of (word_of (flat_of_words words) at)) (number_of (slice_index words r)) (frame_of_entry words root entry at are entries user valid) (frame_of_root words root entry r are entries (small_root r small) valid_r) same;
}
  where
    differ : (n m : ℕ) → n ≡ 65 → m ≡ 64 → n ≡ m → ⊥
    differ n m hn hm same = omega arith

-- so the walk may be done on it
may_walk_in : (k : ℕ) (memory : List ℕ) (root entry : ℕ) → IsLineCount k → AreWords memory root entry → AreEntries root entry → MayWalk (replicate k None ∷ []) memory
may_walk_in k memory root entry count are entries = record {
  agree = agrees-empty 1 k (omega arith) (omega arith) count;
  serves = serves-empty 1 k memory;
  tables = subst (λ (ws : List ℕ). HasTables (flat_of_words ws)) (sym (logical_memory 1 k memory)) (has_tables memory root entry are entries);
  mapped = λ (i s : ℕ) (line : Line) (there : line_in (replicate k None ∷ []) i s ≡ Some line). absurd (no_line 1 k i s line there);
}

pub may_walk : (k : ℕ) (cache : List (Option Line)) (memory : List ℕ) (root entry : ℕ) → cache ≡ replicate k None → IsCache cache → memory ≡ slice_set (slice_set (replicate 67584 0) 0 root) 65536 entry → AreEntries root entry → MayWalk (cache ∷ []) memory
may_walk k cache memory root entry empty sound is entries =
    let count : IsLineCount k = subst IsLineCount (ap (λ (ls : List (Option Line)). length ls) empty ∙ length-replicate k None) sound.count in
    subst (λ (ls : List (Option Line)). MayWalk (ls ∷ []) memory) (sym empty)
    (may_walk_in k memory root entry count (subst (λ (ws : List ℕ). AreWords ws root entry) (sym is) (words_are root entry)) entries)

-- and its root entry is valid
root_valid_in : (k : ℕ) (memory : List ℕ) (root entry : ℕ) → AreWords memory root entry → root ≡ 262167 → is_valid (root_at (logical_flat (replicate k None ∷ []) memory) 0) ≡ true
root_valid_in k memory root entry are is =
    ap (λ (ws : List ℕ). is_valid (slice_index ws 0)) (logical_memory 1 k memory) ∙ ap (λ (w : ℕ). is_valid w) (are.root_is ∙ is)

pub root_valid : (k : ℕ) (cache : List (Option Line)) (memory : List ℕ) (root entry : ℕ) → cache ≡ replicate k None → memory ≡ slice_set (slice_set (replicate 67584 0) 0 root) 65536 entry → root ≡ 262167
    → is_valid (root_at (logical_flat (cache ∷ []) memory) 0) ≡ true
root_valid k cache memory root entry empty words is =
    subst (λ (ls : List (Option Line)). is_valid (root_at (logical_flat (ls ∷ []) memory) 0) ≡ true) (sym empty)
    (root_valid_in k memory root entry (subst (λ (ws : List ℕ). AreWords ws root entry) (sym words) (words_are root entry)) is)
