-- A flat state of three pages, each on its swap slot. It is valid.
use Rattle.std.proofs.Common.{◌≡◌, ◌≢◌, ℕ, ◌+◌, ◌*◌, ◌/◌, ◌%◌, ◌^◌, ◌-◌, ◌<◌, ◌≤◌, ◌⊎◌, inl, inr, zero, suc, ⊎_elim, true, false, not, ◌||◌, if◌then◌else◌, Option, Some, None, refl, sym, ap, ◌∙◌, subst, arith, List, [], ◌∷◌, length, slice_index, slice_set, IsTrue}
use Rattle.std.specs.Prelude.{replicate}
use Rattle.std.proofs.lemmas.Bool.{cases_eq, cases_lt}
use Rattle.std.proofs.lemmas.List.{get_or-replicate, get_or-set_same, get_or-set_other, length-replicate, length-set}
use Rattle.spur_addr.specs.declared.page_entry.Protection.{Protection}
use Rattle.spur_addr.specs.PageEntry.{is_valid, is_on_swap, is_readable, number_of, swapped_of}
use Rattle.spur_addr.proofs.EntryFacts.{is_valid-swapped, is_on_swap-swapped, is_leaving-swapped, number_of-swapped, swapped_readable}
use Rattle.spur_flat.specs.Table.{entry_at}
use Rattle.spur_flat.specs.Validity.{AreTables, HasEntry, IsTableFrame, IsValidFlat, StandsFor}

-- the words of such a state: root entry 0 names frame 64, where the entries of the pages 0, 1 and 2 stand
record AreSwapped (words : List ℕ) (p : Protection) : Type 0 where
  long : length words ≡ 68608
  root : slice_index words 0 ≡ 262167
  entry : (i : ℕ) → i < 3 → slice_index words (65536 + i) ≡ swapped_of i p
  rest : (k : ℕ) → k < 66560 → k ≢ 0 → (65536 ≤ k → 65539 ≤ k) → slice_index words k ≡ 0

stands_swapped : (i : ℕ) (p : Protection) → StandsFor i (swapped_of i p)
stands_swapped i p = record {
  one = is_valid-swapped i p ∙ ap not (sym (is_on_swap-swapped i p));
  slot = λ h. number_of-swapped i p;
  leaving = λ h. let no : false ≡ true = sym (is_leaving-swapped i p) ∙ h in cc;
}

not_valid : is_valid 0 ≡ true → ⊥
not_valid h = let no : false ≡ true = h in cc

root_is : (words : List ℕ) (p : Protection) → AreSwapped words p → (r : ℕ) → r < 2 ^ 16 → is_valid (slice_index words r) ≡ true → r ≡ 0
root_is words p ok r few valid =
    ⊎_elim (λ (h : r ≡ 0). h)
    (λ (h : r ≢ 0). absurd (not_valid (ap is_valid (sym (ok.rest r (omega arith) h (λ k. omega arith))) ∙ valid)))
    (cases_eq r 0)

abbrev under : List ℕ → ℕ → ℕ → Option ℕ
under words p root = if is_valid root then Some (slice_index words (number_of root * 1024 + p % 1024)) else None

some_same : (a b : ℕ) → Some a ≡ Some b → a ≡ b
some_same a b h = cc

-- the entry of a page below 3
entry_is : (words : List ℕ) (p : Protection) → AreSwapped words p → (i : ℕ) → i < 3 → entry_at words i ≡ Some (swapped_of i p)
entry_is words p ok i few =
    let first : i / 2 ^ 10 ≡ 0 = omega arith in
    let low : i % 1024 ≡ i = omega arith in
    ap (under words i) (ap (slice_index words) first ∙ ok.root) ∙ ap (λ (k : ℕ). Some (slice_index words (65536 + k))) low ∙ ap (λ (w : ℕ). Some w) (ok.entry i few)

-- every entry is that of one of them, or 0
data Kind (words : List ℕ) (p : Protection) (q e : ℕ) : Type 0 where
  Ours : q < 3 → e ≡ swapped_of q p → Kind words p q e
  Zero : e ≡ 0 → Kind words p q e

found_there : (words : List ℕ) (p : Protection) → AreSwapped words p → (q e : ℕ) → q / 2 ^ 10 ≡ 0 → entry_at words q ≡ Some e → slice_index words (65536 + q % 1024) ≡ e
found_there words p ok q e first there =
    let here : under words q 262167 ≡ Some e = ap (under words q) (sym (ap (slice_index words) first ∙ ok.root)) ∙ there in
    some_same (slice_index words (65536 + q % 1024)) e here

kind_first : (words : List ℕ) (p : Protection) → AreSwapped words p → (q e : ℕ) → q / 2 ^ 10 ≡ 0 → entry_at words q ≡ Some e → (q < 3) ⊎ (3 ≤ q) → Kind words p q e
kind_first words p ok q e first there (inl few) = Ours few (some_same e (swapped_of q p) (sym there ∙ entry_is words p ok q few))
kind_first words p ok q e first there (inr many) =
    Zero (sym (found_there words p ok q e first there) ∙ ok.rest (65536 + q % 1024) (omega arith) (λ h. omega arith) (λ h. omega arith))

kind_of : (words : List ℕ) (p : Protection) → AreSwapped words p → (q e : ℕ) → q < 2 ^ 26 → entry_at words q ≡ Some e → Kind words p q e
kind_of words p ok q e few there =
    ⊎_elim
    (λ (first : q / 2 ^ 10 ≡ 0). kind_first words p ok q e first there (cases_lt q 3))
    (λ (later : q / 2 ^ 10 ≢ 0).
    let zero_root : slice_index words (q / 2 ^ 10) ≡ 0 = ok.rest (q / 2 ^ 10) (omega arith) later (λ h. omega arith) in
    let none : None ≡ Some e = ap (under words q) (sym zero_root) ∙ there in
    cc)
    (cases_eq (q / 2 ^ 10) 0)

-- none of them is valid
never_valid : (words : List ℕ) (p : Protection) (q e : ℕ) → Kind words p q e → is_valid e ≡ true → ⊥
never_valid words p q e (Ours few is) h = let no : false ≡ true = sym (is_valid-swapped q p) ∙ ap is_valid (sym is) ∙ h in cc
never_valid words p q e (Zero is) h = not_valid (ap is_valid (sym is) ∙ h)

small_of : (words : List ℕ) (p : Protection) (q e : ℕ) → Kind words p q e → (is_valid e || is_on_swap e) ≡ true → q < 3
small_of words p q e (Ours few is) h = few
small_of words p q e (Zero is) h = let no : false ≡ true = ap (λ (w : ℕ). is_valid w || is_on_swap w) (sym is) ∙ h in cc

-- a position of the list of pages is its page
page_is : (i : ℕ) → i < 3 → slice_index (0 ∷ 1 ∷ 2 ∷ []) i ≡ i
page_is zero h = refl
page_is (suc zero) h = refl
page_is (suc (suc zero)) h = refl
page_is (suc (suc (suc i))) h = absurd (omega arith)

readable_first : (words : List ℕ) (p : Protection) → AreSwapped words p → (k : ℕ) → k < 66560 → k ≢ 0 → (k < 65536) ⊎ (65536 ≤ k) → (k < 65539) ⊎ (65539 ≤ k) → IsTrue (is_readable (slice_index words k))
readable_first words p ok k below away (inl low) more = subst (λ (w : ℕ). IsTrue (is_readable w)) (sym (ok.rest k below away (λ h. omega arith))) refl
readable_first words p ok k below away (inr high) (inr past) = subst (λ (w : ℕ). IsTrue (is_readable w)) (sym (ok.rest k below away (λ h. past))) refl
readable_first words p ok k below away (inr high) (inl few) =
    let i : ℕ = k - 65536 in
    let is : 65536 + i ≡ k = omega arith in
    subst (λ (w : ℕ). IsTrue (is_readable w)) (sym (ap (slice_index words) (sym is) ∙ ok.entry i (omega arith))) (swapped_readable i p)

tables-of-swapped : (words : List ℕ) (p : Protection) → AreSwapped words p → AreTables words (0 ∷ 1 ∷ 2 ∷ []) 1 2
tables-of-swapped words p ok = record {
  readable = λ k below. ⊎_elim
      (λ (h : k ≡ 0). subst (λ (w : ℕ). IsTrue (is_readable w)) (sym (ap (slice_index words) h ∙ ok.root)) refl)
      (λ (h : k ≢ 0). readable_first words p ok k below h (cases_lt k 65536) (cases_lt k 65539))
      (cases_eq k 0);
  root = λ r few v. subst (λ (w : ℕ). IsTableFrame 1 (number_of w)) (sym (ap (slice_index words) (root_is words p ok r few v) ∙ ok.root))
      (record { low = omega arith; high = omega arith });
  root_apart = λ r s few_r few_s v_r v_s n. root_is words p ok r few_r v_r ∙ sym (root_is words p ok s few_s v_s);
  declared = λ q e few there some.
      let small = small_of words p q e (kind_of words p ok q e few there) some in
      record { position = q; within = small; is = page_is q small };
  frame = λ q e few there v. absurd (never_valid words p q e (kind_of words p ok q e few there) v);
  frame_apart = λ q r d e few_q few_r at_q at_r v_d v_e n. absurd (never_valid words p q d (kind_of words p ok q d few_q at_q) v_d);
  each = λ i below. subst (λ (q : ℕ). HasEntry words i q) (sym (page_is i below))
      (record { entry = swapped_of i p; there = entry_is words p ok i below; stands = stands_swapped i p });
}

swapped-is-valid : (words swap : List ℕ) (p : Protection) → AreSwapped words p → length swap ≡ 3072
    → IsValidFlat (record { words = words; swap = swap; pages = 0 ∷ 1 ∷ 2 ∷ []; tables = 1; frames = 2 })
swapped-is-valid words swap p ok long = record {
  words = ok.long;
  swap = long;
  few_frames = omega arith;
  few_pages = omega arith;
  pages = record {
    small = λ i below. subst (λ (q : ℕ). q < 255 * 2 ^ 18) (sym (page_is i below)) (omega arith);
    differ = λ i j below_i below_j same. sym (page_is i below_i) ∙ same ∙ page_is j below_j;
  };
  tables = tables-of-swapped words p ok;
}

-- the words that the state is made of: zeros, with the root entry and the three entries put in
abbrev pub made : List ℕ → Protection → List ℕ
made zeros p = slice_set (slice_set (slice_set (slice_set zeros 0 262167) 65536 (swapped_of 0 p)) 65537 (swapped_of 1 p)) 65538 (swapped_of 2 p)

entries_made : (one : List ℕ) (p : Protection) → length one ≡ 68608 → (i : ℕ) → i < 3
    → slice_index (slice_set (slice_set (slice_set one 65536 (swapped_of 0 p)) 65537 (swapped_of 1 p)) 65538 (swapped_of 2 p)) (65536 + i) ≡ swapped_of i p
entries_made one p long zero few =
    get_or-set_other (slice_set (slice_set one 65536 (swapped_of 0 p)) 65537 (swapped_of 1 p)) 65538 65536 (swapped_of 2 p) 0 (λ h. omega arith)
    ∙ get_or-set_other (slice_set one 65536 (swapped_of 0 p)) 65537 65536 (swapped_of 1 p) 0 (λ h. omega arith)
    ∙ get_or-set_same one 65536 (swapped_of 0 p) 0 (omega arith)
entries_made one p long (suc zero) few =
    let long_two : length (slice_set one 65536 (swapped_of 0 p)) ≡ 68608 = length-set one 65536 (swapped_of 0 p) ∙ long in
    get_or-set_other (slice_set (slice_set one 65536 (swapped_of 0 p)) 65537 (swapped_of 1 p)) 65538 65537 (swapped_of 2 p) 0 (λ h. omega arith)
    ∙ get_or-set_same (slice_set one 65536 (swapped_of 0 p)) 65537 (swapped_of 1 p) 0 (omega arith)
entries_made one p long (suc (suc zero)) few =
    let two : List ℕ = slice_set one 65536 (swapped_of 0 p) in
    let long_three : length (slice_set two 65537 (swapped_of 1 p)) ≡ 68608 = length-set two 65537 (swapped_of 1 p) ∙ length-set one 65536 (swapped_of 0 p) ∙ long in
    get_or-set_same (slice_set two 65537 (swapped_of 1 p)) 65538 (swapped_of 2 p) 0 (omega arith)
entries_made one p long (suc (suc (suc i))) few = absurd (omega arith)

swapped-words : (zeros : List ℕ) (p : Protection) → length zeros ≡ 68608 → ((k : ℕ) → k < 68608 → slice_index zeros k ≡ 0) → AreSwapped (made zeros p) p
swapped-words zeros p long nought =
    let one : List ℕ = slice_set zeros 0 262167 in
    let two : List ℕ = slice_set one 65536 (swapped_of 0 p) in
    let three : List ℕ = slice_set two 65537 (swapped_of 1 p) in
    let long_one : length one ≡ 68608 = length-set zeros 0 262167 ∙ long in
    record {
      long = length-set three 65538 (swapped_of 2 p) ∙ length-set two 65537 (swapped_of 1 p) ∙ length-set one 65536 (swapped_of 0 p) ∙ long_one;
      root = get_or-set_other three 65538 0 (swapped_of 2 p) 0 (λ h. omega arith) ∙ get_or-set_other two 65537 0 (swapped_of 1 p) 0 (λ h. omega arith)
          ∙ get_or-set_other one 65536 0 (swapped_of 0 p) 0 (λ h. omega arith) ∙ get_or-set_same zeros 0 262167 0 (omega arith);
      entry = entries_made one p long_one;
      rest = λ k below not_root not_entry.
          get_or-set_other three 65538 k (swapped_of 2 p) 0 (λ h. let high : 65539 ≤ k = not_entry (omega arith) in omega arith)
          ∙ get_or-set_other two 65537 k (swapped_of 1 p) 0 (λ h. let high : 65539 ≤ k = not_entry (omega arith) in omega arith)
          ∙ get_or-set_other one 65536 k (swapped_of 0 p) 0 (λ h. let high : 65539 ≤ k = not_entry (omega arith) in omega arith)
          ∙ get_or-set_other zeros 0 k 262167 0 not_root ∙ nought k (omega arith);
    }

pub swapped-of-zeros : (n m place value : ℕ) (p : Protection) (zeros before swap words pages : List ℕ) → n ≡ 68608 → m ≡ 3072 → zeros ≡ replicate n 0 → before ≡ replicate m 0
    → swap ≡ slice_set before place value → words ≡ made zeros p → pages ≡ 0 ∷ 1 ∷ 2 ∷ []
    → IsValidFlat (record { words = words; swap = swap; pages = pages; tables = 1; frames = 2 })
swapped-of-zeros n m place value p zeros before swap words pages n_is m_is zeros_are before_is swap_is words_are pages_are =
    let long : length zeros ≡ 68608 = ap (λ (ws : List ℕ). length ws) zeros_are ∙ length-replicate n 0 ∙ n_is in
    let nought : (k : ℕ) → k < 68608 → slice_index zeros k ≡ 0 =
    λ k below. ap (λ (ws : List ℕ). slice_index ws k) zeros_are ∙ get_or-replicate n k 0 0 (omega arith) in
    let swap_long : length swap ≡ 3072 = ap (λ (ws : List ℕ). length ws) swap_is ∙ length-set before place value ∙ ap (λ (ws : List ℕ). length ws) before_is ∙ length-replicate m 0 ∙ m_is in
    let ok : AreSwapped words p = subst (λ (ws : List ℕ). AreSwapped ws p) (sym words_are) (swapped-words zeros p long nought) in
    subst (λ (ps : List ℕ). IsValidFlat (record { words = words; swap = swap; pages = ps; tables = 1; frames = 2 })) (sym pages_are)
    (swapped-is-valid words swap p ok swap_long)
