-- A flat state of two pages on swap, in whose memory every word but three is zero. It is valid.
use Rattle.std.proofs.Common.{◌≡◌, ◌≢◌, ℕ, ◌+◌, ◌*◌, ◌/◌, ◌%◌, ◌^◌, ◌<◌, ⊎_elim, true, false, ◌||◌, if◌then◌else◌, Option, Some, None, refl, sym, ap, ◌∙◌, subst, arith, List, [], ◌∷◌, length, slice_index, slice_set, IsTrue}
use Rattle.std.specs.Prelude.{replicate}
use Rattle.std.proofs.lemmas.Bool.{cases_eq}
use Rattle.std.proofs.lemmas.List.{get_or-replicate, get_or-set_same, get_or-set_other, length-replicate, length-set}
use Rattle.spur_addr.specs.PageEntry.{is_valid, is_on_swap, is_readable, number_of}
use Rattle.spur_flat.specs.Table.{entry_at}
use Rattle.spur_flat.specs.Validity.{AreTables, HasEntry, IsDeclared, IsTableFrame, IsValidFlat}
use Rattle.spur_flat.proofs.TableFacts.{some_same}

-- the words of such a state: root entry 0 names frame 64, where the entries of pages 0 and 1 stand, each of its slot
pub record AreTwoPages (words : List ℕ) : Type 0 where
  pub long : length words ≡ 68608
  pub root : slice_index words 0 ≡ 262167
  pub first : slice_index words 65536 ≡ 48
  pub second : slice_index words 65537 ≡ 4144
  pub rest : (k : ℕ) → k < 66560 → k ≢ 0 → k ≢ 65536 → k ≢ 65537 → slice_index words k ≡ 0

-- the two truth values differ
differ : false ≡ true → ⊥
differ h = cc

-- only root entry 0 is valid
root_is : (words : List ℕ) → AreTwoPages words → (r : ℕ) → r < 2 ^ 16 → is_valid (slice_index words r) ≡ true → r ≡ 0
root_is words ok r few valid =
    ⊎_elim (λ (h : r ≡ 0). h)
    (λ (h : r ≢ 0). absurd (differ (ap is_valid (sym (ok.rest r (omega arith) h (λ k. omega arith) (λ k. omega arith))) ∙ valid)))
    (cases_eq r 0)

-- the entry of page p under a root entry
abbrev under : List ℕ → ℕ → ℕ → Option ℕ
under words p root = if is_valid root then Some (slice_index words (number_of root * 1024 + p % 1024)) else None

-- what a page's entry is
pub data TwoEntries (p e : ℕ) : Type 0 where
  First : p ≡ 0 → e ≡ 48 → TwoEntries p e
  Second : p ≡ 1 → e ≡ 4144 → TwoEntries p e
  Zero : e ≡ 0 → TwoEntries p e

-- the entry of a page of the first table
in_first : (words : List ℕ) → AreTwoPages words → (p e : ℕ) → p < 2 ^ 26 → p / 2 ^ 10 ≡ 0 → entry_at words p ≡ Some e → TwoEntries p e
in_first words ok p e few is there =
    let here : under words p 262167 ≡ Some e = ap (under words p) (sym (ap (slice_index words) is ∙ ok.root)) ∙ there in
    let found : slice_index words (65536 + p % 1024) ≡ e = some_same (slice_index words (65536 + p % 1024)) e here in
    ⊎_elim
    (λ (h : p ≡ 0).
    let place : 65536 + p % 1024 ≡ 65536 = omega arith in
    First h (sym found ∙ ap (slice_index words) place ∙ ok.first))
    (λ (h : p ≢ 0). ⊎_elim
    (λ (k : p ≡ 1).
    let place : 65536 + p % 1024 ≡ 65537 = omega arith in
    Second k (sym found ∙ ap (slice_index words) place ∙ ok.second))
    (λ (k : p ≢ 1). Zero (sym found ∙ ok.rest (65536 + p % 1024) (omega arith) (λ i. omega arith) (λ i. h (omega arith)) (λ i. k (omega arith))))
    (cases_eq p 1))
    (cases_eq p 0)

-- the entry of any page
entries : (words : List ℕ) → AreTwoPages words → (p e : ℕ) → p < 2 ^ 26 → entry_at words p ≡ Some e → TwoEntries p e
entries words ok p e few there =
    ⊎_elim
    (λ (is : p / 2 ^ 10 ≡ 0). in_first words ok p e few is there)
    (λ (later : p / 2 ^ 10 ≢ 0).
    let zero_root : slice_index words (p / 2 ^ 10) ≡ 0 = ok.rest (p / 2 ^ 10) (omega arith) later (λ h. omega arith) (λ h. omega arith) in
    let none : None ≡ Some e = ap (under words p) (sym zero_root) ∙ there in
    cc)
    (cases_eq (p / 2 ^ 10) 0)

-- no entry is valid
none_valid : (p e : ℕ) → TwoEntries p e → is_valid e ≡ true → ⊥
none_valid p e (First is word) v = differ (ap is_valid (sym word) ∙ v)
none_valid p e (Second is word) v = differ (ap is_valid (sym word) ∙ v)
none_valid p e (Zero word) v = differ (ap is_valid (sym word) ∙ v)

-- an entry that is not zero is that of a declared page
two_declared : (p e : ℕ) → TwoEntries p e → (is_valid e || is_on_swap e) ≡ true → IsDeclared (0 ∷ 1 ∷ []) p
two_declared p e (First is word) some = record { position = 0; within = omega arith; is = sym is }
two_declared p e (Second is word) some = record { position = 1; within = omega arith; is = sym is }
two_declared p e (Zero word) some = absurd (differ (ap (λ (w : ℕ). is_valid w || is_on_swap w) (sym word) ∙ some))

-- the two pages have their entries
entry_first : (words : List ℕ) → AreTwoPages words → HasEntry words 0 0
entry_first words ok = record {
  entry = 48;
  there = ap (under words 0) ok.root ∙ ap (λ (w : ℕ). Some w) ok.first;
  stands = record { one = refl; slot = λ h. refl; leaving = λ h. absurd (differ h) };
}

entry_second : (words : List ℕ) → AreTwoPages words → HasEntry words 1 1
entry_second words ok = record {
  entry = 4144;
  there = ap (under words 1) ok.root ∙ ap (λ (w : ℕ). Some w) ok.second;
  stands = record { one = refl; slot = λ h. refl; leaving = λ h. absurd (differ h) };
}

two_have : (words : List ℕ) → AreTwoPages words → (i : ℕ) → i < 2 → HasEntry words i (slice_index (0 ∷ 1 ∷ []) i)
two_have words ok i below =
    ⊎_elim
    (λ (h : i ≡ 0). subst (λ (k : ℕ). HasEntry words k (slice_index (0 ∷ 1 ∷ []) k)) (sym h) (entry_first words ok))
    (λ (h : i ≢ 0).
    let is : i ≡ 1 = omega arith in
    subst (λ (k : ℕ). HasEntry words k (slice_index (0 ∷ 1 ∷ []) k)) (sym is) (entry_second words ok))
    (cases_eq i 0)

-- each word of the tables is readable
two_readable : (words : List ℕ) → AreTwoPages words → (k : ℕ) → k < 66560 → IsTrue (is_readable (slice_index words k))
two_readable words ok k below =
    let R : ℕ → Type 0 = λ (w : ℕ). IsTrue (is_readable w) in
    ⊎_elim
    (λ (h : k ≡ 0). subst R (sym (ap (slice_index words) h ∙ ok.root)) refl)
    (λ (h : k ≢ 0). ⊎_elim
    (λ (i : k ≡ 65536). subst R (sym (ap (slice_index words) i ∙ ok.first)) refl)
    (λ (i : k ≢ 65536). ⊎_elim
    (λ (j : k ≡ 65537). subst R (sym (ap (slice_index words) j ∙ ok.second)) refl)
    (λ (j : k ≢ 65537). subst R (sym (ok.rest k below h i j)) refl)
    (cases_eq k 65537))
    (cases_eq k 65536))
    (cases_eq k 0)

-- these words are tables of two pages
tables-of-two-pages : (words : List ℕ) → AreTwoPages words → AreTables words (0 ∷ 1 ∷ []) 1 2
tables-of-two-pages words ok = record {
  readable = λ k below. two_readable words ok k below;
  root = λ r few v. subst (λ (w : ℕ). IsTableFrame 1 (number_of w)) (sym (ap (slice_index words) (root_is words ok r few v) ∙ ok.root))
      (record { low = omega arith; high = omega arith });
  root_apart = λ r s few_r few_s v_r v_s n. root_is words ok r few_r v_r ∙ sym (root_is words ok s few_s v_s);
  declared = λ p e few there some. two_declared p e (entries words ok p e few there) some;
  frame = λ p e few there v. absurd (none_valid p e (entries words ok p e few there) v);
  frame_apart = λ p q d e few_p few_q at_p at_q v_d v_e n. absurd (none_valid p d (entries words ok p d few_p at_p) v_d);
  each = λ i below. two_have words ok i (omega arith);
}

-- pages 0 and 1
two_small : (i : ℕ) → i < 2 → slice_index (0 ∷ 1 ∷ []) i ≡ i
two_small i below =
    ⊎_elim
    (λ (h : i ≡ 0). subst (λ (k : ℕ). slice_index (0 ∷ 1 ∷ []) k ≡ k) (sym h) refl)
    (λ (h : i ≢ 0). let is : i ≡ 1 = omega arith in subst (λ (k : ℕ). slice_index (0 ∷ 1 ∷ []) k ≡ k) (sym is) refl)
    (cases_eq i 0)

-- and the flat state is valid
two-pages-are-valid : (words swap : List ℕ) → AreTwoPages words → length swap ≡ 2048 → IsValidFlat (record { words = words; swap = swap; pages = 0 ∷ 1 ∷ []; tables = 1; frames = 2 })
two-pages-are-valid words swap ok long = record {
  words = ok.long;
  swap = long;
  few_frames = omega arith;
  few_pages = omega arith;
  pages = record {
    small = λ i below. let is = two_small i (omega arith) in omega arith;
    differ = λ i j below_i below_j same. sym (two_small i (omega arith)) ∙ same ∙ two_small j (omega arith);
  };
  tables = tables-of-two-pages words ok;
}

-- the words that the machine is made of: zeros, with the root entry and the two entries put in
two-pages-words : (zeros : List ℕ) → length zeros ≡ 68608 → ((k : ℕ) → k < 68608 → slice_index zeros k ≡ 0)
    → AreTwoPages (slice_set (slice_set (slice_set zeros 0 262167) 65536 48) 65537 4144)
two-pages-words zeros long zero =
    let one : List ℕ = slice_set zeros 0 262167 in
    let two : List ℕ = slice_set one 65536 48 in
    let long_one : length one ≡ 68608 = length-set zeros 0 262167 ∙ long in
    let long_two : length two ≡ 68608 = length-set one 65536 48 ∙ long_one in
    record {
      long = length-set two 65537 4144 ∙ long_two;
      root = get_or-set_other two 65537 0 4144 0 (λ h. omega arith) ∙ get_or-set_other one 65536 0 48 0 (λ h. omega arith) ∙ get_or-set_same zeros 0 262167 0 (omega arith);
      first = get_or-set_other two 65537 65536 4144 0 (λ h. omega arith) ∙ get_or-set_same one 65536 48 0 (omega arith);
      second = get_or-set_same two 65537 4144 0 (omega arith);
      rest = λ k below not_root not_first not_second.
          get_or-set_other two 65537 k 4144 0 not_second ∙ get_or-set_other one 65536 k 48 0 not_first
          ∙ get_or-set_other zeros 0 k 262167 0 not_root ∙ zero k (omega arith);
    }

-- the machine that a test makes
pub two-pages-of-zeros : (n : ℕ) (zeros swap words pages : List ℕ) → n ≡ 68608 → length swap ≡ 2048 → zeros ≡ replicate n 0
    → words ≡ slice_set (slice_set (slice_set zeros 0 262167) 65536 48) 65537 4144 → pages ≡ 0 ∷ 1 ∷ []
    → IsValidFlat (record { words = words; swap = swap; pages = pages; tables = 1; frames = 2 })
two-pages-of-zeros n zeros swap words pages n_is swap_long zeros_are words_are pages_are =
    let long : length zeros ≡ 68608 = ap (λ (ws : List ℕ). length ws) zeros_are ∙ length-replicate n 0 ∙ n_is in
    let zero : (k : ℕ) → k < 68608 → slice_index zeros k ≡ 0 =
    λ k below. ap (λ (ws : List ℕ). slice_index ws k) zeros_are ∙ get_or-replicate n k 0 0 (omega arith) in
    let two : AreTwoPages words = subst AreTwoPages (sym words_are) (two-pages-words zeros long zero) in
    subst (λ (ps : List ℕ). IsValidFlat (record { words = words; swap = swap; pages = ps; tables = 1; frames = 2 })) (sym pages_are)
    (two-pages-are-valid words swap two swap_long)
