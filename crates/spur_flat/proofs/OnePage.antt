-- A flat state of one page, in which every word but four is zero. It is valid.
use Rattle.std.proofs.Common.{◌≡◌, ◌≢◌, ℕ, ◌+◌, ◌*◌, ◌/◌, ◌%◌, ◌^◌, ◌<◌, ⊎_elim, Bool, true, false, ◌||◌, if◌then◌else◌, Option, Some, None, refl, sym, ap, ◌∙◌, subst, arith, List, [], ◌∷◌, length, slice_index, slice_set, IsTrue}
use Rattle.std.specs.Prelude.{replicate}
use Rattle.std.proofs.lemmas.Bool.{cases_eq}
use Rattle.std.proofs.lemmas.List.{get_or-replicate, get_or-set_same, get_or-set_other, length-replicate, length-set}
use Rattle.spur_addr.specs.PageEntry.{is_valid, is_on_swap, is_readable, number_of}
use Rattle.spur_flat.specs.Table.{entry_at}
use Rattle.spur_flat.specs.Validity.{AreTables, HasEntry, IsTableFrame, IsValidFlat, StandsFor}

-- the words of such a state: root entry 0 names frame 64, where the entry of page 0 stands
pub record AreOnePage (words : List ℕ) (entry : ℕ) : Type 0 where
  pub long : length words ≡ 67584
  pub root : slice_index words 0 ≡ 262167
  pub entry_is : slice_index words 65536 ≡ entry
  pub rest : (k : ℕ) → k < 66560 → k ≢ 0 → k ≢ 65536 → slice_index words k ≡ 0

-- an entry that page 0 may have
pub record MayStand (entry : ℕ) : Type 0 where
  pub readable : IsTrue (is_readable entry)
  pub stands : StandsFor 0 entry
  pub frame : is_valid entry ≡ true → number_of entry ≡ 65

-- no bit of a zero word is set
not_valid : is_valid 0 ≡ true → ⊥
not_valid h = let no : false ≡ true = h in cc

root_is : (words : List ℕ) (entry : ℕ) → AreOnePage words entry → (r : ℕ) → r < 2 ^ 16 → is_valid (slice_index words r) ≡ true → r ≡ 0
root_is words entry ok r few valid =
    ⊎_elim (λ (h : r ≡ 0). h)
    (λ (h : r ≢ 0). absurd (not_valid (ap is_valid (sym (ok.rest r (omega arith) h (λ k. omega arith))) ∙ valid)))
    (cases_eq r 0)

-- the entry of page p under a root entry
abbrev under : List ℕ → ℕ → ℕ → Option ℕ
under words p root = if is_valid root then Some (slice_index words (number_of root * 1024 + p % 1024)) else None

some_same : (a b : ℕ) → Some a ≡ Some b → a ≡ b
some_same a b h = cc

-- the entry of a page of the first table
found_there : (words : List ℕ) (entry : ℕ) → AreOnePage words entry → (p e : ℕ) → p / 2 ^ 10 ≡ 0 → entry_at words p ≡ Some e → slice_index words (65536 + p % 1024) ≡ e
found_there words entry ok p e first there =
    let here : under words p 262167 ≡ Some e = ap (under words p) (sym (ap (slice_index words) first ∙ ok.root)) ∙ there in
    some_same (slice_index words (65536 + p % 1024)) e here

-- a page other than page 0 has a zero entry, or none
other_zero : (words : List ℕ) (entry : ℕ) → AreOnePage words entry → (p e : ℕ) → p < 2 ^ 26 → p ≢ 0 → entry_at words p ≡ Some e → e ≡ 0
other_zero words entry ok p e few apart there =
    ⊎_elim
    (λ (first : p / 2 ^ 10 ≡ 0). sym (found_there words entry ok p e first there) ∙ ok.rest (65536 + p % 1024) (omega arith) (λ h. omega arith) (λ h. apart (omega arith)))
    (λ (later : p / 2 ^ 10 ≢ 0).
    let zero_root : slice_index words (p / 2 ^ 10) ≡ 0 = ok.rest (p / 2 ^ 10) (omega arith) later (λ h. omega arith) in
    let none : None ≡ Some e = ap (under words p) (sym zero_root) ∙ there in
    cc)
    (cases_eq (p / 2 ^ 10) 0)

page_zero : (words : List ℕ) (entry : ℕ) → AreOnePage words entry → entry_at words 0 ≡ Some entry
page_zero words entry ok = ap (under words 0) ok.root ∙ ap (λ (w : ℕ). Some w) ok.entry_is

-- so a valid entry is that of page 0
valid_is : (words : List ℕ) (entry : ℕ) → AreOnePage words entry → (p e : ℕ) → p < 2 ^ 26 → entry_at words p ≡ Some e → (is_valid e || is_on_swap e) ≡ true → p ≡ 0
valid_is words entry ok p e few there some =
    ⊎_elim (λ (h : p ≡ 0). h)
    (λ (h : p ≢ 0). let no : false ≡ true = ap (λ (w : ℕ). is_valid w || is_on_swap w) (sym (other_zero words entry ok p e few h there)) ∙ some in cc)
    (cases_eq p 0)

entry_of_zero : (words : List ℕ) (entry : ℕ) → AreOnePage words entry → (p e : ℕ) → p ≡ 0 → entry_at words p ≡ Some e → e ≡ entry
entry_of_zero words entry ok p e is there = some_same e entry (sym there ∙ ap (entry_at words) is ∙ page_zero words entry ok)

or_first : (a b : Bool) → a ≡ true → (a || b) ≡ true
or_first true b h = refl
or_first false b h = cc

tables-of-one-page : (words : List ℕ) (entry : ℕ) → AreOnePage words entry → MayStand entry → AreTables words (0 ∷ []) 1 1
tables-of-one-page words entry ok may =
    let zero_of : (p e : ℕ) → p < 2 ^ 26 → entry_at words p ≡ Some e → is_valid e ≡ true → p ≡ 0 =
    λ p e few there v. valid_is words entry ok p e few there (or_first (is_valid e) (is_on_swap e) v) in
    record {
      readable = λ k below. ⊎_elim
          (λ (h : k ≡ 0). subst (λ (w : ℕ). IsTrue (is_readable w)) (sym (ap (slice_index words) h ∙ ok.root)) refl)
          (λ (h : k ≢ 0). ⊎_elim
          (λ (i : k ≡ 65536). subst (λ (w : ℕ). IsTrue (is_readable w)) (sym (ap (slice_index words) i ∙ ok.entry_is)) may.readable)
          (λ (i : k ≢ 65536). subst (λ (w : ℕ). IsTrue (is_readable w)) (sym (ok.rest k below h i)) refl)
          (cases_eq k 65536))
          (cases_eq k 0);
      root = λ r few v. subst (λ (w : ℕ). IsTableFrame 1 (number_of w)) (sym (ap (slice_index words) (root_is words entry ok r few v) ∙ ok.root))
          (record { low = omega arith; high = omega arith });
      root_apart = λ r s few_r few_s v_r v_s n. root_is words entry ok r few_r v_r ∙ sym (root_is words entry ok s few_s v_s);
      declared = λ p e few there some. record { position = 0; within = omega arith; is = sym (valid_is words entry ok p e few there some) };
      frame = λ p e few there v.
          let is : e ≡ entry = entry_of_zero words entry ok p e (zero_of p e few there v) there in
          let frame : number_of e ≡ 65 = ap number_of is ∙ may.frame (ap is_valid (sym is) ∙ v) in
          record { low = omega arith; high = omega arith };
      frame_apart = λ p q d e few_p few_q at_p at_q v_d v_e n. zero_of p d few_p at_p v_d ∙ sym (zero_of q e few_q at_q v_e);
      each = λ i below.
          let first : i ≡ 0 = omega arith in
          subst (λ (k : ℕ). HasEntry words k (slice_index (0 ∷ []) k)) (sym first) (record { entry = entry; there = page_zero words entry ok; stands = may.stands });
    }

pub one-page-is-valid : (words swap : List ℕ) (entry : ℕ) → AreOnePage words entry → length swap ≡ 1024 → MayStand entry
    → IsValidFlat (record { words = words; swap = swap; pages = 0 ∷ []; tables = 1; frames = 1 })
one-page-is-valid words swap entry ok long may = record {
  words = ok.long;
  swap = long;
  few_frames = omega arith;
  few_pages = omega arith;
  pages = record {
    small = λ i below. let first : i ≡ 0 = omega arith in subst (λ (k : ℕ). slice_index (0 ∷ []) k < 255 * 2 ^ 18) (sym first) (omega arith);
    differ = λ i j below_i below_j same. omega arith;
  };
  tables = tables-of-one-page words entry ok may;
}

-- the words that the machine is made of: zeros, with the root entry, the entry and a data word put in
pub one-page-words : (zeros : List ℕ) (entry : ℕ) → length zeros ≡ 67584 → ((k : ℕ) → k < 67584 → slice_index zeros k ≡ 0)
    → AreOnePage (slice_set (slice_set (slice_set zeros 0 262167) 65536 entry) 66576 41) entry
one-page-words zeros entry long zero =
    let one : List ℕ = slice_set zeros 0 262167 in
    let two : List ℕ = slice_set one 65536 entry in
    let long_one : length one ≡ 67584 = length-set zeros 0 262167 ∙ long in
    record {
      long = length-set two 66576 41 ∙ length-set one 65536 entry ∙ long_one;
      root = get_or-set_other two 66576 0 41 0 (λ h. omega arith) ∙ get_or-set_other one 65536 0 entry 0 (λ h. omega arith) ∙ get_or-set_same zeros 0 262167 0 (omega arith);
      entry_is = get_or-set_other two 66576 65536 41 0 (λ h. omega arith) ∙ get_or-set_same one 65536 entry 0 (omega arith);
      rest = λ k below not_root not_entry.
          get_or-set_other two 66576 k 41 0 (λ h. omega arith) ∙ get_or-set_other one 65536 k entry 0 not_entry
          ∙ get_or-set_other zeros 0 k 262167 0 not_root ∙ zero k (omega arith);
    }

pub one-page-of-zeros : (n m entry : ℕ) (zeros swap words pages : List ℕ) → n ≡ 67584 → m ≡ 1024 → zeros ≡ replicate n 0 → swap ≡ replicate m 0
    → words ≡ slice_set (slice_set (slice_set zeros 0 262167) 65536 entry) 66576 41 → pages ≡ 0 ∷ [] → MayStand entry
    → IsValidFlat (record { words = words; swap = swap; pages = pages; tables = 1; frames = 1 })
one-page-of-zeros n m entry zeros swap words pages n_is m_is zeros_are swap_is words_are pages_are may =
    let long : length zeros ≡ 67584 = ap (λ (ws : List ℕ). length ws) zeros_are ∙ length-replicate n 0 ∙ n_is in
    let zero : (k : ℕ) → k < 67584 → slice_index zeros k ≡ 0 =
    λ k below. ap (λ (ws : List ℕ). slice_index ws k) zeros_are ∙ get_or-replicate n k 0 0 (omega arith) in
    let swap_long : length swap ≡ 1024 = ap (λ (ws : List ℕ). length ws) swap_is ∙ length-replicate m 0 ∙ m_is in
    let one : AreOnePage words entry = subst (λ (ws : List ℕ). AreOnePage ws entry) (sym words_are) (one-page-words zeros entry long zero) in
    subst (λ (ps : List ℕ). IsValidFlat (record { words = words; swap = swap; pages = ps; tables = 1; frames = 1 })) (sym pages_are)
    (one-page-is-valid words swap entry one swap_long may)
