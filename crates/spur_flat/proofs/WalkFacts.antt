-- Where a walk leads, and what a write past the tables leaves.
use Rattle.std.proofs.Common.{◌≡◌, ℕ, ◌+◌, ◌*◌, ◌/◌, ◌%◌, ◌^◌, ◌<◌, ◌≤◌, Bool, true, false, not, ◌&&◌, if◌then◌else◌, Option, Some, None, refl, sym, ap, ◌∙◌, subst, arith, List, length, slice_index, slice_set, IsTrue}
use Rattle.std.proofs.lemmas.List.{get_or-set_other, length-set}
use Rattle.std.proofs.lemmas.Nat.{shr-shr}
use Rattle.spur_addr.specs.Address.{is_aligned}
use Rattle.spur_addr.specs.PageEntry.{is_valid, is_on_swap, is_readable, number_of}
use Rattle.spur_flat.specs.declared.flat.Flat.{Flat}
use Rattle.spur_flat.specs.declared.access.AccessKind.{AccessKind}
use Rattle.spur_flat.specs.declared.access.FaultKind.{FaultKind}
use Rattle.spur_flat.specs.declared.access.FaultKind.TheVariants as fault
use Rattle.spur_flat.specs.Access.{may, bar_of}
use Rattle.spur_flat.specs.Table.{table_words, entry_at, walk_of}
use Rattle.spur_flat.specs.Validity.{AreTables, IsTableFrame, IsValidFlat}
use Rattle.spur_flat.specs.Laws.{WalkFindsEntry}

-- the walk finds the entry of the address's page
pub walk_of-entry : WalkFindsEntry
walk_of-entry F g =
    ap (λ (r : ℕ). if is_valid (slice_index F.words r) then Some (slice_index F.words (number_of (slice_index F.words r) * 1024 + g / 2 ^ 12 % 1024)) else None) (sym (shr-shr g 12 10))

-- the word under a valid entry stands past the tables, and within memory
pub data_within : (F : Flat) (g e : ℕ) → IsValidFlat F → g < 2 ^ 38 → walk_of F g ≡ Some e → is_valid e ≡ true
    → (table_words F.tables ≤ number_of e * 1024 + g / 2 ^ 2 % 1024) × (number_of e * 1024 + g / 2 ^ 2 % 1024 < length F.words)
data_within F g e ok small walked valid =
    let frame = ok.tables.frame (g / 2 ^ 12) e (omega arith) (sym (walk_of-entry F g) ∙ walked) valid in
    let low = frame.low in
    let high = frame.high in
    let words : length F.words ≡ 1024 * (64 + F.tables + F.frames) = ok.words in
    (omega arith, omega arith)

-- the tests of an entry, as plain truth values
done_valid : (aligned valid granted rest : Bool) → (if aligned then valid && granted && rest else false) ≡ true → valid ≡ true
done_valid true true granted rest h = refl
done_valid true false granted rest h = cc
done_valid false valid granted rest h = cc

-- an access that may be done has a valid entry
pub done_is_valid : (e : ℕ) (access : AccessKind) (g : ℕ) → may (Some e) access g None ≡ true → is_valid e ≡ true
done_is_valid e access g h = done_valid (is_aligned g) (is_valid e) _ _ h

-- so has one that no fault bars
bar_valid : (aligned valid swapped : Bool) (rest : Option FaultKind)
    → (if not aligned then Some fault.Align else if not valid && not swapped then Some fault.Unmapped else if not valid then Some fault.Missing else rest) ≡ None → valid ≡ true
bar_valid true true swapped rest h = refl
bar_valid true false true rest h = cc
bar_valid true false false rest h = cc
bar_valid false valid swapped rest h = cc

pub unbarred_is_valid : (e : ℕ) (access : AccessKind) (g : ℕ) → bar_of (Some e) access g ≡ None → is_valid e ≡ true
unbarred_is_valid e access g h = bar_valid (is_aligned g) (is_valid e) (is_on_swap e) _ h

-- the entry of page p under a root entry
abbrev under : List ℕ → ℕ → ℕ → Option ℕ
under words p root = if is_valid root then Some (slice_index words (number_of root * 1024 + p % 1024)) else None

chosen_same : (b : Bool) (x y : ℕ) → (b ≡ true → x ≡ y) → (if b then Some x else None) ≡ (if b then Some y else None)
chosen_same true x y same = ap (λ (w : ℕ). Some w) (same refl)
chosen_same false x y same = refl

-- other words past the tables leave every entry
pub entry_at-same : (words new pages : List ℕ) (tables frames : ℕ) → AreTables words pages tables frames
    → ((k : ℕ) → k < table_words tables → slice_index new k ≡ slice_index words k) → (p : ℕ) → p < 2 ^ 26 → entry_at new p ≡ entry_at words p
entry_at-same words new pages tables frames ok same p small =
    let r : ℕ = p / 2 ^ 10 in
    let root : ℕ = slice_index words r in
    ap (under new p) (same r (omega arith))
    ∙ chosen_same (is_valid root) _ _ (λ (valid : is_valid root ≡ true).
    let high = (ok.root r (omega arith) valid).high in
    same (number_of root * 1024 + p % 1024) (omega arith))

-- and keep the tables
pub tables-same : (words new pages : List ℕ) (tables frames : ℕ) → AreTables words pages tables frames → ((i : ℕ) → i < length pages → slice_index pages i < 255 * 2 ^ 18)
    → ((k : ℕ) → k < table_words tables → slice_index new k ≡ slice_index words k) → AreTables new pages tables frames
tables-same words new pages tables frames ok small same =
    let root : (r : ℕ) → r < 2 ^ 16 → slice_index new r ≡ slice_index words r = λ r few. same r (omega arith) in
    let kept : (p : ℕ) → p < 2 ^ 26 → entry_at new p ≡ entry_at words p = entry_at-same words new pages tables frames ok same in
    record {
      readable = λ k below. subst (λ (w : ℕ). IsTrue (is_readable w)) (sym (same k below)) (ok.readable k below);
      root = λ r few v. subst (λ (w : ℕ). IsTableFrame tables (number_of w)) (sym (root r few)) (ok.root r few (ap is_valid (sym (root r few)) ∙ v));
      root_apart = λ r s few_r few_s v_r v_s n. ok.root_apart r s few_r few_s (ap is_valid (sym (root r few_r)) ∙ v_r) (ap is_valid (sym (root s few_s)) ∙ v_s)
          (ap number_of (sym (root r few_r)) ∙ n ∙ ap number_of (root s few_s));
      declared = λ p e few there some. ok.declared p e few (sym (kept p few) ∙ there) some;
      frame = λ p e few there v. ok.frame p e few (sym (kept p few) ∙ there) v;
      frame_apart = λ p q d e few_p few_q at_p at_q v_d v_e n. ok.frame_apart p q d e few_p few_q (sym (kept p few_p) ∙ at_p) (sym (kept q few_q) ∙ at_q) v_d v_e n;
      each = λ i below.
          let had = ok.each i below in
          let low = small i below in
          record { entry = had.entry; there = kept (slice_index pages i) (omega arith) ∙ had.there; stands = had.stands };
    }

-- a write past the tables keeps a flat state valid
pub valid-with_word : (F : Flat) (words : List ℕ) (place value : ℕ) → IsValidFlat F → table_words F.tables ≤ place → words ≡ slice_set F.words place value → IsValidFlat (record F { words = words })
valid-with_word F words place value ok past is = record {
  words = ap (λ (ws : List ℕ). length ws) is ∙ length-set F.words place value ∙ ok.words;
  swap = ok.swap;
  few_frames = ok.few_frames;
  few_pages = ok.few_pages;
  pages = ok.pages;
  tables = tables-same F.words words F.pages F.tables F.frames ok.tables ok.pages.small
      (λ k below. ap (λ (ws : List ℕ). slice_index ws k) is ∙ get_or-set_other F.words place k value 0 (λ (h : k ≡ place). omega arith));
}
