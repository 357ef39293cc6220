-- A page's entry, replaced.
use Rattle.std.proofs.Common.{◌≡◌, ◌≢◌, ℕ, ◌+◌, ◌*◌, ◌/◌, ◌%◌, ◌^◌, ◌<◌, ◌≤◌, ◌⊎◌, inl, inr, ⊎_elim, Bool, true, false, if◌then◌else◌, Option, Some, None, refl, sym, ap, ◌∙◌, subst, arith, List, length, slice_index, slice_set, IsTrue}
use Rattle.std.proofs.lemmas.List.{get_or-set_same, get_or-set_other}
use Rattle.std.proofs.lemmas.Bool.{cases_eq}
use Rattle.spur_addr.specs.PageEntry.{is_valid, number_of, is_readable}
use Rattle.spur_flat.specs.Table.{entry_at, table_words}
use Rattle.spur_flat.specs.Validity.{AreTables, ArePages, IsDataFrame, IsTableFrame, StandsFor}

-- the place of the entry of page p
abbrev pub place_at : List ℕ → ℕ → ℕ
place_at words p = number_of (slice_index words (p / 2 ^ 10)) * 1024 + p % 1024

-- a new entry for page p, which is declared at position i
pub record MayStand (words : List ℕ) (tables frames i p e : ℕ) : Type 0 where
  pub readable : IsTrue (is_readable e)
  pub stands : StandsFor i e
  pub frame : is_valid e ≡ true → IsDataFrame tables frames (number_of e)
  -- no other page's valid entry has its frame
  pub free : (q f : ℕ) → q < 2 ^ 26 → q ≢ p → entry_at words q ≡ Some f → is_valid f ≡ true → is_valid e ≡ true → number_of f ≢ number_of e

-- a word that is put in, and the others
set_here : (words : List ℕ) (k e : ℕ) → k < length words → slice_index (slice_set words k e) k ≡ e
set_here words k e within = get_or-set_same words k e 0 within

set_there : (words : List ℕ) (k j e : ℕ) → j ≢ k → slice_index (slice_set words k e) j ≡ slice_index words j
set_there words k j e apart = get_or-set_other words k j e 0 apart

-- an entry stands past the root table, and within the page table
pub place_bounds : {words pages : List ℕ} {tables frames : ℕ} → AreTables words pages tables frames → (p : ℕ) → p < 2 ^ 26 → is_valid (slice_index words (p / 2 ^ 10)) ≡ true
    → (2 ^ 16 ≤ place_at words p) × (place_at words p < table_words tables)
place_bounds {words} {pages} {tables} {frames} ok p small valid =
    let table = ok.root (p / 2 ^ 10) (omega arith) valid in
    let low = table.low in
    let high = table.high in
    (omega arith, omega arith)

-- pages that differ have entries at different places
places_apart : {words pages : List ℕ} {tables frames : ℕ} → AreTables words pages tables frames → (p q : ℕ) → p < 2 ^ 26 → q < 2 ^ 26
    → is_valid (slice_index words (p / 2 ^ 10)) ≡ true → is_valid (slice_index words (q / 2 ^ 10)) ≡ true → place_at words p ≡ place_at words q → p ≡ q
places_apart {words} {pages} {tables} {frames} ok p q small_p small_q valid_p valid_q same =
    let n : number_of (slice_index words (p / 2 ^ 10)) ≡ number_of (slice_index words (q / 2 ^ 10)) = omega arith in
    let r : p / 2 ^ 10 ≡ q / 2 ^ 10 = ok.root_apart (p / 2 ^ 10) (q / 2 ^ 10) (omega arith) (omega arith) valid_p valid_q n in
    let l : p % 1024 ≡ q % 1024 = omega arith in
    omega arith

-- a test passes or does not
two : (b : Bool) → (b ≡ true) ⊎ (b ≡ false)
two true = inl refl
two false = inr refl

-- the entry of page p under a root entry
abbrev under : List ℕ → ℕ → ℕ → Option ℕ
under words p root = if is_valid root then Some (slice_index words (number_of root * 1024 + p % 1024)) else None

-- there is one under a valid root entry, and none under another
under_valid : (words : List ℕ) (p root : ℕ) → is_valid root ≡ true → under words p root ≡ Some (slice_index words (number_of root * 1024 + p % 1024))
under_valid words p root valid = ap (λ (b : Bool). if b then Some (slice_index words (number_of root * 1024 + p % 1024)) else None) valid

under_not : (words : List ℕ) (p root : ℕ) → is_valid root ≡ false → under words p root ≡ None
under_not words p root not_valid = ap (λ (b : Bool). if b then Some (slice_index words (number_of root * 1024 + p % 1024)) else None) not_valid

-- the replaced entry
pub entry_at-set_same : {words pages : List ℕ} {tables frames : ℕ} → AreTables words pages tables frames → (p e : ℕ) → p < 2 ^ 26 → table_words tables ≤ length words
    → is_valid (slice_index words (p / 2 ^ 10)) ≡ true → entry_at (slice_set words (place_at words p) e) p ≡ Some e
entry_at-set_same {words} {pages} {tables} {frames} ok p e small long valid =
    let root : ℕ = slice_index words (p / 2 ^ 10) in
    let place : ℕ = place_at words p in
    let bounds = place_bounds ok p small valid in
    let bounds_0 = bounds.0 in
    let bounds_1 = bounds.1 in
    let new : List ℕ = slice_set words place e in
    let kept : slice_index new (p / 2 ^ 10) ≡ root = set_there words place (p / 2 ^ 10) e (λ (h : p / 2 ^ 10 ≡ place). omega arith) in
    ap (under new p) kept ∙ under_valid new p root valid ∙ ap (λ (w : ℕ). Some w) (set_here words place e (omega arith))

-- the others
pub entry_at-set_other : {words pages : List ℕ} {tables frames : ℕ} → AreTables words pages tables frames → (p q e : ℕ) → p < 2 ^ 26 → q < 2 ^ 26 → q ≢ p
    → is_valid (slice_index words (p / 2 ^ 10)) ≡ true → entry_at (slice_set words (place_at words p) e) q ≡ entry_at words q
entry_at-set_other {words} {pages} {tables} {frames} ok p q e small_p small_q apart valid =
    let root : ℕ = slice_index words (q / 2 ^ 10) in
    let place : ℕ = place_at words p in
    let bounds = place_bounds ok p small_p valid in
    let bounds_0 = bounds.0 in
    let new : List ℕ = slice_set words place e in
    let kept : slice_index new (q / 2 ^ 10) ≡ root = set_there words place (q / 2 ^ 10) e (λ (h : q / 2 ^ 10 ≡ place). omega arith) in
    ⊎_elim
    (λ (v : is_valid root ≡ true).
    ap (under new q) kept ∙ under_valid new q root v
    ∙ ap (λ (w : ℕ). Some w) (set_there words place (place_at words q) e (λ h. apart (places_apart ok q p small_q small_p v valid h)))
    ∙ sym (under_valid words q root v))
    (λ (n : is_valid root ≡ false). ap (under new q) kept ∙ under_not new q root n ∙ sym (under_not words q root n))
    (two (is_valid root))

-- entries that are both there and the same
pub some_same : (a b : ℕ) → Some a ≡ Some b → a ≡ b
some_same a b h = cc

-- tables stay tables where a page's entry is replaced by one that may stand there
pub tables-set : (words pages : List ℕ) (tables frames i p e : ℕ) → AreTables words pages tables frames → ArePages pages → i < length pages → slice_index pages i ≡ p
    → p < 2 ^ 26 → table_words tables ≤ length words → is_valid (slice_index words (p / 2 ^ 10)) ≡ true → MayStand words tables frames i p e
    → AreTables (slice_set words (place_at words p) e) pages tables frames
tables-set words pages tables frames i p e ok are within is small long valid may =
    let place : ℕ = place_at words p in
    let new : List ℕ = slice_set words place e in
    let bounds = place_bounds ok p small valid in
    let bounds_0 = bounds.0 in
    let bounds_1 = bounds.1 in
    let same : entry_at new p ≡ Some e = entry_at-set_same ok p e small long valid in
    let other : (q : ℕ) → q < 2 ^ 26 → q ≢ p → entry_at new q ≡ entry_at words q = λ q small_q apart. entry_at-set_other ok p q e small small_q apart valid in
    let root : (r : ℕ) → r < 2 ^ 16 → slice_index new r ≡ slice_index words r = λ r few. set_there words place r e (λ (h : r ≡ place). omega arith) in
    let here : (q x : ℕ) → q ≡ p → entry_at new q ≡ Some x → x ≡ e =
    λ q x at there. some_same x e (sym there ∙ ap (entry_at new) at ∙ same) in
    record {
      readable = λ k below. ⊎_elim
          (λ (h : k ≡ place). subst (λ (w : ℕ). IsTrue (is_readable w)) (sym (ap (slice_index new) h ∙ set_here words place e (omega arith))) may.readable)
          (λ (h : k ≢ place). subst (λ (w : ℕ). IsTrue (is_readable w)) (sym (set_there words place k e h)) (ok.readable k below))
          (cases_eq k place);
      root = λ r few v. subst (λ (w : ℕ). IsTableFrame tables (number_of w)) (sym (root r few)) (ok.root r few (ap is_valid (sym (root r few)) ∙ v));
      root_apart = λ r s few_r few_s v_r v_s n. ok.root_apart r s few_r few_s (ap is_valid (sym (root r few_r)) ∙ v_r) (ap is_valid (sym (root s few_s)) ∙ v_s)
          (ap number_of (sym (root r few_r)) ∙ n ∙ ap number_of (root s few_s));
      declared = λ q x small_q there some. ⊎_elim
          (λ (h : q ≡ p). record { position = i; within = within; is = is ∙ sym h })
          (λ (h : q ≢ p). ok.declared q x small_q (sym (other q small_q h) ∙ there) some)
          (cases_eq q p);
      frame = λ q x small_q there v. ⊎_elim
          (λ (h : q ≡ p). subst (λ (w : ℕ). IsDataFrame tables frames (number_of w)) (sym (here q x h there)) (may.frame (ap is_valid (sym (here q x h there)) ∙ v)))
          (λ (h : q ≢ p). ok.frame q x small_q (sym (other q small_q h) ∙ there) v)
          (cases_eq q p);
      frame_apart = λ q r x y small_q small_r at_q at_r v_x v_y n. ⊎_elim
          (λ (h : q ≡ p). ⊎_elim
          (λ (k : r ≡ p). h ∙ sym k)
          (λ (k : r ≢ p). absurd (may.free r y small_r k (sym (other r small_r k) ∙ at_r) v_y (ap is_valid (sym (here q x h at_q)) ∙ v_x) (sym n ∙ ap number_of (here q x h at_q))))
          (cases_eq r p))
          (λ (h : q ≢ p). ⊎_elim
          (λ (k : r ≡ p). absurd (may.free q x small_q h (sym (other q small_q h) ∙ at_q) v_x (ap is_valid (sym (here r y k at_r)) ∙ v_y) (n ∙ ap number_of (here r y k at_r))))
          (λ (k : r ≢ p). ok.frame_apart q r x y small_q small_r (sym (other q small_q h) ∙ at_q) (sym (other r small_r k) ∙ at_r) v_x v_y n)
          (cases_eq r p))
          (cases_eq q p);
      each = λ j below. ⊎_elim
          (λ (h : slice_index pages j ≡ p).
          let j_is : j ≡ i = are.differ j i below within (h ∙ sym is) in
          record { entry = e; there = ap (entry_at new) h ∙ same; stands = subst (λ (n : ℕ). StandsFor n e) (sym j_is) may.stands })
          (λ (h : slice_index pages j ≢ p).
          let small_j : slice_index pages j < 255 * 2 ^ 18 = are.small j below in
          let had = ok.each j below in
          record { entry = had.entry; there = other (slice_index pages j) (omega arith) h ∙ had.there; stands = had.stands })
          (cases_eq (slice_index pages j) p);
    }
