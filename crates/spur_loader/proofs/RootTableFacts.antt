-- The loop that fills the root table.
use Rattle.std.specs.Prelude.{slice_index, slice_set, slice_get}
use Rattle.std.proofs.Common.{◌≡◌, ℕ, ◌+◌, ◌*◌, ◌<◌, ◌≤◌, ◌==◌, List, ◌∷◌, Some, length, drop, sym, ap, ◌∙◌, arith}
use Rattle.std.proofs.lemmas.Bool.{eqb-true, eqb-false}
use Rattle.std.proofs.lemmas.List.{drop_all, length-set, get_or-set_other}
use Rattle.spur_loader.specs.Opening.{root_entry_of, root_word}
use Rattle.spur_loader.specs.Parts.{AreZeros, IsRootTable}
use Rattle.spur_loader.proofs.ListFacts.{AreApart, drop_at, latest, set_pick}
use Rattle.spur_loader.proofs.EntryWords.{root_value, root_word_is}

-- the root table when the first i needed entries are written: what is left makes it whole
pub record RootsSoFar (roots words : List ℕ) (i : ℕ) : Type 0 where
  pub size : length words ≡ 1024 * (64 + length roots)
  pub root : (r : ℕ) → r < 65536 → latest (λ x. x) root_value (slice_index words r) i (drop i roots) r ≡ root_word roots r
  pub empty : (k : ℕ) → 65536 ≤ k → slice_index words k ≡ 0

pub roots_begin : (roots words : List ℕ) → AreApart (λ x. x) roots → AreZeros (1024 * (64 + length roots)) words → RootsSoFar roots words 0
roots_begin roots words apart zeros = record {
  size = zeros.size;
  root = λ r below. ap (λ (s : ℕ). latest (λ x. x) root_value s 0 roots r) (zeros.zero r) ∙ root_word_is roots r apart;
  empty = λ k above. zeros.zero k;
}

pub roots_more : (roots words : List ℕ) (i root : ℕ) → RootsSoFar roots words i → slice_get roots i ≡ Some root → root < 65536
    → RootsSoFar roots (slice_set words root (root_entry_of (64 + i))) (i + 1)
roots_more roots words i root h at small = record {
  size = length-set words root (root_entry_of (64 + i)) ∙ h.size;
  root = λ r below.
      let within : root < length words = (let s = h.size in omega arith) in
      let rest : drop i roots ≡ root ∷ drop (i + 1) roots = drop_at roots i root at in
      ap (λ (s : ℕ). latest (λ x. x) root_value s (i + 1) (drop (i + 1) roots) r)
      (set_pick words root r (root_entry_of (64 + i)) (root == r) within (λ e. sym (eqb-true root r e)) (λ e s. eqb-false root r e (sym s)))
      ∙ ap (λ (xs : List ℕ). latest (λ x. x) root_value (slice_index words r) i xs r) (sym rest)
      ∙ h.root r below;
  empty = λ k above. get_or-set_other words root k (root_entry_of (64 + i)) 0 (λ same. omega arith) ∙ h.empty k above;
}

pub roots_all : (roots words : List ℕ) (i : ℕ) → RootsSoFar roots words i → length roots ≤ i → IsRootTable roots words
roots_all roots words i h done = record {
  size = h.size;
  root = λ r below. ap (λ (xs : List ℕ). latest (λ x. x) root_value (slice_index words r) i xs r) (sym (drop_all i roots done)) ∙ h.root r below;
  empty = h.empty;
}
