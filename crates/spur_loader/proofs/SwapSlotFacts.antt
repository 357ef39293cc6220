-- The slot of a page, found in the tables, and the loop that fills the swap slots.
use Rattle.std.specs.Prelude.{slice_index, slice_set, slice_get, Contains}
use Rattle.std.specs.List.{All, find}
use Rattle.std.proofs.Common.{◌≡◌, ℕ, ◌+◌, ◌*◌, ◌/◌, ◌%◌, ◌<◌, ◌≤◌, ◌==◌, not, List, ◌∷◌, Some, None, Option, IsTrue, is_some, length, drop, refl, sym, ap, ◌∙◌, subst, arith, if◌then◌else◌, ⊎_elim, ◌-◌}
use Rattle.std.proofs.lemmas.Bool.{eqb-true, eqb-false, cases_lt}
use Rattle.std.proofs.lemmas.List.{drop_all, length-set}
use Rattle.std.proofs.Math.ListN.{get_or}
use Rattle.std.proofs.lemmas.List.Elements.{All-from_get_or}
use Rattle.std.proofs.lemmas.Nat.{same_from_place}
use Rattle.std.proofs.lemmas.Option.{slice_get_within, slice_get-get_or}
use Rattle.std.specs.Option.{option_map}
use Rattle.spur_addr.specs.Address.{page_of}
use Rattle.spur_addr.specs.PageEntry.{is_readable}
use Rattle.spur_object.specs.Limits.{IsWord}
use Rattle.spur_object.specs.declared.unit.PageText.{PageText}
use Rattle.spur_object.specs.declared.unit.WordText.{WordText}
use Rattle.spur_loader.specs.declared.fault.LoadFault.TheVariants.{WordOutside}
use Rattle.spur_loader.specs.Opening.{slot_of, root_word, entry_word, last_word, page_word}
use Rattle.spur_loader.specs.Faults.{again_fault, is_outside, outside_fault}
use Rattle.spur_loader.specs.Parts.{AreRoots, AreZeros, ArePageTables, HoldsPages, slot_in_entry, slot_under, found_slot}
use Rattle.spur_loader.proofs.ListFacts.{AreApart, Placed, Absent, At, placed, all_get, contains_get, drop_at, set_pick}
use Rattle.spur_loader.proofs.EntryWords.{page_key, IsEntryWord, Undeclared, Declared, entry_cases, entry_readable, root_word_readable, slot_in_word, slot_is}
use Rattle.spur_loader.proofs.RootFacts.{root_needed}
use Rattle.spur_loader.proofs.OnceFacts.{pages_apart}

-- ---- the slot of a page, found in the page table

found_by : (roots : List ℕ) (pages : List PageText) (table : List ℕ) (p : ℕ) → AreRoots pages roots → ArePageTables roots pages table
    → Placed 0 roots (p / 1024) → IsEntryWord pages p → found_slot roots table p ≡ slot_of pages p
found_by roots pages table p needed h (Absent none lacks) (Undeclared slot nil others) = ap (slot_under table p) none ∙ sym slot
found_by roots pages table p needed h (Absent none lacks) (Declared k page slot at is value) =
    let c = contains_get roots (p / 1024) (subst (λ (n : ℕ). Contains roots (n / 1024)) is (root_needed pages roots k page needed at)) in
    absurd (lacks c.position (c.at ∙ ap Some c.holds))
found_by roots pages table p needed h (At t place there) either =
    let z : 0 + t ≡ t = omega arith in
    let rest : p % 1024 < 1024 = omega arith in
    let whole : p / 1024 * 1024 + p % 1024 ≡ p = omega arith in
    ap (slot_under table p) (place ∙ ap Some z)
    ∙ ap slot_in_entry (h.entry t (p / 1024) (p % 1024) there rest ∙ ap (entry_word pages) whole)
    ∙ slot_in_word pages p

pub found_is : (roots : List ℕ) (pages : List PageText) (table : List ℕ) (p : ℕ) → AreRoots pages roots → ArePageTables roots pages table
    → found_slot roots table p ≡ slot_of pages p
found_is roots pages table p needed h = found_by roots pages table p needed h (placed 0 roots (p / 1024)) (entry_cases pages p)

-- each word of the root table and of the page table is readable
pub words_readable : (roots : List ℕ) (pages : List PageText) (words : List ℕ) → ((r : ℕ) → r < 65536 → slice_index words r ≡ root_word roots r)
    → ((t r j : ℕ) → slice_get roots t ≡ Some r → j < 1024 → slice_index words ((64 + t) * 1024 + j) ≡ entry_word pages (r * 1024 + j))
    → (k : ℕ) → k < 1024 * (64 + length roots) → IsTrue (is_readable (slice_index words k))
words_readable roots pages words root entry k below = ⊎_elim
    (λ (first : k < 65536). subst (λ (e : ℕ). IsTrue (is_readable e)) (sym (root k first)) (root_word_readable roots k))
    (λ (above : 65536 ≤ k).
    let t : ℕ = k / 1024 - 64 in
    let rest : k % 1024 < 1024 = omega arith in
    let place : (64 + t) * 1024 + k % 1024 ≡ k = omega arith in
    let l : t < length roots = omega arith in
    let at = slice_get-get_or roots t 0 l in
    subst (λ (i : ℕ). IsTrue (is_readable (slice_index words i))) place
    (subst (λ (e : ℕ). IsTrue (is_readable e)) (sym (entry t (get_or roots t 0) (k % 1024) at rest))
    (entry_readable pages (get_or roots t 0 * 1024 + k % 1024))))
    (cases_lt k 65536)

pub table_readable : (roots : List ℕ) (pages : List PageText) (table : List ℕ) → ArePageTables roots pages table → All (λ e. IsTrue (is_readable e)) table
table_readable roots pages table h = All-from_get_or (λ e. IsTrue (is_readable e)) table 0
    (λ i below. let size = h.size in words_readable roots pages table h.root h.entry i (omega arith))

-- ---- the swap slots

-- the swap slots when the first i words are written
pub record WordsSoFar (pages : List PageText) (texts : List WordText) (words : List ℕ) (i : ℕ) : Type 0 where
  pub size : length words ≡ 1024 * length pages
  pub word : (k j : ℕ) (page : PageText) → slice_get pages k ≡ Some page → j < 1024
      → last_word (slice_index words (k * 1024 + j)) (drop i texts) (page.page * 4096 + 4 * j) ≡ page_word texts page.page j
  pub inside : find (is_outside pages) (drop i texts) ≡ find (is_outside pages) texts

pub words_begin : (pages : List PageText) (texts : List WordText) (words : List ℕ) → AreZeros (length pages * 1024) words → WordsSoFar pages texts words 0
words_begin pages texts words zeros = record {
  size = (let s = zeros.size in omega arith);
  word = λ k j page at below. ap (λ (s : ℕ). last_word s texts (page.page * 4096 + 4 * j)) (zeros.zero (k * 1024 + j));
  inside = refl;
}

same_word : (pages : List PageText) (g k j slot : ℕ) (page named : PageText) → AreApart page_key pages → slice_get pages slot ≡ Some named → named.page ≡ page_of g
    → slice_get pages k ≡ Some page → j < 1024 → g ≡ page.page * 4096 + 4 * j → k * 1024 + j ≡ slot * 1024 + g / 4 % 1024
same_word pages g k j slot page named apart there is at below same =
    let number : named.page ≡ page.page = (let e = is in omega arith) in
    let slots : slot ≡ k = apart.apart slot k named page there at number in
    omega arith

other_word : (pages : List PageText) (g k j slot : ℕ) (page named : PageText) → slice_get pages slot ≡ Some named → named.page ≡ page_of g → g % 4 ≡ 0
    → slice_get pages k ≡ Some page → j < 1024 → k * 1024 + j ≡ slot * 1024 + g / 4 % 1024 → g ≡ page.page * 4096 + 4 * j
other_word pages g k j slot page named there is aligned at below same =
    let small : g / 4 % 1024 < 1024 = omega arith in
    let parts = same_from_place k j slot (g / 4 % 1024) 1024 below small same in
    let one : Some page ≡ Some named = sym at ∙ ap (slice_get pages) parts.0 ∙ there in
    let pages-are : page ≡ named = cc in
    let number : page.page ≡ named.page = ap page_key pages-are in
    let rest : j ≡ g / 4 % 1024 = parts.1 in
    omega arith

-- the place of the word lies in the slots
pub slot_within : (pages : List PageText) (slot count g : ℕ) (page : PageText) → slice_get pages slot ≡ Some page → count ≡ 1024 * length pages
    → slot * 1024 + g / 4 % 1024 < count
slot_within pages slot count g page at size = let l = slice_get_within pages slot page at in omega arith

-- a word whose page has no slot is the first outside
pub word_outside : (pages : List PageText) (texts : List WordText) (words : List ℕ) (i : ℕ) (word : WordText) → WordsSoFar pages texts words i
    → slice_get texts i ≡ Some word → slot_of pages (page_of word.at) ≡ None → outside_fault pages texts ≡ Some (WordOutside word.at)
word_outside pages texts words i word h at none =
    ap (option_map (λ w. WordOutside w.at))
    (sym h.inside ∙ ap (find (is_outside pages)) (drop_at texts i word at)
    ∙ ap (λ (o : Option ℕ). if not (is_some o) then Some word else find (is_outside pages) (drop (i + 1) texts)) none)

pub words_more : (pages : List PageText) (texts : List WordText) (words : List ℕ) (i slot : ℕ) (word : WordText) → again_fault pages ≡ None
    → All IsWord texts → WordsSoFar pages texts words i → slice_get texts i ≡ Some word → slot_of pages (page_of word.at) ≡ Some slot
    → WordsSoFar pages texts (slice_set words (slot * 1024 + word.at / 4 % 1024) word.value) (i + 1)
words_more pages texts words i slot word once given h at found =
    let s = slot_is pages (page_of word.at) slot found in
    record {
      size = length-set words (slot * 1024 + word.at / 4 % 1024) word.value ∙ h.size;
      word = λ k j other at-k below.
          let apart = pages_apart pages once in
          let fits : IsWord word = all_get IsWord texts i word given at in
          let within : slot * 1024 + word.at / 4 % 1024 < length words = slot_within pages slot (length words) word.at s.page s.at h.size in
          let rest : drop i texts ≡ word ∷ drop (i + 1) texts = drop_at texts i word at in
          let g : ℕ = other.page * 4096 + 4 * j in
          ap (λ (w : ℕ). last_word w (drop (i + 1) texts) g)
          (set_pick words (slot * 1024 + word.at / 4 % 1024) (k * 1024 + j) word.value (word.at == g) within
          (λ e. same_word pages word.at k j slot other s.page apart s.at s.is at-k below (eqb-true word.at g e))
          (λ e q. eqb-false word.at g e (other_word pages word.at k j slot other s.page s.at s.is fits.aligned at-k below q)))
          ∙ ap (λ (ws : List WordText). last_word (slice_index words (k * 1024 + j)) ws g) (sym rest)
          ∙ h.word k j other at-k below;
      inside = ap (λ (o : Option ℕ). if not (is_some o) then Some word else find (is_outside pages) (drop (i + 1) texts)) (sym found)
          ∙ ap (find (is_outside pages)) (sym (drop_at texts i word at))
          ∙ h.inside;
    }

pub words_all : (pages : List PageText) (texts : List WordText) (words : List ℕ) (i : ℕ) → WordsSoFar pages texts words i → length texts ≤ i → HoldsPages pages texts words
words_all pages texts words i h done = record {
  size = h.size;
  word = λ k j page at below.
      ap (λ (ws : List WordText). last_word (slice_index words (k * 1024 + j)) ws (page.page * 4096 + 4 * j)) (sym (drop_all i texts done)) ∙ h.word k j page at below;
}

pub words_inside : (pages : List PageText) (texts : List WordText) (words : List ℕ) (i : ℕ) → WordsSoFar pages texts words i → length texts ≤ i → outside_fault pages texts ≡ None
words_inside pages texts words i h done =
    ap (option_map (λ w. WordOutside w.at)) (sym h.inside ∙ ap (find (is_outside pages)) (drop_all i texts done))
