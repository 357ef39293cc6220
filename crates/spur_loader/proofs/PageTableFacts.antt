-- The loop that enters the pages into the page table.
use Rattle.std.specs.Prelude.{slice_index, slice_set, slice_get}
use Rattle.std.proofs.Common.{◌≡◌, ◌≢◌, ℕ, ◌+◌, ◌*◌, ◌/◌, ◌%◌, ◌^◌, ◌<◌, ◌≤◌, ◌==◌, List, [], ◌∷◌, ◌++◌, Some, None, Option, is_some, length, take, drop, refl, sym, ap, ◌∙◌, arith, if◌then◌else◌}
use Rattle.std.proofs.lemmas.Bool.{eqb-true, eqb-false}
use Rattle.std.proofs.lemmas.List.{drop_all, take_all, length-set, get_or-set_other, take_more, length-take-le}
use Rattle.std.proofs.lemmas.Nat.{same_from_place}
use Rattle.std.proofs.lemmas.Option.{slice_get_within, get_or_from_slice_get}
use Rattle.std.specs.Option.{option_map}
use Rattle.spur_addr.specs.Address.{page_address}
use Rattle.spur_object.specs.declared.unit.PageText.{PageText}
use Rattle.spur_loader.specs.declared.fault.LoadFault.TheVariants.{PageTwice}
use Rattle.spur_loader.specs.Opening.{slot_of, root_word, entry_word, first_entry_of}
use Rattle.spur_loader.specs.Faults.{first_again, again_fault}
use Rattle.spur_loader.specs.Parts.{AreRoots, IsRootTable, ArePageTables, IsEntryPlace}
use Rattle.spur_loader.proofs.ListFacts.{AreApart, drop_at, apart_ascending, set_pick}
use Rattle.spur_loader.proofs.EntryWords.{entry_word-push, zero_undeclared, some_declared}

-- the page table when the entries of the first i pages are written, and what is left declares the same page again
pub record EntriesSoFar (roots : List ℕ) (pages : List PageText) (words : List ℕ) (i : ℕ) : Type 0 where
  pub size : length words ≡ 1024 * (64 + length roots)
  pub root : (r : ℕ) → r < 65536 → slice_index words r ≡ root_word roots r
  pub entry : (t r j : ℕ) → slice_get roots t ≡ Some r → j < 1024 → slice_index words ((64 + t) * 1024 + j) ≡ entry_word (take i pages) (r * 1024 + j)
  pub again : first_again (take i pages) (drop i pages) ≡ first_again [] pages

pub entries_begin : (roots : List ℕ) (pages : List PageText) (words : List ℕ) → IsRootTable roots words → EntriesSoFar roots pages words 0
entries_begin roots pages words table = record {
  size = table.size;
  root = table.root;
  entry = λ t r j at below. table.empty ((64 + t) * 1024 + j) (omega arith);
  again = refl;
}

-- the place of an entry lies in the page table
pub place_within : (roots : List ℕ) (page place count : ℕ) → IsEntryPlace roots page place → count ≡ 1024 * (64 + length roots) → place < count
place_within roots page place count h size =
    let t : h.table < length roots = slice_get_within roots h.table (page / 1024) h.there in
    let p = h.is in
    omega arith

-- and its byte is counted by 64 bits
pub place_fits : (roots : List ℕ) (page place pages : ℕ) → IsEntryPlace roots page place → length roots ≤ pages → pages ≤ 2048 → place * 4 < 2 ^ 64
place_fits roots page place pages h few many =
    let t : h.table < length roots = slice_get_within roots h.table (page / 1024) h.there in
    let p = h.is in
    omega arith

-- the entry of a page stands at the place of another one exactly where they are the same
same_entry : (roots : List ℕ) (page place t r j : ℕ) → AreApart (λ x. x) roots → IsEntryPlace roots page place → slice_get roots t ≡ Some r → j < 1024
    → page ≡ r * 1024 + j → (64 + t) * 1024 + j ≡ place
same_entry roots page place t r j apart h at below same =
    let root : page / 1024 ≡ r = omega arith in
    let rest : page % 1024 ≡ j = omega arith in
    let tables : h.table ≡ t = apart.apart h.table t (page / 1024) r h.there at root in
    let p = h.is in
    omega arith

other_entry : (roots : List ℕ) (page place t r j : ℕ) → IsEntryPlace roots page place → slice_get roots t ≡ Some r → j < 1024
    → (64 + t) * 1024 + j ≡ place → page ≡ r * 1024 + j
other_entry roots page place t r j h at below same =
    let small : page % 1024 < 1024 = omega arith in
    let parts = same_from_place (64 + t) j (64 + h.table) (page % 1024) 1024 below small (same ∙ h.is) in
    let positions : 64 + t ≡ 64 + h.table = parts.0 in
    let tables : t ≡ h.table = omega arith in
    let root : Some r ≡ Some (page / 1024) = sym at ∙ ap (slice_get roots) tables ∙ h.there in
    let r-is : r ≡ page / 1024 = cc in
    let j-is : j ≡ page % 1024 = parts.1 in
    omega arith

-- what stands at the place of a page
pub word_there : (roots : List ℕ) (pages : List PageText) (words : List ℕ) (i page place : ℕ) → EntriesSoFar roots pages words i → IsEntryPlace roots page place
    → slice_index words place ≡ entry_word (take i pages) page
word_there roots pages words i page place h stands =
    let rest : page % 1024 < 1024 = omega arith in
    let whole : page / 1024 * 1024 + page % 1024 ≡ page = omega arith in
    ap (slice_index words) stands.is ∙ h.entry stands.table (page / 1024) (page % 1024) stands.there rest ∙ ap (entry_word (take i pages)) whole

-- the first pages with one more
take_at : (pages : List PageText) (i : ℕ) (page : PageText) → slice_get pages i ≡ Some page → take (i + 1) pages ≡ take i pages ++ page ∷ []
take_at pages i page at =
    take_more pages i page (slice_get_within pages i page at) ∙ ap (λ (p : PageText). take i pages ++ p ∷ []) (get_or_from_slice_get pages i page page at)

take_length : (pages : List PageText) (i : ℕ) (page : PageText) → slice_get pages i ≡ Some page → length (take i pages) ≡ i
take_length pages i page at = let l = slice_get_within pages i page at in length-take-le i pages (omega arith)

-- the next page is not declared before
again_next : (pages : List PageText) (i : ℕ) (page : PageText) → slice_get pages i ≡ Some page → slot_of (take i pages) page.page ≡ None
    → first_again (take (i + 1) pages) (drop (i + 1) pages) ≡ first_again (take i pages) (drop i pages)
again_next pages i page at none =
    ap (λ (front : List PageText). first_again front (drop (i + 1) pages)) (take_at pages i page at)
    ∙ ap (λ (o : Option ℕ). if is_some o then Some page else first_again (take i pages ++ page ∷ []) (drop (i + 1) pages)) (sym none)
    ∙ ap (λ (rest : List PageText). first_again (take i pages) rest) (sym (drop_at pages i page at))

-- or it is, and then it is the first
again_here : (pages : List PageText) (i k : ℕ) (page : PageText) → slice_get pages i ≡ Some page → slot_of (take i pages) page.page ≡ Some k
    → first_again (take i pages) (drop i pages) ≡ Some page
again_here pages i k page at slot =
    ap (λ (rest : List PageText). first_again (take i pages) rest) (drop_at pages i page at)
    ∙ ap (λ (o : Option ℕ). if is_some o then Some page else first_again (take i pages ++ page ∷ []) (drop (i + 1) pages)) slot

pub entries_again : (roots : List ℕ) (pages : List PageText) (words : List ℕ) (i place : ℕ) (page : PageText) → EntriesSoFar roots pages words i
    → slice_get pages i ≡ Some page → IsEntryPlace roots page.page place → slice_index words place ≢ 0 → again_fault pages ≡ Some (PageTwice (page_address page.page))
entries_again roots pages words i place page h at stands some =
    let there = word_there roots pages words i page.page place h stands in
    let d = some_declared (take i pages) page.page (λ e. some (there ∙ e)) in
    ap (option_map (λ p. PageTwice (page_address p.page))) (sym h.again ∙ again_here pages i d.0 page at d.1)

pub entries_more : (roots : List ℕ) (pages : List PageText) (words : List ℕ) (i place : ℕ) (page : PageText) → AreRoots pages roots
    → EntriesSoFar roots pages words i → slice_get pages i ≡ Some page → IsEntryPlace roots page.page place → slice_index words place ≡ 0
    → EntriesSoFar roots pages (slice_set words place (first_entry_of i page)) (i + 1)
entries_more roots pages words i place page needed h at stands free =
    let none : slot_of (take i pages) page.page ≡ None = zero_undeclared (take i pages) page.page (sym (word_there roots pages words i page.page place h stands) ∙ free) in
    record {
      size = length-set words place (first_entry_of i page) ∙ h.size;
      root = λ r below.
          let p = stands.is in
          get_or-set_other words place r (first_entry_of i page) 0 (λ same. omega arith) ∙ h.root r below;
      entry = λ t r j there below.
          let apart = apart_ascending roots needed.ascending in
          set_pick words place ((64 + t) * 1024 + j) (first_entry_of i page) (page.page == r * 1024 + j)
          (place_within roots page.page place (length words) stands h.size)
          (λ e. same_entry roots page.page place t r j apart stands there below (eqb-true page.page (r * 1024 + j) e))
          (λ e s. eqb-false page.page (r * 1024 + j) e (other_entry roots page.page place t r j stands there below s))
          ∙ ap (λ (w : ℕ). if page.page == r * 1024 + j then first_entry_of i page else w) (h.entry t r j there below)
          ∙ ap (λ (n : ℕ). if page.page == r * 1024 + j then first_entry_of n page else entry_word (take i pages) (r * 1024 + j)) (sym (take_length pages i page at))
          ∙ sym (entry_word-push (take i pages) page (r * 1024 + j) none)
          ∙ ap (λ (ps : List PageText). entry_word ps (r * 1024 + j)) (sym (take_at pages i page at));
      again = again_next pages i page at none ∙ h.again;
    }

pub entries_all : (roots : List ℕ) (pages : List PageText) (words : List ℕ) (i : ℕ) → EntriesSoFar roots pages words i → length pages ≤ i → ArePageTables roots pages words
entries_all roots pages words i h done = record {
  size = h.size;
  root = h.root;
  entry = λ t r j there below. h.entry t r j there below ∙ ap (λ (ps : List PageText). entry_word ps (r * 1024 + j)) (take_all i pages done);
}

pub entries_once : (roots : List ℕ) (pages : List PageText) (words : List ℕ) (i : ℕ) → EntriesSoFar roots pages words i → length pages ≤ i → again_fault pages ≡ None
entries_once roots pages words i h done =
    ap (option_map (λ p. PageTwice (page_address p.page)))
    (sym h.again ∙ ap (λ (rest : List PageText). first_again (take i pages) rest) (drop_all i pages done))
