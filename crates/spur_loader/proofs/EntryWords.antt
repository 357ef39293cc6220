-- The words of an opening's tables: their digits, and where they stand.
use Rattle.std.specs.Prelude.{slice_get}
use Rattle.std.proofs.Common.{◌≡◌, ◌≢◌, ℕ, zero, suc, ◌+◌, ◌==◌, Bool, true, false, not, ◌&&◌, List, [], ◌∷◌, ◌++◌, Option, Some, None, IsTrue, option_map, length, refl, sym, ap, ◌∙◌, subst, arith, if◌then◌else◌}
use Rattle.std.specs.Int.{bit_at}
use Rattle.std.specs.Option.{option_or}
use Rattle.std.proofs.lemmas.Bool.{eqb-true}
use Rattle.std.proofs.lemmas.Bool.Decides.{nat_tests}
use Rattle.std.proofs.lemmas.List.{map-append, length-map}
use Rattle.std.proofs.lemmas.Option.{slice_get-map}
use Rattle.spur_addr.specs.PageEntry.{is_readable, is_valid, number_of, resident_of, swapped_of, with_bit, field}
use Rattle.spur_addr.specs.declared.page_entry.Protection.{Protection}
use Rattle.spur_addr.specs.declared.page_entry.Protection.TheVariants.{ReadWrite}
use Rattle.spur_addr.proofs.EntryFacts.{is_on_swap-swapped, number_of-swapped, swapped_readable}
use Rattle.spur_object.specs.declared.unit.PageText.{PageText}
use Rattle.spur_loader.specs.Opening.{page_numbers, first_place_from, first_place, slot_of, page_of_slot, root_entry_of, root_word, root_word_in, entry_word, entry_word_in, first_entry_of}
use Rattle.spur_loader.specs.Parts.{slot_in_entry}
use Rattle.spur_loader.proofs.ListFacts.{AreApart, Placed, Absent, At, placed, place_at, apart_keys, map_get, latest, latest_absent, latest_at}

-- ---- digits of a root entry

-- a digit, tested
is_one : (b c : ℕ) → b ≡ c → (b == 1) ≡ (c == 1)
is_one b c same = ap (λ (m : ℕ). m == 1) same

has_no_reserved : (a b : ℕ) → a ≡ 0 → b ≢ 3 → IsTrue ((a == 0) && not (b == 3))
has_no_reserved a b zero_a other_b = grind (arith, nat_tests)

pub is_valid-root : (frame : ℕ) → is_valid (root_entry_of frame) ≡ true
is_valid-root frame = is_one (bit_at (root_entry_of frame) 0) 1 (omega arith)

pub number_of-root : (frame : ℕ) → number_of (root_entry_of frame) ≡ frame
number_of-root frame = omega arith

pub root_readable : (frame : ℕ) → IsTrue (is_readable (root_entry_of frame))
root_readable frame = has_no_reserved (field (root_entry_of frame) 7 5) (field (root_entry_of frame) 3 2) (omega arith) (λ e. omega arith)

-- what the code makes is such an entry
pub root_entry_is : (frame : ℕ) → with_bit (resident_of frame ReadWrite) 2 true ≡ root_entry_of frame
root_entry_is frame = omega arith

-- ---- root entries

-- a root entry that is needed names the page of the page table at its position
pub root_word_at : (roots : List ℕ) (t r : ℕ) → AreApart (λ x. x) roots → slice_get roots t ≡ Some r → root_word roots r ≡ root_entry_of (64 + t)
root_word_at roots t r apart at = ap root_word_in (place_at roots t r apart at)

-- what a root entry is, by its position
abbrev pub root_value : ℕ → ℕ → ℕ
root_value t r = root_entry_of (64 + t)

root_word_by : (roots : List ℕ) (r : ℕ) → AreApart (λ x. x) roots → Placed 0 roots r → latest (λ x. x) root_value 0 0 roots r ≡ root_word roots r
root_word_by roots r apart (Absent none lacks) =
    latest_absent (λ x. x) root_value 0 0 roots r (λ i x at same. lacks i (at ∙ ap Some same)) ∙ sym (ap root_word_in none)
root_word_by roots r apart (At i is there) =
    latest_at (λ x. x) root_value 0 0 roots i r apart there ∙ sym (ap root_word_in is)

-- the root entries, one after another
pub root_word_is : (roots : List ℕ) (r : ℕ) → AreApart (λ x. x) roots → latest (λ x. x) root_value 0 0 roots r ≡ root_word roots r
root_word_is roots r apart = root_word_by roots r apart (placed 0 roots r)

root_word_readable_by : (roots : List ℕ) (r : ℕ) → Placed 0 roots r → IsTrue (is_readable (root_word roots r))
root_word_readable_by roots r (Absent none lacks) = subst (λ (e : ℕ). IsTrue (is_readable e)) (sym (ap root_word_in none)) refl
root_word_readable_by roots r (At i place there) =
    subst (λ (e : ℕ). IsTrue (is_readable e)) (sym (ap root_word_in place)) (root_readable (64 + (0 + i)))

pub root_word_readable : (roots : List ℕ) (r : ℕ) → IsTrue (is_readable (root_word roots r))
root_word_readable roots r = root_word_readable_by roots r (placed 0 roots r)

-- ---- entries of pages

-- a page's number
abbrev pub page_key : PageText → ℕ
page_key page = page.page

-- the entry of the page that is declared at a position
pub entry_word_in-at : (pages : List PageText) (k p : ℕ) (page : PageText) → slot_of pages p ≡ Some k → slice_get pages k ≡ Some page
    → entry_word pages p ≡ first_entry_of k page
entry_word_in-at pages k p page slot at =
    ap (λ (o : Option ℕ). entry_word_in o (page_of_slot pages o)) slot ∙ ap (λ (o : Option PageText). entry_word_in (Some k) o) at

-- and of one that is not declared
pub entry_word-absent : (pages : List PageText) (p : ℕ) → slot_of pages p ≡ None → entry_word pages p ≡ 0
entry_word-absent pages p none = ap (λ (o : Option ℕ). entry_word_in o (page_of_slot pages o)) none

pub slot_at : (pages : List PageText) (k : ℕ) (page : PageText) → AreApart page_key pages → slice_get pages k ≡ Some page → slot_of pages page.page ≡ Some k
slot_at pages k page apart at =
    place_at (page_numbers pages) k page.page (apart_keys page_key pages apart) (slice_get-map page_key pages k ∙ ap (λ (o : Option PageText). option_map page_key o) at)

pub entry_word_at : (pages : List PageText) (k : ℕ) (page : PageText) → AreApart page_key pages → slice_get pages k ≡ Some page
    → entry_word pages page.page ≡ first_entry_of k page
entry_word_at pages k page apart at = entry_word_in-at pages k page.page page (slot_at pages k page apart at) at

-- what an entry word is: that of a declared page, or zero
pub data IsEntryWord (pages : List PageText) (p : ℕ) : Type 0 where
  Undeclared : slot_of pages p ≡ None → entry_word pages p ≡ 0 → ((k : ℕ) (page : PageText) → slice_get pages k ≡ Some page → page.page ≢ p) → IsEntryWord pages p
  Declared : (k : ℕ) (page : PageText) → slot_of pages p ≡ Some k → slice_get pages k ≡ Some page → page.page ≡ p → entry_word pages p ≡ first_entry_of k page
      → IsEntryWord pages p

entry_by : (pages : List PageText) (p : ℕ) → Placed 0 (page_numbers pages) p → IsEntryWord pages p
entry_by pages p (Absent none lacks) =
    Undeclared none (entry_word-absent pages p none)
    (λ k page at same. lacks k (slice_get-map page_key pages k ∙ ap (λ (o : Option PageText). option_map page_key o) at ∙ ap Some same))
entry_by pages p (At i is there) =
    let m = map_get page_key pages i p there in
    let z : 0 + i ≡ i = omega arith in
    Declared i m.member (is ∙ ap Some z) m.at m.is (entry_word_in-at pages i p m.member (is ∙ ap Some z) m.at)

pub entry_cases : (pages : List PageText) (p : ℕ) → IsEntryWord pages p
entry_cases pages p = entry_by pages p (placed 0 (page_numbers pages) p)

-- ---- the slot that an entry names

-- an entry of a page on swap is not zero
swapped_some : (k : ℕ) (p : Protection) → swapped_of k p ≢ 0
swapped_some k p nil = omega arith

pub slot_in_swapped : (k : ℕ) (p : Protection) → slot_in_entry (swapped_of k p) ≡ Some k
slot_in_swapped k p =
    ap (λ (b : Bool). if b then Some (number_of (swapped_of k p)) else None) (is_on_swap-swapped k p) ∙ ap Some (number_of-swapped k p)

slot_in_by : (pages : List PageText) (p : ℕ) → IsEntryWord pages p → slot_in_entry (entry_word pages p) ≡ slot_of pages p
slot_in_by pages p (Undeclared none nil lacks) = ap slot_in_entry nil ∙ sym none
slot_in_by pages p (Declared k page slot at is value) = ap slot_in_entry value ∙ slot_in_swapped k page.prot ∙ sym slot

-- the slot of an entry's word is the page's
pub slot_in_word : (pages : List PageText) (p : ℕ) → slot_in_entry (entry_word pages p) ≡ slot_of pages p
slot_in_word pages p = slot_in_by pages p (entry_cases pages p)

-- an entry is zero exactly where the page is not declared
zero_by : (pages : List PageText) (p : ℕ) → entry_word pages p ≡ 0 → IsEntryWord pages p → slot_of pages p ≡ None
zero_by pages p none (Undeclared slot nil lacks) = slot
zero_by pages p none (Declared k page slot at is value) = absurd (swapped_some k page.prot (sym value ∙ none))

pub zero_undeclared : (pages : List PageText) (p : ℕ) → entry_word pages p ≡ 0 → slot_of pages p ≡ None
zero_undeclared pages p nil = zero_by pages p nil (entry_cases pages p)

-- a page that is declared
pub record IsSlot (pages : List PageText) (p k : ℕ) : Type 0 where
  pub page : PageText
  pub at : slice_get pages k ≡ Some page
  pub is : page.page ≡ p

some_by : (pages : List PageText) (p : ℕ) → entry_word pages p ≢ 0 → IsEntryWord pages p → (k : ℕ) × (slot_of pages p ≡ Some k)
some_by pages p some (Undeclared slot nil lacks) = absurd (some nil)
some_by pages p some (Declared k page slot at is value) = (k, slot)

pub some_declared : (pages : List PageText) (p : ℕ) → entry_word pages p ≢ 0 → (k : ℕ) × (slot_of pages p ≡ Some k)
some_declared pages p some = some_by pages p some (entry_cases pages p)

slot_is_by : (pages : List PageText) (p k : ℕ) → slot_of pages p ≡ Some k → IsEntryWord pages p → IsSlot pages p k
slot_is_by pages p k slot (Undeclared none nil lacks) = let e : None ≡ Some k = sym none ∙ slot in cc
slot_is_by pages p k slot (Declared i page found at is value) =
    let e : Some i ≡ Some k = sym found ∙ slot in
    let same : i ≡ k = cc in
    record { page = page; at = ap (slice_get pages) (sym same) ∙ at; is = is }

pub slot_is : (pages : List PageText) (p k : ℕ) → slot_of pages p ≡ Some k → IsSlot pages p k
slot_is pages p k slot = slot_is_by pages p k slot (entry_cases pages p)

entry_readable_by : (pages : List PageText) (p : ℕ) → IsEntryWord pages p → IsTrue (is_readable (entry_word pages p))
entry_readable_by pages p (Undeclared none nil lacks) = subst (λ (e : ℕ). IsTrue (is_readable e)) (sym nil) refl
entry_readable_by pages p (Declared k page slot at is value) = subst (λ (e : ℕ). IsTrue (is_readable e)) (sym value) (swapped_readable k page.prot)

pub entry_readable : (pages : List PageText) (p : ℕ) → IsTrue (is_readable (entry_word pages p))
entry_readable pages p = entry_readable_by pages p (entry_cases pages p)

-- ---- one more page

place_push_by : (k x : ℕ) (xs : List ℕ) (n p : ℕ) (b : Bool) → (x == p) ≡ b
    → first_place_from (k + 1) (xs ++ n ∷ []) p ≡ option_or (first_place_from (k + 1) xs p) (if n == p then Some (k + 1 + length xs) else None)
    → first_place_from k (x ∷ xs ++ n ∷ []) p ≡ option_or (first_place_from k (x ∷ xs) p) (if n == p then Some (k + length (x ∷ xs)) else None)
place_push_by k x xs n p true e rest =
    ap (λ (b : Bool). if b then Some k else first_place_from (k + 1) (xs ++ n ∷ []) p) e
    ∙ ap (λ (b : Bool). option_or (if b then Some k else first_place_from (k + 1) xs p) (if n == p then Some (k + length (x ∷ xs)) else None)) (sym e)
place_push_by k x xs n p false e rest =
    let z : k + 1 + length xs ≡ k + length (x ∷ xs) = omega arith in
    ap (λ (b : Bool). if b then Some k else first_place_from (k + 1) (xs ++ n ∷ []) p) e
    ∙ rest
    ∙ ap (λ (m : ℕ). option_or (first_place_from (k + 1) xs p) (if n == p then Some m else None)) z
    ∙ ap (λ (b : Bool). option_or (if b then Some k else first_place_from (k + 1) xs p) (if n == p then Some (k + length (x ∷ xs)) else None)) (sym e)

-- the place of a number in a list that got one more
place_push : (k : ℕ) (xs : List ℕ) (n p : ℕ) → first_place_from k (xs ++ n ∷ []) p ≡ option_or (first_place_from k xs p) (if n == p then Some (k + length xs) else None)
place_push k [] n p = let z : k ≡ k + 0 = omega arith in ap (λ (m : ℕ). if n == p then Some m else None) z
place_push k (x ∷ xs) n p = place_push_by k x xs n p (x == p) refl (place_push (k + 1) xs n p)

slot_push : (front : List PageText) (page : PageText) (p : ℕ)
    → slot_of (front ++ page ∷ []) p ≡ option_or (slot_of front p) (if page.page == p then Some (length front) else None)
slot_push front page p =
    let z : 0 + length (page_numbers front) ≡ length front = omega (arith, length-map front page_key) in
    ap (λ (ns : List ℕ). first_place ns p) (map-append page_key front (page ∷ []))
    ∙ place_push 0 (page_numbers front) page.page p
    ∙ ap (λ (n : ℕ). option_or (first_place_from 0 (page_numbers front) p) (if page.page == p then Some n else None)) z

get_left : (front : List PageText) (page : PageText) (k : ℕ) (x : PageText) → slice_get front k ≡ Some x → slice_get (front ++ page ∷ []) k ≡ Some x
get_left [] page k x at = cc
get_left (y ∷ front) page zero x at = at
get_left (y ∷ front) page (suc k) x at = get_left front page k x at

get_last : (front : List PageText) (page : PageText) → slice_get (front ++ page ∷ []) (length front) ≡ Some page
get_last [] page = refl
get_last (y ∷ front) page = get_last front page

push_same : (front : List PageText) (page : PageText) (p : ℕ) (e : (page.page == p) ≡ true) → slot_of front p ≡ None → entry_word (front ++ page ∷ []) p ≡ first_entry_of (length front) page
push_same front page p e none =
    let slot : slot_of (front ++ page ∷ []) p ≡ Some (length front) = slot_push front page p
    ∙ ap (λ (o : Option ℕ). option_or o (if page.page == p then Some (length front) else None)) none
    ∙ ap (λ (b : Bool). if b then Some (length front) else None) e in
    entry_word_in-at (front ++ page ∷ []) (length front) p page slot (get_last front page)

push_other : (front : List PageText) (page : PageText) (p : ℕ) (e : (page.page == p) ≡ false) → IsEntryWord front p → entry_word (front ++ page ∷ []) p ≡ entry_word front p
push_other front page p e (Undeclared none nil lacks) =
    let slot : slot_of (front ++ page ∷ []) p ≡ None = slot_push front page p
    ∙ ap (λ (o : Option ℕ). option_or o (if page.page == p then Some (length front) else None)) none
    ∙ ap (λ (b : Bool). if b then Some (length front) else None) e in
    entry_word-absent (front ++ page ∷ []) p slot ∙ sym nil
push_other front page p e (Declared k other found at is value) =
    let slot : slot_of (front ++ page ∷ []) p ≡ Some k = slot_push front page p
    ∙ ap (λ (o : Option ℕ). option_or o (if page.page == p then Some (length front) else None)) found in
    entry_word_in-at (front ++ page ∷ []) k p other slot (get_left front page k other at) ∙ sym value

push_by : (front : List PageText) (page : PageText) (p : ℕ) (b : Bool) → (page.page == p) ≡ b → slot_of front page.page ≡ None
    → entry_word (front ++ page ∷ []) p ≡ (if b then first_entry_of (length front) page else entry_word front p)
push_by front page p true e none = push_same front page p e (ap (slot_of front) (sym (eqb-true page.page p e)) ∙ none)
push_by front page p false e none = push_other front page p e (entry_cases front p)

-- the entries once one more page is declared, which was not before
pub entry_word-push : (front : List PageText) (page : PageText) (p : ℕ) → slot_of front page.page ≡ None
    → entry_word (front ++ page ∷ []) p ≡ (if page.page == p then first_entry_of (length front) page else entry_word front p)
entry_word-push front page p none = push_by front page p (page.page == p) refl none
