-- An opening stands for the plain memory of its program, whatever the options are.
use Rattle.std.specs.Prelude.{slice_get, map}
use Rattle.std.specs.List.{list_any}
use Rattle.std.proofs.Common.{◌≡◌, ℕ, suc, ◌+◌, ◌*◌, ◌/◌, ◌%◌, ◌^◌, ◌<◌, ◌==◌, Bool, true, false, if◌then◌else◌, Some, None, List, [], ◌∷◌, length, slice_index, refl, sym, ap, ◌∙◌, arith}
use Rattle.std.proofs.lemmas.Bool.{eq-eqb}
use Rattle.std.proofs.lemmas.List.{ext_get_or, get_or-map, length-map}
use Rattle.std.proofs.lemmas.List.FromFn.{get_or-map-range_with_len, length-map-range_with_len}
use Rattle.std.proofs.lemmas.List.Folds.{list_any_at}
use Rattle.std.proofs.lemmas.Option.{get_or_from_slice_get, slice_get_within}
use Rattle.spur_addr.specs.Address.{page_address}
use Rattle.spur_addr.specs.PageEntry.{is_valid, number_of, protection_of, swapped_of}
use Rattle.spur_addr.specs.Pages.{page_at}
use Rattle.spur_addr.specs.declared.page_entry.Protection.{Protection}
use Rattle.spur_addr.proofs.EntryFacts.{is_valid-swapped, protection_of-swapped}
use Rattle.spur_flat.specs.declared.flat.Flat.{Flat}
use Rattle.spur_flat.specs.Pager.{or_zero, position_in, swap_slot_of, word_of}
use Rattle.spur_flat.specs.Table.{entry_at}
use Rattle.spur_flat.specs.Validity.{IsValidFlat}
use Rattle.spur_flat.proofs.CleanFacts.{page_of-address, word_of-page}
use Rattle.spur_flat.proofs.PagerFacts.{is_at_position, page_long}
use Rattle.spur_flat.proofs.PageWordFacts as pages
use Rattle.spur_object.specs.Limits.{IsPage, IsUnit}
use Rattle.spur_object.specs.declared.unit.PageText.{PageText}
use Rattle.spur_object.specs.declared.unit.Unit.{Unit as Program}
use Rattle.spur_object.specs.declared.unit.WordText.{WordText}
use Rattle.spur_plain.specs.PlainMemory.{PlainPage}
use Rattle.spur_plain.specs.Virtual.{virtual, virtual_page, words_under}
use Rattle.spur_loader.specs.declared.opening.Options.{Options}
use Rattle.spur_loader.specs.Faults.{load_fault_of}
use Rattle.spur_loader.specs.Opening.{each_below, entry_word, opening_flat, page_word, root_entry_of}
use Rattle.spur_loader.specs.Readings.{IsFirstFlat}
use Rattle.spur_loader.proofs.EntryWords.{entry_word_at, is_valid-root, number_of-root, page_key, root_word_at}
use Rattle.spur_loader.proofs.FaultFacts.{no_fault}
use Rattle.spur_loader.proofs.ListFacts.{AreApart, all_get, apart_ascending, contains_get}
use Rattle.spur_loader.proofs.OnceFacts.{pages_apart}
use Rattle.spur_loader.proofs.ReadingFacts.{first_flat_reads}
use Rattle.spur_loader.proofs.RootFacts.{root_needed}
use Rattle.spur_loader.proofs.ValidFacts.{flat_valid}
use Rattle.spur_program.specs.PlainMemory.{first_page, first_words, plain_memory_of}

-- ---- lists

-- a list is what a definition gives, member by member
each_is : (n : ℕ) (f : ℕ → ℕ) (xs : List ℕ) → length xs ≡ n → ((i : ℕ) → i < n → slice_index xs i ≡ f i) → xs ≡ each_below n f
each_is n f xs size reads =
    ext_get_or 0 xs (each_below n f) (size ∙ sym (length-map-range_with_len f 0 n))
    (λ i below. let l : i < n = omega arith in reads i l ∙ sym (get_or-map-range_with_len f 0 n i i 0 l (omega arith)))

first_words_are : (words : List WordText) (page : ℕ) (xs : List ℕ) → length xs ≡ 1024 → ((i : ℕ) → i < 1024 → slice_index xs i ≡ page_word words page i) → xs ≡ first_words words page
unfolding first_words
first_words_are words page xs size reads = each_is 1024 (page_word words page) xs size reads

-- two definitions that agree at each member, of its numbers
maps_agree : (ps : List PageText) (f : ℕ → PlainPage) (g : PageText → PlainPage) → ((i : ℕ) (page : PageText) → slice_get ps i ≡ Some page → f page.page ≡ g page) → map f (map page_key ps) ≡ map g ps
maps_agree [] f g each = refl
maps_agree (p ∷ ps) f g each =
    ap (λ (x : PlainPage). x ∷ map f (map page_key ps)) (each 0 p refl)
    ∙ ap (λ (xs : List PlainPage). g p ∷ xs) (maps_agree ps f g (λ i page at. each (suc i) page at))

-- ---- the entry of a declared page

entry_under : (words : List ℕ) (p t : ℕ) → slice_index words (p / 2 ^ 10) ≡ root_entry_of (64 + t) → entry_at words p ≡ Some (slice_index words ((64 + t) * 1024 + p % 1024))
entry_under words p t root =
    ap (λ (e : ℕ). if is_valid e then Some (slice_index words (number_of e * 1024 + p % 1024)) else None) root
    ∙ ap (λ (b : Bool). if b then Some (slice_index words (number_of (root_entry_of (64 + t)) * 1024 + p % 1024)) else None) (is_valid-root (64 + t))
    ∙ ap (λ (n : ℕ). Some (slice_index words (n * 1024 + p % 1024))) (number_of-root (64 + t))

entry_of : (unit : Program) (options : Options) (F : Flat) (o : IsFirstFlat unit options F) (p t : ℕ) → p < 2 ^ 26 → slice_get o.roots t ≡ Some (p / 1024)
    → entry_at F.words p ≡ Some (entry_word unit.pages p)
entry_of unit options F o p t small at =
    let below : p / 1024 < 65536 = omega arith in
    let rest : p % 1024 < 1024 = omega arith in
    let whole : p / 1024 * 1024 + p % 1024 ≡ p = omega arith in
    entry_under F.words p t (o.root (p / 1024) below ∙ root_word_at o.roots t (p / 1024) (apart_ascending o.roots o.are_roots.ascending) at)
    ∙ ap Some (o.entry t (p / 1024) (p % 1024) at rest ∙ ap (entry_word unit.pages) whole)

declared_word : (unit : Program) (options : Options) (F : Flat) (o : IsFirstFlat unit options F) (i : ℕ) (page : PageText) → page.page < 2 ^ 26 → AreApart page_key unit.pages
    → slice_get unit.pages i ≡ Some page → word_of F (page_address page.page) ≡ swapped_of i page.prot
declared_word unit options F o i page small apart at =
    let root = contains_get o.roots (page.page / 1024) (root_needed unit.pages o.roots i page o.are_roots at) in
    word_of-page F page.page
    ∙ ap or_zero (entry_of unit options F o page.page root.position small (root.at ∙ ap Some root.holds) ∙ ap Some (entry_word_at unit.pages i page apart at))

-- its slot is its position
declared_slot : (unit : Program) (options : Options) (F : Flat) (o : IsFirstFlat unit options F) (i : ℕ) (page : PageText) → IsValidFlat F → slice_get unit.pages i ≡ Some page
    → swap_slot_of F (page_address page.page) ≡ i
declared_slot unit options F o i page ok at =
    let n : length F.pages ≡ length unit.pages = ap length o.pages ∙ length-map unit.pages page_key in
    let l : i < length unit.pages = slice_get_within unit.pages i page at in
    let within : i < length F.pages = omega arith in
    let number : slice_index F.pages i ≡ page.page =
    ap (λ (ns : List ℕ). slice_index ns i) o.pages ∙ get_or-map page_key unit.pages i page 0 l ∙ ap page_key (get_or_from_slice_get unit.pages i page page at) in
    let found : list_any (λ (q : ℕ). q == page.page) F.pages ≡ true = list_any_at (λ (q : ℕ). q == page.page) F.pages i 0 within (eq-eqb (slice_index F.pages i) page.page number) in
    let place = is_at_position F.pages page.page found in
    ap (position_in F.pages) (page_of-address page.page)
    ∙ ok.pages.differ (position_in F.pages page.page) i place.within within (place.is ∙ sym number)

-- and its slot has its first words
declared_words : (unit : Program) (options : Options) (F : Flat) (o : IsFirstFlat unit options F) (i : ℕ) (page : PageText) → slice_get unit.pages i ≡ Some page
    → page_at F.swap i ≡ first_words unit.words page.page
declared_words unit options F o i page at =
    let l : i < length unit.pages = slice_get_within unit.pages i page at in
    let size : length F.swap ≡ 1024 * length unit.pages = o.swap_size in
    first_words_are unit.words page.page (page_at F.swap i) (page_long F.swap i (omega arith))
    (λ j low. pages.page_word F.swap i j low ∙ o.swap i j page at low)

-- ---- the whole

abbrev made : ℕ → Protection → List ℕ → PlainPage
made p a ws = record { page = p; protection = a; words = ws }

page_path : (p : ℕ) (a b : Protection) (us vs : List ℕ) → a ≡ b → us ≡ vs → made p a us ≡ made p b vs
page_path p a b us vs e f = ap (λ (x : Protection). made p x us) e ∙ ap (made p b) f

first_page_is : (unit : Program) (options : Options) (F : Flat) (o : IsFirstFlat unit options F) (i : ℕ) (page : PageText) → IsValidFlat F → page.page < 2 ^ 26 → AreApart page_key unit.pages
    → slice_get unit.pages i ≡ Some page → virtual_page F page.page ≡ first_page unit.words page
first_page_is unit options F o i page ok small apart at =
    let word : word_of F (page_address page.page) ≡ swapped_of i page.prot = declared_word unit options F o i page small apart at in
    let gone : is_valid (swapped_of i page.prot) ≡ false = is_valid-swapped i page.prot in
    page_path page.page (protection_of (word_of F (page_address page.page))) page.prot (words_under F page.page (word_of F (page_address page.page))) (first_words unit.words page.page)
    (ap protection_of word ∙ protection_of-swapped i page.prot)
    (ap (words_under F page.page) word
    ∙ ap (λ (b : Bool). if b then page_at F.words (number_of (swapped_of i page.prot)) else page_at F.swap (swap_slot_of F (page_address page.page))) gone
    ∙ ap (page_at F.swap) (declared_slot unit options F o i page ok at)
    ∙ declared_words unit options F o i page at)

pub opening_is_plain : (unit : Program) (options : Options) → IsUnit unit → load_fault_of unit options ≡ None → virtual (opening_flat unit options) ≡ plain_memory_of unit
opening_is_plain unit options u none =
    let F : Flat = opening_flat unit options in
    let o : IsFirstFlat unit options F = first_flat_reads unit options u.pages in
    let apart : AreApart page_key unit.pages = pages_apart unit.pages (no_fault unit options none).again in
    maps_agree unit.pages (virtual_page F) (first_page unit.words)
    (λ i page at. first_page_is unit options F o i page (flat_valid unit options u none) (all_get IsPage unit.pages i page u.pages at) apart at)
