-- The flat state of an opening is valid, and no page of it has a valid entry.
use Rattle.std.specs.Prelude.{slice_index, slice_get}
use Rattle.std.specs.List.{All}
use Rattle.std.proofs.Common.{◌≡◌, ℕ, ◌+◌, ◌*◌, ◌/◌, ◌%◌, ◌^◌, ◌<◌, ◌≤◌, ◌||◌, not, Bool, true, false, List, Option, Some, None, IsTrue, length, refl, sym, ap, ◌∙◌, subst, arith, if◌then◌else◌}
use Rattle.std.proofs.Math.ListN.{get_or}
use Rattle.std.proofs.lemmas.List.{length-map, get_or-map}
use Rattle.std.proofs.lemmas.Option.{slice_get-get_or, slice_get_within, get_or_from_slice_get}
use Rattle.spur_addr.specs.PageEntry.{is_leaving, is_on_swap, is_readable, is_valid, number_of, swapped_of}
use Rattle.spur_addr.specs.declared.page_entry.Protection.TheVariants.{ReadWrite}
use Rattle.spur_addr.proofs.EntryFacts.{is_valid-swapped, is_on_swap-swapped, is_leaving-swapped, number_of-swapped}
use Rattle.spur_object.specs.Limits.{IsPage, IsUnit}
use Rattle.spur_object.specs.declared.unit.Unit.{Unit as Program}
use Rattle.spur_object.specs.declared.unit.PageText.{PageText}
use Rattle.spur_flat.specs.declared.flat.Flat.{Flat}
use Rattle.spur_flat.specs.Table.{entry_at, table_words}
use Rattle.spur_flat.specs.Pager.{or_zero}
use Rattle.spur_flat.proofs.WalkFacts.{walk_of-entry}
use Rattle.spur_flat.specs.Validity.{ArePages, IsDeclared, IsTableFrame, StandsFor, HasEntry, IsValidFlat}
use Rattle.spur_loader.specs.declared.opening.Options.{Options}
use Rattle.spur_loader.specs.Opening.{page_numbers, root_word, root_word_in, root_entry_of, entry_word, opening_flat, IsNothingResident}
use Rattle.spur_loader.specs.Faults.{load_fault_of}
use Rattle.spur_loader.proofs.ListFacts.{AreApart, all_get, Placed, Absent, At, placed, contains_get, apart_ascending}
use Rattle.spur_loader.proofs.EntryWords.{is_valid-root, number_of-root, root_word_at, page_key, IsEntryWord, Undeclared, Declared, entry_cases, entry_word_at}
use Rattle.spur_addr.specs.Address.{page_address, user_pages}
use Rattle.spur_loader.specs.Readings.{IsFirstFlat}
use Rattle.spur_loader.proofs.OnceFacts.{pages_apart}
use Rattle.spur_loader.proofs.RootFacts.{root_needed}
use Rattle.spur_loader.proofs.SwapSlotFacts.{words_readable}
use Rattle.spur_loader.proofs.ReadingFacts.{first_flat_reads}
use Rattle.spur_loader.proofs.FaultFacts.{no_fault, few_frames}
use Rattle.spur_loader.proofs.SegmentFacts.{below_segment}

-- ---- root entries

-- a root entry that is valid is that of a page of the page table, which is in the frame of its position
pub record IsRootEntry (roots : List ℕ) (r entry : ℕ) : Type 0 where
  pub position : ℕ
  pub at : slice_get roots position ≡ Some r
  pub is : entry ≡ root_entry_of (64 + position)

root_entry_by : (roots : List ℕ) (r entry : ℕ) → entry ≡ root_word roots r → is_valid entry ≡ true → Placed 0 roots r → IsRootEntry roots r entry
root_entry_by roots r entry is valid (Absent none lacks) =
    let zero : entry ≡ 0 = is ∙ ap root_word_in none in
    let no_entry : false ≡ true = ap is_valid (sym zero) ∙ valid in
    cc
root_entry_by roots r entry is valid (At i place there) =
    let z : 0 + i ≡ i = omega arith in
    record { position = i; at = there; is = is ∙ ap root_word_in (place ∙ ap Some z) }

root_entry : (unit : Program) (options : Options) (F : Flat) (o : IsFirstFlat unit options F) (r : ℕ) → r < 65536 → is_valid (slice_index F.words r) ≡ true
    → IsRootEntry o.roots r (slice_index F.words r)
root_entry unit options F o r below valid = root_entry_by o.roots r (slice_index F.words r) (o.root r below) valid (placed 0 o.roots r)

-- ---- entries of pages

-- what stands in the page table, under a root entry
entry_under : (words : List ℕ) (p t : ℕ) → slice_index words (p / 2 ^ 10) ≡ root_entry_of (64 + t)
    → entry_at words p ≡ Some (slice_index words ((64 + t) * 1024 + p % 1024))
entry_under words p t root =
    ap (λ (e : ℕ). if is_valid e then Some (slice_index words (number_of e * 1024 + p % 1024)) else None) root
    ∙ ap (λ (b : Bool). if b then Some (slice_index words (number_of (root_entry_of (64 + t)) * 1024 + p % 1024)) else None) (is_valid-root (64 + t))
    ∙ ap (λ (n : ℕ). Some (slice_index words (n * 1024 + p % 1024))) (number_of-root (64 + t))

no_entry_under : (words : List ℕ) (p : ℕ) → slice_index words (p / 2 ^ 10) ≡ 0 → entry_at words p ≡ None
no_entry_under words p root = ap (λ (e : ℕ). if is_valid e then Some (slice_index words (number_of e * 1024 + p % 1024)) else None) root

entry_of : (unit : Program) (options : Options) (F : Flat) (o : IsFirstFlat unit options F) (p t : ℕ) → p < 2 ^ 26 → slice_get o.roots t ≡ Some (p / 1024)
    → entry_at F.words p ≡ Some (entry_word unit.pages p)
entry_of unit options F o p t small at =
    let below : p / 1024 < 65536 = omega arith in
    let rest : p % 1024 < 1024 = omega arith in
    let whole : p / 1024 * 1024 + p % 1024 ≡ p = omega arith in
    entry_under F.words p t (o.root (p / 1024) below ∙ root_word_at o.roots t (p / 1024) (apart_ascending o.roots o.are_roots.ascending) at)
    ∙ ap Some (o.entry t (p / 1024) (p % 1024) at rest ∙ ap (entry_word unit.pages) whole)

entry_is_by : (unit : Program) (options : Options) (F : Flat) (o : IsFirstFlat unit options F) (p e : ℕ) → p < 2 ^ 26 → entry_at F.words p ≡ Some e → Placed 0 o.roots (p / 1024)
    → e ≡ entry_word unit.pages p
entry_is_by unit options F o p e small there (Absent none lacks) =
    let below : p / 1024 < 65536 = omega arith in
    let nothing : None ≡ Some e = sym (no_entry_under F.words p (o.root (p / 1024) below ∙ ap root_word_in none)) ∙ there in
    cc
entry_is_by unit options F o p e small there (At t place at) =
    let same : Some e ≡ Some (entry_word unit.pages p) = sym there ∙ entry_of unit options F o p t small at in
    cc

-- the entry of a declared page
pub record IsPageEntry (pages : List PageText) (p e : ℕ) : Type 0 where
  pub slot : ℕ
  pub page : PageText
  pub at : slice_get pages slot ≡ Some page
  pub number : page.page ≡ p
  pub is : e ≡ swapped_of slot page.prot

-- an entry is zero, or that of a declared page
data IsZeroOrPage (pages : List PageText) (p e : ℕ) : Type 0 where
  IsNil : e ≡ 0 → IsZeroOrPage pages p e
  IsOfPage : IsPageEntry pages p e → IsZeroOrPage pages p e

zero_or_page_by : (pages : List PageText) (p e : ℕ) → e ≡ entry_word pages p → IsEntryWord pages p → IsZeroOrPage pages p e
zero_or_page_by pages p e is (Undeclared none nil lacks) = IsNil (is ∙ nil)
zero_or_page_by pages p e is (Declared k page slot at number value) = IsOfPage record { slot = k; page = page; at = at; number = number; is = is ∙ value }

zero_or_page : (unit : Program) (options : Options) (F : Flat) (o : IsFirstFlat unit options F) (p e : ℕ) → p < 2 ^ 26 → entry_at F.words p ≡ Some e → IsZeroOrPage unit.pages p e
zero_or_page unit options F o p e small there =
    zero_or_page_by unit.pages p e (entry_is_by unit options F o p e small there (placed 0 o.roots (p / 1024))) (entry_cases unit.pages p)

page_entry_by : (pages : List PageText) (p e : ℕ) → (is_valid e || is_on_swap e) ≡ true → IsZeroOrPage pages p e → IsPageEntry pages p e
page_entry_by pages p e some (IsNil nil) =
    let nothing : false ≡ true = ap (λ (w : ℕ). is_valid w || is_on_swap w) (sym nil) ∙ some in
    cc
page_entry_by pages p e some (IsOfPage entry) = entry

page_entry : (unit : Program) (options : Options) (F : Flat) (o : IsFirstFlat unit options F) (p e : ℕ) → p < 2 ^ 26 → entry_at F.words p ≡ Some e → (is_valid e || is_on_swap e) ≡ true
    → IsPageEntry unit.pages p e
page_entry unit options F o p e small there some = page_entry_by unit.pages p e some (zero_or_page unit options F o p e small there)

-- no entry is valid
not_valid_by : (pages : List PageText) (p e : ℕ) → IsZeroOrPage pages p e → is_valid e ≡ false
not_valid_by pages p e (IsNil nil) = ap is_valid nil
not_valid_by pages p e (IsOfPage h) = ap is_valid h.is ∙ is_valid-swapped h.slot h.page.prot

not_valid : (unit : Program) (options : Options) (F : Flat) → IsFirstFlat unit options F → (p e : ℕ) → p < 2 ^ 26 → entry_at F.words p ≡ Some e → is_valid e ≡ false
not_valid unit options F o p e small there = not_valid_by unit.pages p e (zero_or_page unit options F o p e small there)

-- ---- the parts of validity

-- some page, where a default is wanted
no_page : PageText
no_page = record { page = 0; prot = ReadWrite }

-- what is known of a unit that has no fault
record IsGood (unit : Program) : Type 0 where
  small : All IsPage unit.pages
  apart : AreApart page_key unit.pages
  below : (i : ℕ) (page : PageText) → slice_get unit.pages i ≡ Some page → page.page < 255 * 2 ^ 18

declared_pages : (unit : Program) → IsGood unit → ArePages (page_numbers unit.pages)
declared_pages unit h =
    let pages : List PageText = unit.pages in
    record {
      small = λ i within.
          let l : i < length pages = omega (arith, length-map pages page_key) in
          subst (λ (n : ℕ). n < 255 * 2 ^ 18) (sym (get_or-map page_key pages i no_page 0 l)) (h.below i (get_or pages i no_page) (slice_get-get_or pages i no_page l));
      differ = λ i j within-i within-j same.
          let li : i < length pages = omega (arith, length-map pages page_key) in
          let lj : j < length pages = omega (arith, length-map pages page_key) in
          h.apart.apart i j (get_or pages i no_page) (get_or pages j no_page) (slice_get-get_or pages i no_page li) (slice_get-get_or pages j no_page lj)
          (sym (get_or-map page_key pages i no_page 0 li) ∙ same ∙ get_or-map page_key pages j no_page 0 lj);
    }

readable : (unit : Program) (options : Options) (F : Flat) (o : IsFirstFlat unit options F) (k : ℕ) → k < table_words F.tables → IsTrue (is_readable (slice_index F.words k))
readable unit options F o k below = let n = o.tables in words_readable o.roots unit.pages F.words o.root o.entry k (omega arith)

table_frame : (unit : Program) (options : Options) (F : Flat) (o : IsFirstFlat unit options F) (r : ℕ) → r < 2 ^ 16 → is_valid (slice_index F.words r) ≡ true
    → IsTableFrame F.tables (number_of (slice_index F.words r))
table_frame unit options F o r below valid =
    let e = root_entry unit options F o r below valid in
    let n : number_of (slice_index F.words r) ≡ 64 + e.position = ap number_of e.is ∙ number_of-root (64 + e.position) in
    let l : e.position < length o.roots = slice_get_within o.roots e.position r e.at in
    let t = o.tables in
    record { low = omega arith; high = omega arith }

tables_apart : (unit : Program) (options : Options) (F : Flat) (o : IsFirstFlat unit options F) (r s : ℕ) → r < 2 ^ 16 → s < 2 ^ 16 → is_valid (slice_index F.words r) ≡ true
    → is_valid (slice_index F.words s) ≡ true → number_of (slice_index F.words r) ≡ number_of (slice_index F.words s) → r ≡ s
tables_apart unit options F o r s below-r below-s valid-r valid-s same =
    let d = root_entry unit options F o r below-r valid-r in
    let e = root_entry unit options F o s below-s valid-s in
    let m : number_of (slice_index F.words r) ≡ 64 + d.position = ap number_of d.is ∙ number_of-root (64 + d.position) in
    let n : number_of (slice_index F.words s) ≡ 64 + e.position = ap number_of e.is ∙ number_of-root (64 + e.position) in
    let position : d.position ≡ e.position = omega arith in
    let one : Some r ≡ Some s = sym d.at ∙ ap (slice_get o.roots) position ∙ e.at in
    cc

never : (unit : Program) (options : Options) (F : Flat) (o : IsFirstFlat unit options F) (p e : ℕ) → p < 2 ^ 26 → entry_at F.words p ≡ Some e → is_valid e ≡ true → ⊥
never unit options F o p e small there valid = let f : false ≡ true = sym (not_valid unit options F o p e small there) ∙ valid in cc

declared : (unit : Program) (options : Options) (F : Flat) (o : IsFirstFlat unit options F) (p e : ℕ) → p < 2 ^ 26 → entry_at F.words p ≡ Some e → (is_valid e || is_on_swap e) ≡ true → IsDeclared F.pages p
declared unit options F o p e small there some =
    let h = page_entry unit options F o p e small there some in
    let l : h.slot < length unit.pages = slice_get_within unit.pages h.slot h.page h.at in
    record {
      position = h.slot;
      within = (let n : length F.pages ≡ length unit.pages = ap length o.pages ∙ length-map unit.pages page_key in omega arith);
      is = ap (λ (ns : List ℕ). get_or ns h.slot 0) o.pages ∙ get_or-map page_key unit.pages h.slot h.page 0 l
          ∙ ap page_key (get_or_from_slice_get unit.pages h.slot h.page h.page h.at) ∙ h.number;
    }

stands : (i e : ℕ) (page : PageText) → e ≡ swapped_of i page.prot → StandsFor i e
stands i e page is =
    let valid : is_valid e ≡ false = ap is_valid is ∙ is_valid-swapped i page.prot in
    let swap : is_on_swap e ≡ true = ap is_on_swap is ∙ is_on_swap-swapped i page.prot in
    let leaving : is_leaving e ≡ false = ap is_leaving is ∙ is_leaving-swapped i page.prot in
    record {
      one = valid ∙ sym (ap not swap);
      slot = λ on. ap number_of is ∙ number_of-swapped i page.prot;
      leaving = λ on. cc;
    }

has_entry : (unit : Program) (options : Options) (F : Flat) (o : IsFirstFlat unit options F) (i : ℕ) (page : PageText) → IsGood unit → slice_get unit.pages i ≡ Some page
    → HasEntry F.words i page.page
has_entry unit options F o i page h at =
    let below : page.page < 255 * 2 ^ 18 = h.below i page at in
    let small : page.page < 2 ^ 26 = omega arith in
    let root = contains_get o.roots (page.page / 1024) (root_needed unit.pages o.roots i page o.are_roots at) in
    record {
      entry = swapped_of i page.prot;
      there = entry_of unit options F o page.page root.position small (root.at ∙ ap Some root.holds)
          ∙ ap Some (entry_word_at unit.pages i page h.apart at);
      stands = stands i (swapped_of i page.prot) page refl;
    }

each : (unit : Program) (options : Options) (F : Flat) (o : IsFirstFlat unit options F) → IsGood unit → (i : ℕ) → i < length F.pages → HasEntry F.words i (slice_index F.pages i)
each unit options F o h i within =
    let n : length F.pages ≡ length unit.pages = ap length o.pages ∙ length-map unit.pages page_key in
    let l : i < length unit.pages = omega arith in
    let page : PageText = get_or unit.pages i no_page in
    let number : slice_index F.pages i ≡ page.page = ap (λ (ns : List ℕ). get_or ns i 0) o.pages ∙ get_or-map page_key unit.pages i no_page 0 l in
    subst (λ (p : ℕ). HasEntry F.words i p) (sym number) (has_entry unit options F o i page h (slice_get-get_or unit.pages i no_page l))

-- ---- the whole

opening_valid : (unit : Program) (options : Options) (F : Flat) → IsGood unit → length unit.pages ≤ 2048 → (o : IsFirstFlat unit options F) → 64 + F.tables + F.frames ≤ 4096 → IsValidFlat F
opening_valid unit options F h many o few =
    let n : length F.pages ≡ length unit.pages = ap length o.pages ∙ length-map unit.pages page_key in
    record {
      words = o.size;
      swap = o.swap_size ∙ ap (λ (m : ℕ). 1024 * m) (sym n);
      few_frames = few;
      few_pages = omega arith;
      pages = subst ArePages (sym o.pages) (declared_pages unit h);
      tables = record {
        readable = readable unit options F o;
        root = table_frame unit options F o;
        root_apart = tables_apart unit options F o;
        declared = declared unit options F o;
        frame = λ p e small there valid. absurd (never unit options F o p e small there valid);
        frame_apart = λ p q d e small-p small-q there-p there-q valid-p valid-q same. absurd (never unit options F o p d small-p there-p valid-p);
        each = each unit options F o h;
      };
    }

-- the opening of a unit for which there is no fault is valid
pub flat_valid : (unit : Program) (options : Options) → IsUnit unit → load_fault_of unit options ≡ None → IsValidFlat (opening_flat unit options)
flat_valid unit options u none =
    let h = no_fault unit options none in
    let low = below_segment unit u h.segment in
    let good : IsGood unit = record { small = u.pages; apart = pages_apart unit.pages h.again; below = λ i page at. all_get (λ (p : PageText). p.page < user_pages) unit.pages i page low.pages at } in
    opening_valid unit options (opening_flat unit options) good u.few_pages (first_flat_reads unit options u.pages) (few_frames unit.pages options h.room)

word_by : (F : Flat) (at : ℕ) (o : Option ℕ) → entry_at F.words (at / 2 ^ 12) ≡ o → ((e : ℕ) → entry_at F.words (at / 2 ^ 12) ≡ Some e → is_valid e ≡ false)
    → is_valid (or_zero o) ≡ false
word_by F at None there none = refl
word_by F at (Some e) there none = none e there

-- and no page of it is resident
pub flat_absent : (unit : Program) (options : Options) → IsUnit unit → IsNothingResident (opening_flat unit options)
flat_absent unit options u page below =
    let F : Flat = opening_flat unit options in
    let at : ℕ = page_address page in
    let small : at / 2 ^ 12 < 2 ^ 26 = omega arith in
    ap (λ (o : Option ℕ). is_valid (or_zero o)) (walk_of-entry F at)
    ∙ word_by F at (entry_at F.words (at / 2 ^ 12)) refl (λ e there. not_valid unit options F (first_flat_reads unit options u.pages) (at / 2 ^ 12) e small there)
