-- What the pager's entries leave of a flat state.
use Rattle.std.proofs.Common.{◌≡◌, ◌≢◌, ℕ, suc, ◌+◌, ◌*◌, ◌/◌, ◌%◌, ◌^◌, ◌<◌, ◌≤◌, ◌⊎◌, inl, inr, ⊎_elim, ◌==◌, ◌&&◌, ◌||◌, not, Bool, true, false, if◌then◌else◌, Some, None, refl, sym, ap, ◌∙◌, subst, arith, List, [], ◌∷◌, ◌++◌, length, take, drop, length-drop, slice_index, slice_set, IsTrue}
use Rattle.std.specs.List.{list_any}
use Rattle.std.proofs.lemmas.Bool.{and_parts, cases_eq, eq-eqb, leb-true, ltb-true, ne_eqb}
use Rattle.std.proofs.lemmas.List.{get_or_append_left, get_or-take, length-append, length-set, length-take-le}
use Rattle.std.proofs.lemmas.List.Edits.{length-paste}
use Rattle.std.proofs.lemmas.List.Folds.{list_any_at}
use Rattle.std.proofs.lemmas.Nat.{shr-shr}
use Rattle.spur_addr.specs.Address.{page_of}
use Rattle.spur_addr.specs.PageEntry.{is_valid, is_dirty, is_on_swap, is_readable, number_of, protection_of, resident_of, swapped_of, with_bit}
use Rattle.spur_addr.specs.declared.page_entry.Protection.{Protection}
use Rattle.spur_addr.proofs.BitFacts.{flag-with_other, number_of-with, readable-with}
use Rattle.spur_addr.proofs.EntryFacts.{is_leaving-swapped, is_on_swap-resident, is_on_swap-swapped, is_valid-resident, is_valid-swapped, number_of-resident, number_of-swapped, resident_readable, swapped_readable}
use Rattle.spur_flat.specs.declared.flat.Flat.{Flat}
use Rattle.spur_flat.specs.Table.{entry_at, table_words}
use Rattle.spur_flat.specs.Validity.{AreTables, IsDataFrame, IsDeclared, IsValidFlat, StandsFor}
use Rattle.spur_flat.specs.Pager.{come_in, entry_place, gone_out, has_frame, is_declared, is_free_frame, page_loaded, or_zero, position_in, swap_slot_of, with_entry, with_entry_bit, word_of}
use Rattle.spur_addr.specs.Pages.{page_at, with_page}
use Rattle.spur_flat.proofs.TableFacts.{MayStand, place_at, place_bounds, some_same, tables-set}
use Rattle.spur_flat.proofs.WalkFacts.{entry_at-same, tables-same, walk_of-entry}

-- ---- a declared page, and its entry

-- the position of a page that is in a list
pub record IsAtPosition (pages : List ℕ) (p : ℕ) : Type 0 where
  pub within : position_in pages p < length pages
  pub is : slice_index pages (position_in pages p) ≡ p

-- a page that is found in a list stands at its position
pub is_at_position : (pages : List ℕ) (p : ℕ) → list_any (λ page. page == p) pages ≡ true → IsAtPosition pages p
is_at_position [] p h = cc
is_at_position (x ∷ xs) p h =
    ⊎_elim
    (λ (e : x ≡ p).
    let first : position_in (x ∷ xs) p ≡ 0 = ap (λ (b : Bool). if b then 0 else 1 + position_in xs p) (eq-eqb x p e) in
    record { within = omega arith; is = ap (slice_index (x ∷ xs)) first ∙ e })
    (λ (apart : x ≢ p).
    let rest : list_any (λ page. page == p) xs ≡ true = sym (ap (λ (b : Bool). b || list_any (λ page. page == p) xs) (ne_eqb x p apart)) ∙ h in
    let step : 1 + position_in xs p ≡ suc (position_in xs p) = omega arith in
    let later : position_in (x ∷ xs) p ≡ suc (position_in xs p) = ap (λ (b : Bool). if b then 0 else 1 + position_in xs p) (ne_eqb x p apart) ∙ step in
    let had = is_at_position xs p rest in
    let within = had.within in
    record { within = omega arith; is = ap (slice_index (x ∷ xs)) later ∙ had.is })
    (cases_eq x p)

-- what a walk tells of the entry that it finds
chosen : (b : Bool) (x e : ℕ) → (if b then Some x else None) ≡ Some e → (b ≡ true) × (x ≡ e)
chosen true x e h = (refl, some_same x e h)
chosen false x e h = cc

-- what stands for the page of g
pub record Stands (F : Flat) (g : ℕ) : Type 0 where
  pub within : swap_slot_of F g < length F.pages
  pub is : slice_index F.pages (swap_slot_of F g) ≡ page_of g
  pub there : entry_at F.words (page_of g) ≡ Some (word_of F g)
  pub root : is_valid (slice_index F.words (page_of g / 2 ^ 10)) ≡ true
  pub stands : StandsFor (swap_slot_of F g) (word_of F g)
  pub readable : IsTrue (is_readable (word_of F g))

-- a declared page has an entry, which stands for it and is readable
pub declared_stands : (F : Flat) (g : ℕ) → IsValidFlat F → g < 2 ^ 38 → is_declared F g ≡ true → Stands F g
declared_stands F g ok small declared =
    let p : ℕ = page_of g in
    let small_p : p < 2 ^ 26 = omega arith in
    let at = is_at_position F.pages p declared in
    let had = ok.tables.each (position_in F.pages p) at.within in
    let found : entry_at F.words p ≡ Some had.entry = sym (ap (entry_at F.words) at.is) ∙ had.there in
    let word : word_of F g ≡ had.entry = ap or_zero (walk_of-entry F g ∙ found) in
    let there : entry_at F.words p ≡ Some (word_of F g) = found ∙ ap (λ (w : ℕ). Some w) (sym word) in
    let both = chosen (is_valid (slice_index F.words (p / 2 ^ 10))) (slice_index F.words (place_at F.words p)) (word_of F g) there in
    let bounds = place_bounds ok.tables p small_p both.0 in
    record {
      within = at.within;
      is = at.is;
      there = there;
      root = both.0;
      stands = subst (λ (w : ℕ). StandsFor (swap_slot_of F g) w) (sym word) had.stands;
      readable = subst (λ (w : ℕ). IsTrue (is_readable w)) both.1 (ok.tables.readable (place_at F.words p) bounds.1);
    }

-- the place of a page's entry, by its address and by its page
pub place_is : (F : Flat) (g : ℕ) → place_at F.words (page_of g) ≡ entry_place F g
place_is F g = ap (λ (r : ℕ). number_of (slice_index F.words r) * 1024 + g / 2 ^ 12 % 1024) (shr-shr g 12 10)

-- it is within the tables, and so within memory
pub entry_within : (F : Flat) (g : ℕ) → IsValidFlat F → g < 2 ^ 38 → is_declared F g ≡ true → entry_place F g < length F.words
entry_within F g ok small declared =
    let has = declared_stands F g ok small declared in
    let below = (place_bounds ok.tables (page_of g) (omega arith) has.root).1 in
    let words : length F.words ≡ 1024 * (64 + F.tables + F.frames) = ok.words in
    let is : place_at F.words (page_of g) ≡ entry_place F g = place_is F g in
    omega arith

-- the frame of a valid entry is a data frame
pub frame_of : (F : Flat) (g : ℕ) → IsValidFlat F → g < 2 ^ 38 → is_declared F g ≡ true → is_valid (word_of F g) ≡ true → IsDataFrame F.tables F.frames (number_of (word_of F g))
frame_of F g ok small declared valid =
    let has = declared_stands F g ok small declared in
    ok.tables.frame (page_of g) (word_of F g) (omega arith) has.there valid

-- the two truth values differ
differ : false ≡ true → ⊥
differ h = cc

-- ---- another entry

-- a declared page may have any entry that may stand
pub valid-with_entry : (F : Flat) (g e : ℕ) → IsValidFlat F → g < 2 ^ 38 → is_declared F g ≡ true → MayStand F.words F.tables F.frames (swap_slot_of F g) (page_of g) e
    → IsValidFlat (with_entry F g e)
valid-with_entry F g e ok small declared may =
    let has = declared_stands F g ok small declared in
    let words : length F.words ≡ 1024 * (64 + F.tables + F.frames) = ok.words in
    let tables : AreTables (slice_set F.words (place_at F.words (page_of g)) e) F.pages F.tables F.frames =
    tables-set F.words F.pages F.tables F.frames (swap_slot_of F g) (page_of g) e ok.tables ok.pages has.within has.is (omega arith) (omega arith) has.root may in
    record {
      words = length-set F.words (entry_place F g) e ∙ ok.words;
      swap = ok.swap;
      few_frames = ok.few_frames;
      few_pages = ok.few_pages;
      pages = ok.pages;
      tables = subst (λ (k : ℕ). AreTables (slice_set F.words k e) F.pages F.tables F.frames) (place_is F g) tables;
    }

-- a bit of an entry that is neither valid nor on swap, nor one of the protection's or of the reserved
pub record IsFlag (k : ℕ) : Type 0 where
  pub not_valid : 0 ≢ k
  pub not_on_swap : 5 ≢ k
  pub free : (k < 3) ⊎ ((5 ≤ k) × (k < 7))
  pub below : k < 12

-- a valid entry stands with such a bit set or cleared
pub valid-with_entry_bit : (F : Flat) (g k : ℕ) (to : Bool) → IsValidFlat F → g < 2 ^ 38 → is_declared F g ≡ true → is_valid (word_of F g) ≡ true → IsFlag k
    → IsValidFlat (with_entry_bit F g k to)
valid-with_entry_bit F g k to ok small declared valid flag =
    let has = declared_stands F g ok small declared in
    let e : ℕ = word_of F g in
    let v : is_valid (with_bit e k to) ≡ is_valid e = flag-with_other e k 0 to flag.not_valid in
    let s : is_on_swap (with_bit e k to) ≡ is_on_swap e = flag-with_other e k 5 to flag.not_on_swap in
    let n : number_of (with_bit e k to) ≡ number_of e = number_of-with e k to flag.below in
    valid-with_entry F g (with_bit e k to) ok small declared (record {
      readable = subst (λ (b : Bool). IsTrue b) (sym (readable-with e k to flag.free)) has.readable;
      stands = record {
        one = v ∙ has.stands.one ∙ ap not (sym s);
        slot = λ h. n ∙ has.stands.slot (sym s ∙ h);
        leaving = λ h. v ∙ valid;
      };
      frame = λ h. subst (λ (m : ℕ). IsDataFrame F.tables F.frames m) (sym n) (frame_of F g ok small declared valid);
      free = λ q f small_q apart at_q v_f v_e same. apart (ok.tables.frame_apart q (page_of g) f e small_q (omega arith) at_q has.there v_f valid (same ∙ n));
    })

-- the same, of the entry that a call has made
pub bit_is_set : (F new : Flat) (g k e m : ℕ) (to : Bool) → IsValidFlat F → g < 2 ^ 38 → is_declared F g ≡ true → is_valid (word_of F g) ≡ true → IsFlag k
    → new ≡ with_entry F g m → m ≡ with_bit e k to → e ≡ word_of F g → IsValidFlat new
bit_is_set F new g k e m to ok small declared valid flag set made had =
    subst IsValidFlat (sym (set ∙ ap (with_entry F g) (made ∙ ap (λ (w : ℕ). with_bit w k to) had)))
    (valid-with_entry_bit F g k to ok small declared valid flag)

-- leaving, referenced and dirty are such bits
pub leaving_flag : IsFlag 6
leaving_flag = record { not_valid = λ h. cc; not_on_swap = λ h. cc; free = inr (omega arith, omega arith); below = omega arith }

pub referenced_flag : IsFlag 1
referenced_flag = record { not_valid = λ h. cc; not_on_swap = λ h. cc; free = inl (omega arith); below = omega arith }

pub dirty_flag : IsFlag 2
dirty_flag = record { not_valid = λ h. cc; not_on_swap = λ h. cc; free = inl (omega arith); below = omega arith }

-- ---- a page goes out

-- other swap words, as many of them
pub valid-with_swap : (F : Flat) (swap : List ℕ) → IsValidFlat F → length swap ≡ length F.swap → IsValidFlat (record F { swap = swap })
valid-with_swap F swap ok long = record {
  words = ok.words;
  swap = long ∙ ok.swap;
  few_frames = ok.few_frames;
  few_pages = ok.few_pages;
  pages = ok.pages;
  tables = ok.tables;
}

-- one of two flat states
pub either : (P : Flat → Type 0) (b : Bool) (F G : Flat) → P F → P G → P (if b then F else G)
either P true F G first second = first
either P false F G first second = second

-- a page that is copied into a list has 1024 words
pub page_long : (words : List ℕ) (n : ℕ) → n * 1024 + 1024 ≤ length words → length (page_at words n) ≡ 1024
page_long words n within = length-take-le 1024 (drop (n * 1024) words) (simp length-drop (omega arith))

-- such a copy keeps the list's length
pub length-with_page : (words part : List ℕ) (n : ℕ) → n * 1024 + 1024 ≤ length words → length part ≡ 1024 → length (with_page words n part) ≡ length words
length-with_page words part n within long = length-paste words (n * 1024) part 1024 within (omega arith)

-- the slot of a declared page is within swap
pub slot_inside : (F : Flat) (g : ℕ) → IsValidFlat F → g < 2 ^ 38 → is_declared F g ≡ true → swap_slot_of F g * 1024 + 1024 ≤ length F.swap
slot_inside F g ok small declared =
    let below = (declared_stands F g ok small declared).within in
    let swap : length F.swap ≡ 1024 * length F.pages = ok.swap in
    omega arith

-- a data frame is within memory
pub frame_inside : (F : Flat) (n : ℕ) → IsValidFlat F → IsDataFrame F.tables F.frames n → n * 1024 + 1024 ≤ length F.words
frame_inside F n ok among =
    let high = among.high in
    let words : length F.words ≡ 1024 * (64 + F.tables + F.frames) = ok.words in
    omega arith

-- the same, of the numbers that a call is handed
pub slot_within : (F : Flat) (g slot : ℕ) → IsValidFlat F → g < 2 ^ 38 → is_declared F g ≡ true → slot ≡ swap_slot_of F g → slot * 1024 + 1024 ≤ length F.swap
slot_within F g slot ok small declared is =
    let inside : swap_slot_of F g * 1024 + 1024 ≤ length F.swap = slot_inside F g ok small declared in
    omega arith

pub frame_within : (F : Flat) (g e n : ℕ) → IsValidFlat F → g < 2 ^ 38 → is_declared F g ≡ true → e ≡ word_of F g → is_valid e ≡ true → n ≡ number_of e → n * 1024 + 1024 ≤ length F.words
frame_within F g e n ok small declared had valid is =
    let resident : is_valid (word_of F g) ≡ true = ap is_valid (sym had) ∙ valid in
    let inside : number_of (word_of F g) * 1024 + 1024 ≤ length F.words = frame_inside F (number_of (word_of F g)) ok (frame_of F g ok small declared resident) in
    let number : n ≡ number_of (word_of F g) = is ∙ ap number_of had in
    omega arith

-- the words of the page's frame in its slot
abbrev pub written : Flat → ℕ → ℕ → Flat
written F g e = record F { swap = with_page F.swap (swap_slot_of F g) (page_at F.words (number_of e)) }

-- a flat state with the page saved is valid
pub valid-written : (F : Flat) (g : ℕ) → IsValidFlat F → g < 2 ^ 38 → is_declared F g ≡ true → is_valid (word_of F g) ≡ true → IsValidFlat (written F g (word_of F g))
valid-written F g ok small declared valid =
    let n : ℕ = number_of (word_of F g) in
    let here : n * 1024 + 1024 ≤ length F.words = frame_inside F n ok (frame_of F g ok small declared valid) in
    valid-with_swap F _ ok (length-with_page F.swap (page_at F.words n) (swap_slot_of F g) (slot_inside F g ok small declared) (page_long F.words n here))

-- an entry on swap may stand, where it is in the page's slot
may_be_swapped : (words : List ℕ) (tables frames i p : ℕ) (protection : Protection) → MayStand words tables frames i p (swapped_of i protection)
may_be_swapped words tables frames i p protection =
    let not_valid : is_valid (swapped_of i protection) ≡ false = is_valid-swapped i protection in
    let on_swap : is_on_swap (swapped_of i protection) ≡ true = is_on_swap-swapped i protection in
    record {
      readable = swapped_readable i protection;
      stands = record {
        one = not_valid ∙ ap not (sym on_swap);
        slot = λ h. number_of-swapped i protection;
        leaving = λ h. absurd (differ (sym (is_leaving-swapped i protection) ∙ h));
      };
      frame = λ h. absurd (differ (sym not_valid ∙ h));
      free = λ q f small_q apart at_q v_f v_e same. differ (sym not_valid ∙ v_e);
    }

-- a declared page may go to its slot, whatever entry it has
valid_swapped : (F : Flat) (g : ℕ) (protection : Protection) → IsValidFlat F → g < 2 ^ 38 → is_declared F g ≡ true → IsValidFlat (with_entry F g (swapped_of (swap_slot_of F g) protection))
valid_swapped F g protection ok small declared =
    valid-with_entry F g (swapped_of (swap_slot_of F g) protection) ok small declared (may_be_swapped F.words F.tables F.frames (swap_slot_of F g) (page_of g) protection)

-- so is one that the page has gone out of
pub valid-gone_out : (F : Flat) (g : ℕ) → IsValidFlat F → g < 2 ^ 38 → is_declared F g ≡ true → is_valid (word_of F g) ≡ true → IsValidFlat (gone_out F g (word_of F g))
valid-gone_out F g ok small declared valid =
    let protection : Protection = protection_of (word_of F g) in
    either (λ (G : Flat). IsValidFlat (with_entry G g (swapped_of (swap_slot_of F g) protection))) (is_dirty (word_of F g)) (written F g (word_of F g)) F
    (valid_swapped (written F g (word_of F g)) g protection (valid-written F g ok small declared valid) small declared)
    (valid_swapped F g protection ok small declared)

-- ---- a page comes in

-- what a free frame is
pub record IsFree (F : Flat) (frame : ℕ) : Type 0 where
  pub among : IsDataFrame F.tables F.frames frame
  pub none : list_any (has_frame F frame) F.pages ≡ false

-- a test whose negation passes
not_true : (b : Bool) → not b ≡ true → b ≡ false
not_true true h = cc
not_true false h = refl

-- a frame that the test finds free is free
pub free_frame : (F : Flat) (frame : ℕ) → is_free_frame F frame ≡ true → IsFree F frame
free_frame F frame free =
    let outer = and_parts _ _ free in
    let inner = and_parts _ _ outer.0 in
    record {
      among = record {
        low = leb-true _ _ inner.0;
        high = ltb-true _ _ inner.1;
      };
      none = not_true _ outer.1;
    }

-- words before a part are left where the part is put in
before_part : (words part : List ℕ) (n k : ℕ) → k < n * 1024 → n * 1024 + 1024 ≤ length words → slice_index (with_page words n part) k ≡ slice_index words k
before_part words part n k before within =
    let first : List ℕ = take (n * 1024) words in
    let long : length first ≡ n * 1024 = length-take-le (n * 1024) words (omega arith) in
    let both : length (first ++ take 1024 part) ≡ length first + length (take 1024 part) = length-append first (take 1024 part) in
    get_or_append_left (first ++ take 1024 part) (drop (n * 1024 + 1024) words) 0 k (omega arith)
    ∙ get_or_append_left first (take 1024 part) 0 k (omega arith)
    ∙ get_or-take (n * 1024) words k 0 before

-- a data frame's words stand past the tables
pub loaded_same : (F : Flat) (g frame : ℕ) → IsValidFlat F → IsDataFrame F.tables F.frames frame → (k : ℕ) → k < table_words F.tables → slice_index (page_loaded F g frame).words k ≡ slice_index F.words k
loaded_same F g frame ok among k below =
    let low = among.low in
    before_part F.words (page_at F.swap (swap_slot_of F g)) frame k (omega arith) (frame_inside F frame ok among)

-- so a free frame may be loaded
pub valid-loaded : (F : Flat) (g frame : ℕ) → IsValidFlat F → g < 2 ^ 38 → is_declared F g ≡ true → is_free_frame F frame ≡ true → IsValidFlat (page_loaded F g frame)
valid-loaded F g frame ok small declared free =
    let among = (free_frame F frame free).among in
    record {
      words = length-with_page F.words (page_at F.swap (swap_slot_of F g)) frame (frame_inside F frame ok among) (page_long F.swap (swap_slot_of F g) (slot_inside F g ok small declared)) ∙ ok.words;
      swap = ok.swap;
      few_frames = ok.few_frames;
      few_pages = ok.few_pages;
      pages = ok.pages;
      tables = tables-same F.words (page_loaded F g frame).words F.pages F.tables F.frames ok.tables ok.pages.small (loaded_same F g frame ok among);
    }

-- a valid entry of a free frame there is none
pub none_has : (F : Flat) (frame q e : ℕ) → IsValidFlat F → IsFree F frame → q < 2 ^ 26 → entry_at F.words q ≡ Some e → is_valid e ≡ true → number_of e ≢ frame
none_has F frame q e ok free small there valid same =
    let declared : IsDeclared F.pages q = ok.tables.declared q e small there (ap (λ (b : Bool). b || is_on_swap e) valid) in
    let page : q * 2 ^ 12 / 2 ^ 12 ≡ q = omega arith in
    let word : word_of F (q * 2 ^ 12) ≡ e = ap or_zero (walk_of-entry F (q * 2 ^ 12) ∙ ap (entry_at F.words) page ∙ there) in
    let has : has_frame F frame q ≡ true =
    ap (λ (w : ℕ). is_valid w && (number_of w == frame)) word ∙ ap (λ (b : Bool). b && (number_of e == frame)) valid ∙ eq-eqb (number_of e) frame same in
    let some : list_any (has_frame F frame) F.pages ≡ true =
    list_any_at (has_frame F frame) F.pages declared.position 0 declared.within (ap (has_frame F frame) declared.is ∙ has) in
    differ (sym free.none ∙ some)

-- and the page may come into it
pub valid-come_in : (F : Flat) (g frame : ℕ) → IsValidFlat F → g < 2 ^ 38 → is_declared F g ≡ true → is_free_frame F frame ≡ true → IsValidFlat (come_in F g (word_of F g) frame)
valid-come_in F g frame ok small declared free =
    let protection : Protection = protection_of (word_of F g) in
    let e : ℕ = resident_of frame protection in
    let is_free = free_frame F frame free in
    let G : Flat = page_loaded F g frame in
    let n : number_of e ≡ frame = number_of-resident frame protection in
    let kept : (q : ℕ) → q < 2 ^ 26 → entry_at G.words q ≡ entry_at F.words q =
    entry_at-same F.words G.words F.pages F.tables F.frames ok.tables (loaded_same F g frame ok is_free.among) in
    valid-with_entry G g e (valid-loaded F g frame ok small declared free) small declared (record {
      readable = resident_readable frame protection;
      stands = record {
        one = is_valid-resident frame protection ∙ ap not (sym (is_on_swap-resident frame protection));
        slot = λ h. absurd (differ (sym (is_on_swap-resident frame protection) ∙ h));
        leaving = λ h. is_valid-resident frame protection;
      };
      frame = λ h. subst (λ (m : ℕ). IsDataFrame F.tables F.frames m) (sym n) is_free.among;
      free = λ q f small_q apart at_q v_f v_e same. none_has F frame q f ok is_free small_q (sym (kept q small_q) ∙ at_q) v_f (same ∙ n);
    })
