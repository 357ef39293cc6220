-- The entries and the words of the declared pages, after the flat state has changed.
use Rattle.std.proofs.Common.{◌≡◌, ◌≢◌, ◌∙◌, ℕ, ◌+◌, ◌*◌, ◌/◌, ◌^◌, ◌<◌, ◌≤◌, ◌==◌, Bool, true, false, Option, Some, None, sym, ap, subst, arith, List, length, take, slice_index, slice_set}
use Rattle.std.specs.List.{list_any}
use Rattle.std.proofs.lemmas.Bool.{eq-eqb, or_left}
use Rattle.std.proofs.lemmas.List.{drop-set-lt}
use Rattle.std.proofs.lemmas.List.Folds.{list_any_at}
use Rattle.spur_addr.specs.Address.{page_address, page_of, user_pages}
use Rattle.spur_addr.specs.PageEntry.{is_valid, is_on_swap, number_of}
use Rattle.spur_addr.specs.Pages.{page_at}
use Rattle.spur_flat.specs.declared.flat.Flat.{Flat}
use Rattle.spur_flat.specs.Table.{entry_at, table_words}
use Rattle.spur_flat.specs.Pager.{entry_place, is_declared, or_zero, position_in, swap_slot_of, with_entry, word_of}
use Rattle.spur_flat.specs.Validity.{IsDataFrame, IsDeclared, IsValidFlat}
use Rattle.spur_flat.proofs.CleanFacts.{page_of-address, word_of-page}
use Rattle.spur_flat.proofs.TableFacts.{entry_at-set_other, entry_at-set_same, place_at, place_bounds}
use Rattle.spur_flat.proofs.WalkFacts.{entry_at-same}
use Rattle.spur_flat.proofs.PagerFacts.{Stands, declared_stands, frame_of, is_at_position, place_is}

-- the word of a page's entry, and whether the page is declared, by the page's number
abbrev pub entry_in : Flat → ℕ → ℕ
entry_in F p = word_of F (page_address p)

abbrev pub declares : Flat → ℕ → Bool
declares F p = is_declared F (page_address p)

pub declared_page : (F : Flat) (g p : ℕ) → p ≡ page_of g → is_declared F g ≡ true → declares F p ≡ true
declared_page F g p is h = ap (λ (n : ℕ). list_any (λ page. page == n) F.pages) (page_of-address p ∙ is) ∙ h

declared_by : (F : Flat) (p : ℕ) → IsDeclared F.pages p → declares F p ≡ true
declared_by F p d =
    list_any_at (λ (page : ℕ). page == page_of (page_address p)) F.pages d.position 0 d.within
    (eq-eqb (slice_index F.pages d.position) (page_of (page_address p)) (d.is ∙ sym (page_of-address p)))

-- what is known of a declared page
pub record IsPage (F : Flat) (p : ℕ) : Type 0 where
  pub user : p < user_pages
  pub small : page_address p < 2 ^ 38
  pub few : p < 2 ^ 26
  pub there : entry_at F.words p ≡ Some (entry_in F p)
  pub stands : Stands F (page_address p)

-- a declared page is below segment 255
pub declared_small : (pages : List ℕ) (p : ℕ) → ((i : ℕ) → i < length pages → slice_index pages i < user_pages)
    → list_any (λ (page : ℕ). page == p) pages ≡ true → p < user_pages
declared_small pages p small d =
    let at = is_at_position pages p d in
    subst (λ (n : ℕ). n < user_pages) at.is (small (position_in pages p) at.within)

pub declared_is : (F : Flat) (p : ℕ) → IsValidFlat F → declares F p ≡ true → IsPage F p
declared_is F p ok d =
    let user : p < 255 * 2 ^ 18 = subst (λ (n : ℕ). n < user_pages) (page_of-address p) (declared_small F.pages (page_of (page_address p)) ok.pages.small d) in
    let few : p < 2 ^ 26 = omega arith in
    let small : page_address p < 2 ^ 38 = (let r : p * 2 ^ 12 < 2 ^ 38 = omega arith in r) in
    let stands = declared_stands F (page_address p) ok small d in
    record {
      user = user;
      small = small;
      few = few;
      there = ap (entry_at F.words) (sym (page_of-address p)) ∙ stands.there;
      stands = stands;
    }

-- a valid entry is there, and is that of a declared page
there_if : (o : Option ℕ) (e : ℕ) → or_zero o ≡ e → is_valid e ≡ true → o ≡ Some e
there_if None e is v = let no : false ≡ true = ap is_valid is ∙ v in cc
there_if (Some w) e is v = ap (λ (n : ℕ). Some n) is

pub valid_declared : (F : Flat) (p : ℕ) → IsValidFlat F → p < 2 ^ 26 → is_valid (entry_in F p) ≡ true → declares F p ≡ true
valid_declared F p ok few v =
    declared_by F p
    (ok.tables.declared p (entry_in F p) few (there_if (entry_at F.words p) (entry_in F p) (sym (word_of-page F p)) v)
    (or_left (is_valid (entry_in F p)) (is_on_swap (entry_in F p)) v))

pub data_frame : (F : Flat) (p : ℕ) → IsValidFlat F → declares F p ≡ true → is_valid (entry_in F p) ≡ true → IsDataFrame F.tables F.frames (number_of (entry_in F p))
data_frame F p ok d v = frame_of F (page_address p) ok (declared_is F p ok d).small d v

-- pages that differ have frames that differ
pub frames_apart : (F : Flat) (p q : ℕ) → IsValidFlat F → declares F p ≡ true → declares F q ≡ true → is_valid (entry_in F p) ≡ true → is_valid (entry_in F q) ≡ true
    → p ≢ q → number_of (entry_in F p) ≢ number_of (entry_in F q)
frames_apart F p q ok dp dq vp vq apart same =
    let a = declared_is F p ok dp in
    let b = declared_is F q ok dq in
    apart (ok.tables.frame_apart p q (entry_in F p) (entry_in F q) a.few b.few a.there b.there vp vq same)

-- and slots that differ
pub slots_apart : (F : Flat) (p q : ℕ) → IsValidFlat F → declares F p ≡ true → declares F q ≡ true → p ≢ q → swap_slot_of F (page_address p) ≢ swap_slot_of F (page_address q)
slots_apart F p q ok dp dq apart same =
    let a = (declared_is F p ok dp).stands in
    let b = (declared_is F q ok dq).stands in
    apart (sym (page_of-address p) ∙ sym a.is ∙ ap (slice_index F.pages) same ∙ b.is ∙ page_of-address q)

-- ---- another entry for the page of g

-- what the state with another entry has of pages and frames
pub record IsPlaced (F : Flat) (g new : ℕ) : Type 0 where
  pub here : (p : ℕ) → p ≡ page_of g → entry_in (with_entry F g new) p ≡ new
  pub there : (p : ℕ) → p < 2 ^ 26 → p ≢ page_of g → entry_in (with_entry F g new) p ≡ entry_in F p
  pub words : (n : ℕ) → 64 + F.tables ≤ n → page_at (with_entry F g new).words n ≡ page_at F.words n

pub placed : (F : Flat) (g new : ℕ) → IsValidFlat F → g < 2 ^ 38 → is_declared F g ≡ true → IsPlaced F g new
placed F g new ok small declared =
    let has = declared_stands F g ok small declared in
    let words : length F.words ≡ 1024 * (64 + F.tables + F.frames) = ok.words in
    let few : page_of g < 2 ^ 26 = (let r : g / 2 ^ 12 < 2 ^ 26 = omega arith in r) in
    let long : table_words F.tables ≤ length F.words = omega arith in
    let place : place_at F.words (page_of g) ≡ entry_place F g = place_is F g in
    let below : place_at F.words (page_of g) < table_words F.tables = (place_bounds ok.tables (page_of g) few has.root).1 in
    record {
      here = λ (p : ℕ) (is : p ≡ page_of g).
          word_of-page (with_entry F g new) p
          ∙ ap (λ (n : ℕ). or_zero (entry_at (slice_set F.words (entry_place F g) new) n)) is
          ∙ ap (λ (k : ℕ). or_zero (entry_at (slice_set F.words k new) (page_of g))) (sym place)
          ∙ ap or_zero (entry_at-set_same ok.tables (page_of g) new few long has.root);
      there = λ (p : ℕ) (few_p : p < 2 ^ 26) (apart : p ≢ page_of g).
          word_of-page (with_entry F g new) p
          ∙ ap (λ (k : ℕ). or_zero (entry_at (slice_set F.words k new) p)) (sym place)
          ∙ ap or_zero (entry_at-set_other ok.tables (page_of g) p new few few_p apart has.root)
          ∙ sym (word_of-page F p);
      words = λ (n : ℕ) (low : 64 + F.tables ≤ n).
          let under : entry_place F g < n * 1024 = omega arith in
          ap (take 1024) (drop-set-lt (n * 1024) F.words (entry_place F g) new under);
    }

-- ---- other words past the tables

pub kept_entry : (F : Flat) (words : List ℕ) (p : ℕ) → IsValidFlat F → p < 2 ^ 26 → ((k : ℕ) → k < table_words F.tables → slice_index words k ≡ slice_index F.words k)
    → entry_in (record F { words = words }) p ≡ entry_in F p
kept_entry F words p ok few same =
    word_of-page (record F { words = words }) p
    ∙ ap or_zero (entry_at-same F.words words F.pages F.tables F.frames ok.tables same p few)
    ∙ sym (word_of-page F p)
