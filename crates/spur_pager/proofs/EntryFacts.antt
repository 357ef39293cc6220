-- One entry of a flat state is changed: what is said of frames and of clean pages.
use Rattle.std.proofs.Common.{◌≡◌, ◌≢◌, ◌∙◌, ℕ, zero, suc, ◌+◌, ◌*◌, ◌/◌, ◌%◌, ◌^◌, ◌<◌, ◌≤◌, ◌==◌, ◌||◌, ⊎_elim, Bool, true, false, ap, sym, refl, subst, List, [], ◌∷◌, length, take, slice_index, Option, Some, None, arith}
use Rattle.std.proofs.lemmas.Bool.{cases_eq, eq-eqb, or_left, or_right}
use Rattle.std.proofs.lemmas.List.{drop-set-lt}
use Rattle.std.specs.List.{list_any}
use Rattle.std.specs.Prelude.{IfSome, IsSome}
use Rattle.std.proofs.lemmas.Nat.{shr-shr}
use Rattle.spur_addr.specs.Address.{page_of, table_start, page_address, user_pages}
use Rattle.spur_addr.specs.PageEntry.{is_dirty, is_leaving, is_on_swap, is_valid, number_of}
use Rattle.spur_flat.specs.declared.flat.Flat.{Flat}
use Rattle.spur_flat.specs.Pager.{entry_place, is_declared, position_in, word_of}
use Rattle.spur_addr.specs.Pages.{page_at}
use Rattle.spur_flat.specs.Validity.{IsDataFrame, IsDeclared, IsValidFlat}
use Rattle.spur_flat.proofs.PagerFacts.{declared_stands, frame_of}
use Rattle.spur_flat.proofs.TableFacts.{place_bounds}
use Rattle.spur_frames.specs.Frames.{AreFrames, Frames, IsFrame, IsTaken, IsTakenOf, holder_of}
use Rattle.spur_frames.specs.Clock.{page_held, page_of_frame}
use Rattle.spur_walk.proofs.ValidFacts.{entry_is, tables}
use Rattle.spur_pager.specs.Stand.{AreFramed, FrameHolds}
use Rattle.spur_flat.specs.Clean.{AreClean}
use Rattle.spur_pager.proofs.MarkFacts.{IsMarked}
use Rattle.spur_pager.proofs.PlaceFacts.{IsPlace, placed, word_other, word_same, word_page}

pub page_again : (page : ℕ) → page_of (page_address page) ≡ page
page_again page = let r : page * 2 ^ 12 / 2 ^ 12 ≡ page = omega arith in r

pub page_user : (page : ℕ) → page < user_pages → page_address page < table_start
page_user page small = let s : page < 255 * 2 ^ 18 = small in let r : page * 2 ^ 12 < 255 * 2 ^ 30 = omega arith in r

pub user_page : (g : ℕ) → g < table_start → page_of g < user_pages
user_page g user = let u : g < 255 * 2 ^ 30 = user in let r : g / 2 ^ 12 < 255 * 2 ^ 18 = omega arith in r

pub small_user : (g : ℕ) → g < table_start → g < 2 ^ 38
small_user g user = let u : g < 255 * 2 ^ 30 = user in let r : g < 2 ^ 38 = omega arith in r

pub any_at : (pages : List ℕ) (p i : ℕ) → i < length pages → slice_index pages i ≡ p → list_any (λ (page : ℕ). page == p) pages ≡ true
any_at [] p i within is = absurd (omega arith)
any_at (x ∷ xs) p zero within is = ap (λ (b : Bool). b || list_any (λ (page : ℕ). page == p) xs) (eq-eqb x p is)
any_at (x ∷ xs) p (suc i) within is = ap (λ (b : Bool). (x == p) || b) (any_at xs p i (omega arith) is) ∙ or_right (x == p) true refl

pub declared_is : (F : Flat) (g : ℕ) → IsDeclared F.pages (page_of g) → is_declared F g ≡ true
declared_is F g d = any_at F.pages (page_of g) d.position d.within d.is

-- a valid entry is that of a declared page
pub valid_declared : (F : Flat) (g : ℕ) → IsValidFlat F → g < table_start → is_valid (word_of F g) ≡ true → is_declared F g ≡ true
valid_declared F g ok user valid =
    let u : g < 255 * 2 ^ 30 = user in
    let small : g / 2 ^ 12 < 2 ^ 26 = omega arith in
    declared_is F g (ok.tables.declared (page_of g) (word_of F g) small (entry_is F g valid) (or_left (is_valid (word_of F g)) (is_on_swap (word_of F g)) valid))

-- and its frame is one of the data
pub data_frame : (F : Flat) (page : ℕ) → IsValidFlat F → page < user_pages → is_valid (word_of F (page_address page)) ≡ true → IsDataFrame F.tables F.frames (number_of (word_of F (page_address page)))
data_frame F page ok small valid =
    let user = page_user page small in
    frame_of F (page_address page) ok (small_user (page_address page) user) (valid_declared F (page_address page) ok user valid) valid

-- what a declared page's entry has in the tables
pub record IsAbove (F : Flat) (g : ℕ) : Type 0 where
  pub place : IsPlace F g
  pub below : entry_place F g < 1024 * (64 + F.tables)

pub above : (F : Flat) (g : ℕ) → IsValidFlat F → g < table_start → is_declared F g ≡ true → IsAbove F g
above F g ok user declared =
    let u : g < 255 * 2 ^ 30 = user in
    let stands = declared_stands F g ok (small_user g user) declared in
    let high : g / 2 ^ 12 / 2 ^ 10 ≡ g / 2 ^ 22 = shr-shr g 12 10 in
    let bounds = place_bounds ok.tables (page_of g) (omega arith) stands.root in
    record {
      place = record { tables = tables F ok; user = user; valid = ap (λ (n : ℕ). is_valid (slice_index F.words n)) (sym high) ∙ stands.root };
      below = subst (λ (n : ℕ). n < 1024 * (64 + F.tables)) (ap (λ (r : ℕ). number_of (slice_index F.words r) * 1024 + g / 2 ^ 12 % 1024) high) bounds.1;
    }

-- the entries of pages after the change
pub record Entries (F : Flat) (g new : ℕ) : Type 0 where
  pub here : (page : ℕ) → page < user_pages → page ≡ page_of g → word_of (placed F g new) (page_address page) ≡ new
  pub others : (page : ℕ) → page < user_pages → page ≢ page_of g → word_of (placed F g new) (page_address page) ≡ word_of F (page_address page)
  pub was : (page : ℕ) → page ≡ page_of g → word_of F (page_address page) ≡ word_of F g
  pub data_words : (n : ℕ) → 64 + F.tables ≤ n → page_at (placed F g new).words n ≡ page_at F.words n

pub entries : (F : Flat) (g new : ℕ) → IsAbove F g → Entries F g new
entries F g new a = record {
  here = λ (page : ℕ) (small : page < user_pages) (is : page ≡ page_of g). word_same F g new (page_address page) a.place (page_user page small) (page_again page ∙ is);
  others = λ (page : ℕ) (small : page < user_pages) (apart : page ≢ page_of g). word_other F g new (page_address page) a.place (page_user page small) (λ (e : page_of (page_address page) ≡ page_of g). apart (sym (page_again page) ∙ e));
  was = λ (page : ℕ) (is : page ≡ page_of g). word_page F (page_address page) g (page_again page ∙ is);
  data_words = λ (n : ℕ) (low : 64 + F.tables ≤ n).
      let below : entry_place F g < 1024 * (64 + F.tables) = a.below in
      ap (take 1024) (drop-set-lt (n * 1024) F.words (entry_place F g) new (omega arith));
}

-- a marked entry: each page is valid as before, and has its frame
pub record IsSteady (F : Flat) (g new page : ℕ) : Type 0 where
  pub valid : is_valid (word_of (placed F g new) (page_address page)) ≡ is_valid (word_of F (page_address page))
  pub number : number_of (word_of (placed F g new) (page_address page)) ≡ number_of (word_of F (page_address page))
  pub dirty : is_dirty (word_of F (page_address page)) ≡ true → is_dirty (word_of (placed F g new) (page_address page)) ≡ true

pub steady : (F : Flat) (g new page : ℕ) → Entries F g new → IsMarked (word_of F g) new → page < user_pages → IsSteady F g new page
steady F g new page e marked small =
    ⊎_elim
    (λ (is : page ≡ page_of g).
    let now = e.here page small is in
    let was = e.was page is in
    record {
      valid = ap (λ (n : ℕ). is_valid n) now ∙ marked.valid ∙ ap (λ (n : ℕ). is_valid n) (sym was);
      number = ap (λ (n : ℕ). number_of n) now ∙ marked.number ∙ ap (λ (n : ℕ). number_of n) (sym was);
      dirty = λ (d : is_dirty (word_of F (page_address page)) ≡ true). ap (λ (n : ℕ). is_dirty n) now ∙ marked.dirty (ap (λ (n : ℕ). is_dirty n) (sym was) ∙ d);
    })
    (λ (apart : page ≢ page_of g).
    let now = e.others page small apart in
    record {
      valid = ap (λ (n : ℕ). is_valid n) now;
      number = ap (λ (n : ℕ). number_of n) now;
      dirty = λ (d : is_dirty (word_of F (page_address page)) ≡ true). ap (λ (n : ℕ). is_dirty n) now ∙ d;
    })
    (cases_eq page (page_of g))

same_leaving : (F : Flat) (g new page : ℕ) → Entries F g new → is_leaving new ≡ is_leaving (word_of F g) → page < user_pages → is_leaving (word_of (placed F g new) (page_address page)) ≡ is_leaving (word_of F (page_address page))
same_leaving F g new page e leaving small =
    ⊎_elim
    (λ (is : page ≡ page_of g). ap (λ (n : ℕ). is_leaving n) (e.here page small is) ∙ leaving ∙ ap (λ (n : ℕ). is_leaving n) (sym (e.was page is)))
    (λ (apart : page ≢ page_of g). ap (λ (n : ℕ). is_leaving n) (e.others page small apart))
    (cases_eq page (page_of g))

pub holds_still : (F : Flat) (g new frame page slot : ℕ) → Entries F g new → IsMarked (word_of F g) new → FrameHolds F frame page slot → FrameHolds (placed F g new) frame page slot
holds_still F g new frame page slot e marked h =
    let s = steady F g new page e marked h.small in
    record { small = h.small; declared = h.declared; slot_is = h.slot_is; valid = s.valid ∙ h.valid; number = s.number ∙ h.number }

pub held_still : (F : Flat) (frames : Frames) (g new page : ℕ) → Entries F g new → IsMarked (word_of F g) new → AreFramed F frames → page < user_pages → is_valid (word_of (placed F g new) (page_address page)) ≡ true
    → holder_of frames (number_of (word_of (placed F g new) (page_address page))) ≡ Some (page, position_in F.pages page)
held_still F frames g new page e marked ok small valid =
    let s = steady F g new page e marked small in
    ap (holder_of frames) s.number ∙ ok.holds page small (sym s.valid ∙ valid)

-- the leaving frame is a taken one
pub leaving_taken : (frames : Frames) (frame : ℕ) → AreFrames frames → frames.leaving ≡ Some frame → IsTaken frames frame
leaving_taken frames frame table is = subst (λ (o : Option ℕ). IfSome o (IsTakenOf frames.first frames.held)) is table.leaving

-- its page is one below segment 255
pub leaving_page : (F : Flat) (frames : Frames) (frame : ℕ) → AreFramed F frames → IsFrame frames frame → IsSome (holder_of frames frame) → page_of_frame frames frame < user_pages
leaving_page F frames frame ok is taken = held_page (holder_of frames frame) refl taken
  where
    held_page : (o : Option (ℕ × ℕ)) → holder_of frames frame ≡ o → IsSome o → page_held o < user_pages
    held_page None h some = cc
    held_page (Some p) h some = (ok.taken frame p.0 p.1 is h).small

-- a bit other than the leaving one is marked: the frame table is that of the pages
pub framed_marked : (F : Flat) (frames : Frames) (g new : ℕ) → IsAbove F g → IsMarked (word_of F g) new → is_leaving new ≡ is_leaving (word_of F g)
    → ((frame : ℕ) → frames.leaving ≡ Some frame → page_of_frame frames frame < user_pages) → AreFramed F frames → AreFramed (placed F g new) frames
framed_marked F frames g new a marked leaving in_user ok =
    let e = entries F g new a in
    record {
      first = ok.first;
      count = ok.count;
      taken = λ (frame page slot : ℕ) (is : IsFrame frames frame) (holds : holder_of frames frame ≡ Some (page, slot)). holds_still F g new frame page slot e marked (ok.taken frame page slot is holds);
      holds = λ (page : ℕ) (small : page < user_pages) (valid : is_valid (word_of (placed F g new) (page_address page)) ≡ true). held_still F frames g new page e marked ok small valid;
      leaving = λ (frame : ℕ) (is : frames.leaving ≡ Some frame). same_leaving F g new (page_of_frame frames frame) e leaving (in_user frame is) ∙ ok.leaving frame is;
      leaves = λ (page : ℕ) (small : page < user_pages) (valid : is_valid (word_of (placed F g new) (page_address page)) ≡ true) (is : is_leaving (word_of (placed F g new) (page_address page)) ≡ true).
          ok.leaves page small (sym (steady F g new page e marked small).valid ∙ valid) (sym (same_leaving F g new page e leaving small) ∙ is) ∙ ap (λ (n : ℕ). Some n) (sym (steady F g new page e marked small).number);
    }

clear_was : (a b : Bool) → (a ≡ true → b ≡ true) → b ≡ false → a ≡ false
clear_was false b h is = refl
clear_was true b h is = let clash : true ≡ false = sym (h refl) ∙ is in cc

-- and clean pages have the words of their slots
pub clean_marked : (F : Flat) (g new : ℕ) → IsValidFlat F → IsAbove F g → IsMarked (word_of F g) new → AreClean F → AreClean (placed F g new)
clean_marked F g new ok a marked clean page small valid clear =
    let e = entries F g new a in
    let s = steady F g new page e marked small in
    let was : is_valid (word_of F (page_address page)) ≡ true = sym s.valid ∙ valid in
    let frame = data_frame F page ok small was in
    ap (page_at (placed F g new).words) s.number
    ∙ e.data_words (number_of (word_of F (page_address page))) frame.low
    ∙ clean page small was (clear_was (is_dirty (word_of F (page_address page))) (is_dirty (word_of (placed F g new) (page_address page))) s.dirty clear)
