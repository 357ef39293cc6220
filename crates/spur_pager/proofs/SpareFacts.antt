-- A free frame of the table is spare, and a page that is on swap may come into it.
use Rattle.std.proofs.Common.{◌≡◌, ◌≢◌, ◌∙◌, ℕ, suc, ◌+◌, ◌*◌, ◌/◌, ◌^◌, ◌<◌, ◌≤◌, ◌==◌, ◌&&◌, ◌||◌, nat_lt, nat_le, Bool, true, false, not, ap, sym, refl, List, [], ◌∷◌, length, slice_index, Option, Some, None, arith}
use Rattle.std.specs.List.{list_any}
use Rattle.std.proofs.lemmas.Bool.{and_from, le-leb, lt-ltb, ne_eqb, not_from_false, or_right}
use Rattle.spur_addr.specs.Address.{page_of, table_start, page_address, user_pages}
use Rattle.spur_addr.specs.PageEntry.{is_on_swap, is_valid, number_of}
use Rattle.spur_flat.specs.declared.flat.Flat.{Flat}
use Rattle.spur_flat.specs.declared.entry.Entry.TheVariants.{PageIn}
use Rattle.spur_flat.specs.History.{IsAllowed}
use Rattle.spur_flat.specs.Pager.{has_frame, is_declared, is_free_frame, or_zero, swap_slot_of, word_of}
use Rattle.spur_flat.specs.Table.{entry_at, walk_of}
use Rattle.spur_flat.specs.Validity.{IsDataFrame, IsTableFrame, IsValidFlat}
use Rattle.spur_flat.proofs.PagerFacts.{declared_stands}
use Rattle.spur_flat.proofs.WalkFacts.{walk_of-entry}
use Rattle.spur_frames.specs.Frames.{Frames, IsFree, holder_of}
use Rattle.spur_walk.specs.Tables.{user_roots}
use Rattle.spur_pager.specs.Stand.{AreFramed}
use Rattle.spur_pager.proofs.EntryFacts.{declared_is, page_again, small_user, user_page}
use Rattle.spur_pager.proofs.MoveFacts.{IsSpare}
use Rattle.spur_pager.proofs.PlaceFacts.{word_page}

-- it is one of the data
pub free_data : (F : Flat) (frames : Frames) (frame : ℕ) → AreFramed F frames → IsFree frames frame → IsDataFrame F.tables F.frames frame
free_data F frames frame framed free =
    let first : frames.first ≡ 64 + F.tables = framed.first in
    let count : length frames.held ≡ F.frames = framed.count in
    let low : frames.first ≤ frame = free.low in
    let high : frame < frames.first + length frames.held = free.high in
    record { low = omega arith; high = omega arith }

-- no valid entry has it
pub free_apart : (F : Flat) (frames : Frames) (frame page : ℕ) → AreFramed F frames → IsFree frames frame → page < user_pages → is_valid (word_of F (page_address page)) ≡ true → number_of (word_of F (page_address page)) ≢ frame
free_apart F frames frame page framed free small valid same =
    let held = framed.holds page small valid in
    let clash : None ≡ Some _ = sym free.free ∙ ap (holder_of frames) (sym same) ∙ held in
    cc

past_tables : (t n frame : ℕ) → n < 64 + t → 64 + t ≤ frame → frame ≢ n
past_tables t n frame high low same = omega arith

pub free_spare : (F : Flat) (frames : Frames) (frame : ℕ) → IsValidFlat F → AreFramed F frames → IsFree frames frame → IsSpare F frame
free_spare F frames frame ok framed free =
    let among = free_data F frames frame framed free in
    let low : 64 + F.tables ≤ frame = among.low in
    let high : frame < 64 + F.tables + F.frames = among.high in
    let words : length F.words ≡ 1024 * (64 + F.tables + F.frames) = ok.words in
    record {
      is = record { low = omega arith; room = omega arith };
      apart = λ (to : ℕ) (user : to < table_start) (valid : is_valid (word_of F to) ≡ true) (number : number_of (word_of F to) ≡ frame).
          let page : word_of F (page_address (page_of to)) ≡ word_of F to = word_page F (page_address (page_of to)) to (page_again (page_of to)) in
          free_apart F frames frame (page_of to) framed free (user_page to user) (ap (λ (e : ℕ). is_valid e) page ∙ valid) (ap (λ (e : ℕ). number_of e) page ∙ number);
      table = λ (r : ℕ) (small : r < user_roots) (valid : is_valid (slice_index F.words r) ≡ true).
          let s : r < 255 * 2 ^ 8 = small in
          let root : IsTableFrame F.tables (number_of (slice_index F.words r)) = ok.tables.root r (omega arith) valid in
          past_tables F.tables (number_of (slice_index F.words r)) frame root.high low;
    }

none_passes : (p : ℕ → Bool) (xs : List ℕ) → ((i : ℕ) → i < length xs → p (slice_index xs i) ≡ false) → list_any p xs ≡ false
none_passes p [] none = refl
none_passes p (x ∷ xs) none =
    ap (λ (b : Bool). b || list_any p xs) (none 0 (omega arith)) ∙ none_passes p xs (λ (i : ℕ) (within : i < length xs). none (suc i) (omega arith))

not_named : (e frame : ℕ) (v : Bool) → is_valid e ≡ v → (is_valid e ≡ true → number_of e ≢ frame) → (is_valid e && (number_of e == frame)) ≡ false
not_named e frame true is apart = ap (λ (b : Bool). b && (number_of e == frame)) is ∙ ne_eqb (number_of e) frame (apart is)
not_named e frame false is apart = ap (λ (b : Bool). b && (number_of e == frame)) is

-- the test of a free frame passes
pub free_test : (F : Flat) (frames : Frames) (frame : ℕ) → IsValidFlat F → AreFramed F frames → IsFree frames frame → is_free_frame F frame ≡ true
free_test F frames frame ok framed free =
    let among = free_data F frames frame framed free in
    let past : Bool = nat_le (64 + F.tables) frame in
    let below : Bool = nat_lt frame (64 + F.tables + F.frames) in
    let named : Bool = list_any (has_frame F frame) F.pages in
    and_from (past && below) (not named) (and_from past below (le-leb (64 + F.tables) frame among.low) (lt-ltb frame (64 + F.tables + F.frames) among.high)) (not_from_false named
    (none_passes (has_frame F frame) F.pages (λ (i : ℕ) (within : i < length F.pages).
    not_named (word_of F (slice_index F.pages i * 2 ^ 12)) frame (is_valid (word_of F (slice_index F.pages i * 2 ^ 12))) refl
    (λ (valid : is_valid (word_of F (slice_index F.pages i * 2 ^ 12)) ≡ true). free_apart F frames frame (slice_index F.pages i) framed free (ok.pages.small i within) valid))))

-- ---- a page that is on swap

walk_swapped : (o : Option ℕ) → is_on_swap (or_zero o) ≡ true → o ≡ Some (or_zero o)
walk_swapped None h = let never : is_on_swap 0 ≡ true = h in cc
walk_swapped (Some e) h = refl

pub swapped_declared : (F : Flat) (g : ℕ) → IsValidFlat F → g < table_start → is_on_swap (word_of F g) ≡ true → is_declared F g ≡ true
swapped_declared F g ok user on_swap =
    let u : g < 255 * 2 ^ 30 = user in
    let small : g / 2 ^ 12 < 2 ^ 26 = omega arith in
    let there : entry_at F.words (page_of g) ≡ Some (word_of F g) = sym (walk_of-entry F g) ∙ walk_swapped (walk_of F g) on_swap in
    declared_is F g (ok.tables.declared (page_of g) (word_of F g) small there (or_right (is_valid (word_of F g)) (is_on_swap (word_of F g)) on_swap))

-- its entry names its slot
pub swapped_slot : (F : Flat) (g : ℕ) → IsValidFlat F → g < table_start → is_on_swap (word_of F g) ≡ true → number_of (word_of F g) ≡ swap_slot_of F g
swapped_slot F g ok user on_swap = (declared_stands F g ok (small_user g user) (swapped_declared F g ok user on_swap)).stands.slot on_swap

pub in_allowed : (F : Flat) (frames : Frames) (b g frame : ℕ) → IsValidFlat F → AreFramed F frames → IsFree frames frame → g < table_start → is_valid (word_of F g) ≡ false → is_on_swap (word_of F g) ≡ true → IsAllowed F (PageIn b g frame)
in_allowed F frames b g frame ok framed free user absent on_swap = (
  record { declared = swapped_declared F g ok user on_swap; entry = and_from (not (is_valid (word_of F g))) (is_on_swap (word_of F g)) (not_from_false (is_valid (word_of F g)) absent) on_swap },
  free_test F frames frame ok framed free,
)
