-- What an allowed entry leaves of clean pages.
use Rattle.std.proofs.Common.{◌≡◌, ◌≢◌, ℕ, ◌+◌, ◌*◌, ◌/◌, ◌%◌, ◌^◌, ◌<◌, ◌≤◌, ⊎_elim, ◌==◌, ◌&&◌, ◌||◌, not, Bool, true, false, if◌then◌else◌, Option, Some, None, refl, sym, ap, ◌∙◌, arith, List, [], ◌∷◌, length, take, slice_index, slice_set}
use Rattle.std.specs.List.{list_any}
use Rattle.std.proofs.lemmas.Bool.{cases_eq, eq-eqb, false≢true}
use Rattle.std.proofs.lemmas.List.{drop-set-lt, get_or-set_other}
use Rattle.std.proofs.lemmas.List.Folds.{list_any_at}
use Rattle.spur_addr.specs.Address.{is_aligned, page_address, page_of, user_pages}
use Rattle.spur_addr.specs.PageEntry.{is_valid, is_dirty, is_on_swap, number_of, protection_of, swapped_of, with_bit}
use Rattle.spur_addr.proofs.BitFacts.{flag-with_other, flag-with_same, number_of-with}
use Rattle.spur_addr.proofs.EntryFacts.{is_valid-swapped, number_of-resident}
use Rattle.spur_flat.specs.declared.flat.Flat.{Flat}
use Rattle.spur_flat.specs.declared.access.AccessKind.{AccessKind}
use Rattle.spur_flat.specs.declared.access.AccessKind.TheVariants as access
use Rattle.spur_flat.specs.declared.entry.Entry.{Entry}
use Rattle.spur_flat.specs.declared.entry.Entry.TheVariants.{Load, Store, Tas, Fault, Fill, Claim, WriteBack, Refresh, BlockFlush, Leave, PageOut, PageIn, SetRef, SetDirty, ClearRef}
use Rattle.spur_flat.specs.Access.{allows, is_write, may}
use Rattle.spur_flat.specs.Table.{entry_at, place_in, table_words, walk_of}
use Rattle.spur_flat.specs.Validity.{IsDataFrame, IsDeclared, IsValidFlat}
use Rattle.spur_addr.specs.Pages.{page_at}
use Rattle.spur_flat.specs.Pager.{brought_entry, come_in, entry_place, gone_out, is_declared, is_free_frame, page_loaded, or_zero, position_in, swap_slot_of, with_entry, with_entry_bit, word_of}
use Rattle.spur_flat.specs.History.{on, with_word_at}
use Rattle.spur_flat.specs.Laws.{address_of}
use Rattle.spur_flat.specs.Clean.{AreClean, LegalStaysClean, NoneValidIsClean, StaysClean}
use Rattle.spur_flat.proofs.HistoryFacts.{first_of_all, first_true, rest_of_all, stays-valid}
use Rattle.spur_flat.proofs.PagerFacts.{IsFlag, declared_stands, dirty_flag, either, frame_inside, free_frame, is_at_position, leaving_flag, loaded_same, none_has, page_long, place_is, referenced_flag, slot_inside, valid-loaded, valid-written, written}
use Rattle.spur_flat.proofs.PageWordFacts.{IsPut, page_at-set_other, page_other, page_put}
use Rattle.spur_flat.proofs.TableFacts.{entry_at-set_other, entry_at-set_same, place_at, place_bounds, some_same}
use Rattle.spur_flat.proofs.WalkFacts.{data_within, done_is_valid, entry_at-same, walk_of-entry}

-- ---- pages and their entries

pub page_of-address : (page : ℕ) → page_of (page_address page) ≡ page
page_of-address page = let r : page * 2 ^ 12 / 2 ^ 12 ≡ page = omega arith in r

-- the word of a page's entry, by the number of the page
pub word_of-page : (F : Flat) (page : ℕ) → word_of F (page_address page) ≡ or_zero (entry_at F.words page)
word_of-page F page = ap or_zero (walk_of-entry F (page_address page) ∙ ap (entry_at F.words) (page_of-address page))

pub word_of-same_page : (F : Flat) (g page : ℕ) → page ≡ page_of g → word_of F (page_address page) ≡ word_of F g
word_of-same_page F g page is = word_of-page F page ∙ ap (λ (q : ℕ). or_zero (entry_at F.words q)) is ∙ sym (ap or_zero (walk_of-entry F g))

valid_is_there : (entry : Option ℕ) → is_valid (or_zero entry) ≡ true → entry ≡ Some (or_zero entry)
valid_is_there None h = let no : false ≡ true = h in cc
valid_is_there (Some e) h = refl

-- what a valid page has
pub record HasFrame (F : Flat) (page : ℕ) : Type 0 where
  pub small : page < 2 ^ 26
  pub there : entry_at F.words page ≡ Some (word_of F (page_address page))
  pub declared : IsDeclared F.pages page
  pub frame : IsDataFrame F.tables F.frames (number_of (word_of F (page_address page)))

pub valid_has_frame : (F : Flat) (page : ℕ) → IsValidFlat F → page < user_pages → is_valid (word_of F (page_address page)) ≡ true → HasFrame F page
valid_has_frame F page ok user valid =
    let u : page < 255 * 2 ^ 18 = user in
    let small : page < 2 ^ 26 = omega arith in
    let word : ℕ = word_of F (page_address page) in
    let same : word ≡ or_zero (entry_at F.words page) = word_of-page F page in
    let there : entry_at F.words page ≡ Some word = valid_is_there (entry_at F.words page) (ap is_valid (sym same) ∙ valid) ∙ ap (λ (w : ℕ). Some w) (sym same) in
    record {
      small = small;
      there = there;
      declared = ok.tables.declared page word small there (ap (λ (b : Bool). b || is_on_swap word) valid);
      frame = ok.tables.frame page word small there valid;
    }

-- two declared pages have two slots
slots_apart : (F : Flat) (g page : ℕ) → is_declared F g ≡ true → IsDeclared F.pages page → page ≢ page_of g → swap_slot_of F (page_address page) ≢ swap_slot_of F g
slots_apart F g page declared d apart same =
    let found : list_any (λ (q : ℕ). q == page) F.pages ≡ true = list_any_at (λ (q : ℕ). q == page) F.pages d.position 0 d.within (eq-eqb (slice_index F.pages d.position) page d.is) in
    let its : position_in F.pages page ≡ position_in F.pages (page_of g) = ap (position_in F.pages) (sym (page_of-address page)) ∙ same in
    apart (sym (is_at_position F.pages page found).is ∙ ap (slice_index F.pages) its ∙ (is_at_position F.pages (page_of g) declared).is)

-- ---- another entry

-- the entries of pages, and the words of data frames, where the page of g has another entry
record Entered (F : Flat) (g e : ℕ) : Type 0 where
  here : (page : ℕ) → page ≡ page_of g → word_of (with_entry F g e) (page_address page) ≡ e
  others : (page : ℕ) → page < user_pages → page ≢ page_of g → word_of (with_entry F g e) (page_address page) ≡ word_of F (page_address page)
  words : (n : ℕ) → 64 + F.tables ≤ n → page_at (with_entry F g e).words n ≡ page_at F.words n

entered : (F : Flat) (g e : ℕ) → IsValidFlat F → g < 2 ^ 38 → is_declared F g ≡ true → Entered F g e
entered F g e ok small declared =
    let has = declared_stands F g ok small declared in
    let words : length F.words ≡ 1024 * (64 + F.tables + F.frames) = ok.words in
    let small_g : page_of g < 2 ^ 26 = omega arith in
    let place : place_at F.words (page_of g) ≡ entry_place F g = place_is F g in
    let below : place_at F.words (page_of g) < table_words F.tables = (place_bounds ok.tables (page_of g) small_g has.root).1 in
    record {
      here = λ (page : ℕ) (is : page ≡ page_of g).
          word_of-page (with_entry F g e) page
          ∙ ap (λ (q : ℕ). or_zero (entry_at (slice_set F.words (entry_place F g) e) q)) is
          ∙ ap (λ (k : ℕ). or_zero (entry_at (slice_set F.words k e) (page_of g))) (sym place)
          ∙ ap or_zero (entry_at-set_same ok.tables (page_of g) e small_g (omega arith) has.root);
      others = λ (page : ℕ) (user : page < user_pages) (apart : page ≢ page_of g).
          let u : page < 255 * 2 ^ 18 = user in
          word_of-page (with_entry F g e) page
          ∙ ap (λ (k : ℕ). or_zero (entry_at (slice_set F.words k e) page)) (sym place)
          ∙ ap or_zero (entry_at-set_other ok.tables (page_of g) page e small_g (omega arith) apart has.root)
          ∙ sym (word_of-page F page);
      words = λ (n : ℕ) (low : 64 + F.tables ≤ n). ap (take 1024) (drop-set-lt (n * 1024) F.words (entry_place F g) e (omega arith));
    }

-- a page of a data frame that has the same number as before, and is neither written nor entered
kept : (F : Flat) (g e page : ℕ) → IsValidFlat F → Entered F g e → AreClean F → page < user_pages → is_valid (word_of F (page_address page)) ≡ true
    → is_dirty (word_of F (page_address page)) ≡ false → number_of (word_of (with_entry F g e) (page_address page)) ≡ number_of (word_of F (page_address page))
    → page_at (with_entry F g e).words (number_of (word_of (with_entry F g e) (page_address page))) ≡ page_at F.swap (swap_slot_of F (page_address page))
kept F g e page ok all clean user valid clear number =
    ap (page_at (with_entry F g e).words) number
    ∙ all.words (number_of (word_of F (page_address page))) (valid_has_frame F page ok user valid).frame.low
    ∙ clean page user valid clear

-- an entry with the same frame that is valid where the old one is, and dirty where that is
record IsMarked (e new : ℕ) : Type 0 where
  valid : is_valid new ≡ is_valid e
  number : number_of new ≡ number_of e
  dirty : is_dirty e ≡ true → is_dirty new ≡ true

clear_before : (old new : Bool) → (old ≡ true → new ≡ true) → new ≡ false → old ≡ false
clear_before false new h is = refl
clear_before true new h is = let clash : true ≡ false = sym (h refl) ∙ is in cc

clean_marked : (F : Flat) (g e : ℕ) → IsValidFlat F → g < 2 ^ 38 → is_declared F g ≡ true → IsMarked (word_of F g) e → AreClean F → AreClean (with_entry F g e)
clean_marked F g e ok small declared marked clean page user valid clear =
    let all : Entered F g e = entered F g e ok small declared in
    ⊎_elim
    (λ (is : page ≡ page_of g).
    let now : word_of (with_entry F g e) (page_address page) ≡ e = all.here page is in
    let was : word_of F (page_address page) ≡ word_of F g = word_of-same_page F g page is in
    kept F g e page ok all clean user
    (ap is_valid was ∙ sym marked.valid ∙ ap is_valid (sym now) ∙ valid)
    (ap is_dirty was ∙ clear_before (is_dirty (word_of F g)) (is_dirty e) marked.dirty (ap is_dirty (sym now) ∙ clear))
    (ap number_of now ∙ marked.number ∙ ap number_of (sym was)))
    (λ (apart : page ≢ page_of g).
    let same : word_of (with_entry F g e) (page_address page) ≡ word_of F (page_address page) = all.others page user apart in
    kept F g e page ok all clean user (ap is_valid (sym same) ∙ valid) (ap is_dirty (sym same) ∙ clear) (ap number_of same))
    (cases_eq page (page_of g))

-- one bit is set or cleared, and dirty is not cleared
clean-with_entry_bit : (F : Flat) (g k : ℕ) (to : Bool) → IsValidFlat F → g < 2 ^ 38 → is_declared F g ≡ true → IsFlag k
    → (is_dirty (word_of F g) ≡ true → is_dirty (with_bit (word_of F g) k to) ≡ true) → AreClean F → AreClean (with_entry_bit F g k to)
clean-with_entry_bit F g k to ok small declared flag dirty clean =
    let e : ℕ = word_of F g in
    let marked : IsMarked e (with_bit e k to) = record { valid = flag-with_other e k 0 to flag.not_valid; number = number_of-with e k to flag.below; dirty = dirty } in
    clean_marked F g (with_bit e k to) ok small declared marked clean

-- ---- a word is written

-- an access that is done and writes has a dirty entry
done_dirty : (aligned valid granted dirty write : Bool) → write ≡ true → (if aligned then valid && granted && (dirty || not write) else false) ≡ true → dirty ≡ true
done_dirty aligned valid granted true write w h = refl
done_dirty true true true false true w h = cc
done_dirty true true true false false w h = cc
done_dirty true true false false write w h = cc
done_dirty true false granted false write w h = cc
done_dirty false valid granted false write w h = cc

done_is_dirty : (e : ℕ) (kind : AccessKind) (g : ℕ) → is_write kind ≡ true → may (Some e) kind g None ≡ true → is_dirty e ≡ true
done_is_dirty e kind g write h = done_dirty (is_aligned g) (is_valid e) (allows e kind) (is_dirty e) (is_write kind) write h

-- the word of a dirty page is written
clean-with_word : (F : Flat) (g e value : ℕ) → IsValidFlat F → g < 2 ^ 38 → walk_of F g ≡ Some e → is_valid e ≡ true → is_dirty e ≡ true → AreClean F
    → AreClean (with_word_at F (number_of e * 1024 + g / 2 ^ 2 % 1024) value)
clean-with_word F g e value ok small walked valid_e dirty clean page user valid clear =
    let u : page < 255 * 2 ^ 18 = user in
    let place : ℕ = number_of e * 1024 + g / 2 ^ 2 % 1024 in
    let past : table_words F.tables ≤ place = (data_within F g e ok small walked valid_e).0 in
    let new : List ℕ = slice_set F.words place value in
    let entries : entry_at new page ≡ entry_at F.words page =
    entry_at-same F.words new F.pages F.tables F.frames ok.tables (λ (k : ℕ) (below : k < table_words F.tables). get_or-set_other F.words place k value 0 (λ (h : k ≡ place). omega arith)) page (omega arith) in
    let same : word_of (with_word_at F place value) (page_address page) ≡ word_of F (page_address page) =
    word_of-page (with_word_at F place value) page ∙ ap or_zero entries ∙ sym (word_of-page F page) in
    let was : is_valid (word_of F (page_address page)) ≡ true = ap is_valid (sym same) ∙ valid in
    let clear_was : is_dirty (word_of F (page_address page)) ≡ false = ap is_dirty (sym same) ∙ clear in
    let its : HasFrame F page = valid_has_frame F page ok user was in
    let n : ℕ = number_of (word_of F (page_address page)) in
    let there : entry_at F.words (page_of g) ≡ Some e = sym (walk_of-entry F g) ∙ walked in
    let apart : n ≢ number_of e = λ (h : n ≡ number_of e).
    let is : page ≡ page_of g = ok.tables.frame_apart page (page_of g) (word_of F (page_address page)) e its.small (omega arith) its.there there was valid_e h in
    let word : word_of F (page_address page) ≡ e = some_same (word_of F (page_address page)) e (sym its.there ∙ ap (entry_at F.words) is ∙ there) in
    false≢true (sym clear_was ∙ ap is_dirty word ∙ dirty) in
    ap (λ (w : ℕ). page_at new (number_of w)) same
    ∙ page_at-set_other F.words place n value (frame_inside F n ok its.frame) (λ (h : place / 1024 ≡ n). apart (omega arith))
    ∙ clean page user was clear_was

no_done : (aligned : Bool) → (if aligned then false else false) ≡ true → ⊥
no_done true h = cc
no_done false h = cc

clean_written : (F : Flat) (kind : AccessKind) (g value : ℕ) (entry : Option ℕ) → IsValidFlat F → g < 2 ^ 38 → walk_of F g ≡ entry → is_write kind ≡ true → may entry kind g None ≡ true
    → AreClean F → AreClean (with_word_at F (place_in entry g) value)
clean_written F kind g value None ok small walked write done clean = absurd (no_done (is_aligned g) done)
clean_written F kind g value (Some e) ok small walked write done clean =
    clean-with_word F g e value ok small walked (done_is_valid e kind g done) (done_is_dirty e kind g write done) clean

-- ---- a page goes out

-- each page but one is clean
abbrev AreCleanBut : Flat → ℕ → Type 0
AreCleanBut F but = (page : ℕ) → page < user_pages → page ≢ but → is_valid (word_of F (page_address page)) ≡ true → is_dirty (word_of F (page_address page)) ≡ false
    → page_at F.words (number_of (word_of F (page_address page))) ≡ page_at F.swap (swap_slot_of F (page_address page))

-- that one is no more valid
clean_left : (F : Flat) (g e : ℕ) → IsValidFlat F → g < 2 ^ 38 → is_declared F g ≡ true → is_valid e ≡ false → AreCleanBut F (page_of g) → AreClean (with_entry F g e)
clean_left F g e ok small declared gone clean page user valid clear =
    let all : Entered F g e = entered F g e ok small declared in
    ⊎_elim
    (λ (is : page ≡ page_of g). absurd (false≢true (sym gone ∙ ap is_valid (sym (all.here page is)) ∙ valid)))
    (λ (apart : page ≢ page_of g).
    let same : word_of (with_entry F g e) (page_address page) ≡ word_of F (page_address page) = all.others page user apart in
    let was : is_valid (word_of F (page_address page)) ≡ true = ap is_valid (sym same) ∙ valid in
    ap (λ (w : ℕ). page_at (with_entry F g e).words (number_of w)) same
    ∙ all.words (number_of (word_of F (page_address page))) (valid_has_frame F page ok user was).frame.low
    ∙ clean page user apart was (ap is_dirty (sym same) ∙ clear))
    (cases_eq page (page_of g))

-- its slot is written, and the slots of the others are what they were
clean_saved : (F : Flat) (g : ℕ) → IsValidFlat F → g < 2 ^ 38 → is_declared F g ≡ true → IsDataFrame F.tables F.frames (number_of (word_of F g)) → AreClean F
    → AreCleanBut (written F g (word_of F g)) (page_of g)
clean_saved F g ok small declared frame clean page user apart valid clear =
    let its : HasFrame F page = valid_has_frame F page ok user valid in
    let n : ℕ = number_of (word_of F g) in
    let at : page_of (page_address page) ≡ page = page_of-address page in
    let put : IsPut F.swap (page_at F.words n) (swap_slot_of F g) = record { within = slot_inside F g ok small declared; long = page_long F.words n (frame_inside F n ok frame) } in
    let u : page < 255 * 2 ^ 18 = user in
    let swap : length F.swap ≡ 1024 * length F.pages = ok.swap in
    let found : list_any (λ (q : ℕ). q == page) F.pages ≡ true = list_any_at (λ (q : ℕ). q == page) F.pages its.declared.position 0 its.declared.within (eq-eqb (slice_index F.pages its.declared.position) page its.declared.is) in
    let below : position_in F.pages page < length F.pages = (is_at_position F.pages page found).within in
    let slot : swap_slot_of F (page_address page) ≡ position_in F.pages page = ap (position_in F.pages) at in
    clean page user valid clear
    ∙ sym (page_other F.swap (page_at F.words n) (swap_slot_of F g) (swap_slot_of F (page_address page)) put (omega arith) (slots_apart F g page declared its.declared apart))

clean-gone_out : (F : Flat) (g : ℕ) → IsValidFlat F → g < 2 ^ 38 → is_declared F g ≡ true → is_valid (word_of F g) ≡ true → AreClean F → AreClean (gone_out F g (word_of F g))
clean-gone_out F g ok small declared valid clean =
    let e : ℕ = swapped_of (swap_slot_of F g) (protection_of (word_of F g)) in
    let gone : is_valid e ≡ false = is_valid-swapped (swap_slot_of F g) (protection_of (word_of F g)) in
    let has = declared_stands F g ok small declared in
    let frame : IsDataFrame F.tables F.frames (number_of (word_of F g)) = ok.tables.frame (page_of g) (word_of F g) (omega arith) has.there valid in
    either (λ (G : Flat). AreClean (with_entry G g e)) (is_dirty (word_of F g)) (written F g (word_of F g)) F
    (clean_left (written F g (word_of F g)) g e (valid-written F g ok small declared valid) small declared gone (clean_saved F g ok small declared frame clean))
    (clean_left F g e ok small declared gone
    (λ (page : ℕ) (user : page < user_pages) (apart : page ≢ page_of g) (v : is_valid (word_of F (page_address page)) ≡ true) (c : is_dirty (word_of F (page_address page)) ≡ false). clean page user v c))

-- ---- a page comes in

clean-come_in : (F : Flat) (g frame : ℕ) → IsValidFlat F → g < 2 ^ 38 → is_declared F g ≡ true → is_free_frame F frame ≡ true → AreClean F → AreClean (come_in F g (word_of F g) frame)
clean-come_in F g frame ok small declared free clean page user valid clear =
    let u : page < 255 * 2 ^ 18 = user in
    let is_free = free_frame F frame free in
    let G : Flat = page_loaded F g frame in
    let e : ℕ = brought_entry frame (word_of F g) in
    let part : List ℕ = page_at F.swap (swap_slot_of F g) in
    let all : Entered G g e = entered G g e (valid-loaded F g frame ok small declared free) small declared in
    let put : IsPut F.words part frame = record { within = frame_inside F frame ok is_free.among; long = page_long F.swap (swap_slot_of F g) (slot_inside F g ok small declared) } in
    ⊎_elim
    (λ (is : page ≡ page_of g).
    ap (λ (w : ℕ). page_at (with_entry G g e).words (number_of w)) (all.here page is)
    ∙ ap (page_at (with_entry G g e).words) (number_of-resident frame (protection_of (word_of F g)))
    ∙ all.words frame is_free.among.low
    ∙ page_put F.words part frame put
    ∙ ap (λ (q : ℕ). page_at F.swap (position_in F.pages q)) (sym is ∙ sym (page_of-address page)))
    (λ (apart : page ≢ page_of g).
    let entries : entry_at G.words page ≡ entry_at F.words page =
    entry_at-same F.words G.words F.pages F.tables F.frames ok.tables (loaded_same F g frame ok is_free.among) page (omega arith) in
    let same : word_of (with_entry G g e) (page_address page) ≡ word_of F (page_address page) =
    all.others page user apart ∙ word_of-page G page ∙ ap or_zero entries ∙ sym (word_of-page F page) in
    let was : is_valid (word_of F (page_address page)) ≡ true = ap is_valid (sym same) ∙ valid in
    let its : HasFrame F page = valid_has_frame F page ok user was in
    let n : ℕ = number_of (word_of F (page_address page)) in
    ap (λ (w : ℕ). page_at (with_entry G g e).words (number_of w)) same
    ∙ all.words n its.frame.low
    ∙ page_other F.words part frame n put (frame_inside F n ok its.frame) (none_has F frame page (word_of F (page_address page)) ok is_free its.small its.there was)
    ∙ clean page user was (ap is_dirty (sym same) ∙ clear))
    (cases_eq page (page_of g))

-- ---- the laws

pub stays-clean : StaysClean
stays-clean F (Load board at value) ok clean small allowed = clean
stays-clean F (Store board at value) ok clean small allowed = clean_written F access.Store at value (walk_of F at) ok small refl refl allowed clean
stays-clean F (Tas board at old) ok clean small allowed = clean_written F access.Tas at 1 (walk_of F at) ok small refl refl allowed.0 clean
stays-clean F (Fault board kind access at) ok clean small allowed = clean
stays-clean F (Fill board layer need at) ok clean small allowed = clean
stays-clean F (Claim board at) ok clean small allowed = clean
stays-clean F (WriteBack board at) ok clean small allowed = clean
stays-clean F (Refresh board at) ok clean small allowed = clean
stays-clean F (BlockFlush board holder at) ok clean small allowed = clean
stays-clean F (Leave board at) ok clean small allowed =
    clean-with_entry_bit F at 6 true ok small allowed.declared leaving_flag (λ (d : is_dirty (word_of F at) ≡ true). flag-with_other (word_of F at) 6 2 true (λ h. cc) ∙ d) clean
stays-clean F (PageOut board at) ok clean small allowed = clean-gone_out F at ok small allowed.declared (first_true _ _ allowed.entry) clean
stays-clean F (PageIn board at frame) ok clean small allowed = clean-come_in F at frame ok small allowed.0.declared allowed.1 clean
stays-clean F (SetRef board at) ok clean small allowed =
    clean-with_entry_bit F at 1 true ok small allowed.declared referenced_flag (λ (d : is_dirty (word_of F at) ≡ true). flag-with_other (word_of F at) 1 2 true (λ h. cc) ∙ d) clean
stays-clean F (SetDirty board at) ok clean small allowed =
    clean-with_entry_bit F at 2 true ok small allowed.declared dirty_flag (λ (d : is_dirty (word_of F at) ≡ true). flag-with_same (word_of F at) 2 true) clean
stays-clean F (ClearRef board at) ok clean small allowed =
    clean-with_entry_bit F at 1 false ok small allowed.declared referenced_flag (λ (d : is_dirty (word_of F at) ≡ true). flag-with_other (word_of F at) 1 2 false (λ h. cc) ∙ d) clean

pub legal-stays-clean : LegalStaysClean
legal-stays-clean F [] ok clean small legal = clean
legal-stays-clean F (entry ∷ rest) ok clean small legal =
    let IsSmall : Entry → Type 0 = λ e. address_of e < 2 ^ 38 in
    let first : address_of entry < 2 ^ 38 = first_of_all IsSmall entry rest small in
    legal-stays-clean (on F entry) rest (stays-valid F entry ok first legal.0) (stays-clean F entry ok clean first legal.0) (rest_of_all IsSmall entry rest small) legal.1

pub none-valid-is-clean : NoneValidIsClean
none-valid-is-clean F none page user valid clear = absurd (false≢true (sym (none page user) ∙ valid))
