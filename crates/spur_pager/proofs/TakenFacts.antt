-- A page came into a frame: the frame table with that frame taken is that of the pages, and clean pages have the words of
-- their slots.
use Rattle.std.proofs.Common.{◌≡◌, ◌≢◌, ◌∙◌, ℕ, ◌+◌, ◌-◌, ◌<◌, ◌≤◌, ⊎_elim, true, false, ap, sym, refl, subst, List, length, Some, None, arith}
use Rattle.std.specs.Prelude.{IsSome}
use Rattle.std.proofs.lemmas.Bool.{cases_eq, false≢true}
use Rattle.std.proofs.lemmas.List.{get_or-set_other, get_or-set_same, length-set}
use Rattle.spur_addr.specs.Address.{page_of, table_start, page_address, user_pages}
use Rattle.spur_addr.specs.PageEntry.{is_dirty, is_leaving, is_on_swap, is_valid, number_of, protection_of}
use Rattle.spur_addr.proofs.EntryFacts.{is_leaving-resident, is_valid-resident, number_of-resident}
use Rattle.spur_flat.specs.declared.flat.Flat.{Flat}
use Rattle.spur_flat.specs.Pager.{is_declared, position_in, swap_slot_of, word_of, brought_entry}
use Rattle.spur_addr.specs.Pages.{page_at}
use Rattle.spur_flat.specs.Validity.{IsDataFrame, IsDeclared, IsValidFlat}
use Rattle.spur_flat.proofs.PagerFacts.{declared_stands, frame_inside}
use Rattle.spur_frames.specs.Frames.{AreFrames, Frames, IsFrame, IsFree, holder_of, take_frame}
use Rattle.spur_frames.specs.Clock.{page_held, page_of_frame}
use Rattle.spur_pager.specs.Service.{slot_held}
use Rattle.spur_pager.specs.Stand.{AreFramed, FrameHolds}
use Rattle.spur_flat.specs.Clean.{AreClean}
use Rattle.spur_pager.proofs.EntryFacts.{Entries, IsAbove, above, data_frame, entries, leaving_page, leaving_taken, page_again, page_user, small_user}
use Rattle.spur_pager.proofs.LoadFacts.{MayPut, entry_kept, put, put_is, valid_put}
use Rattle.spur_pager.proofs.OptionFacts.{some_not_none}
use Rattle.spur_flat.proofs.PageWordFacts.{page_put, page_other}
use Rattle.spur_pager.proofs.PlaceFacts.{placed}
use Rattle.spur_pager.proofs.SpareFacts.{free_apart, free_data, swapped_declared}

-- what is known of the page and of the frame before
pub record MayTake (F : Flat) (frames : Frames) (frame page : ℕ) : Type 0 where
  pub valid : IsValidFlat F
  pub framed : AreFramed F frames
  pub free : IsFree frames frame
  pub small : page < user_pages
  pub absent : is_valid (word_of F (page_address page)) ≡ false
  pub on_swap : is_on_swap (word_of F (page_address page)) ≡ true

-- what other frames hold
other_held : (frames : Frames) (frame page slot other : ℕ) → frames.first ≤ frame → frames.first ≤ other → other ≢ frame → holder_of (take_frame frames frame page slot) other ≡ holder_of frames other
other_held frames frame page slot other low low_other apart =
    get_or-set_other frames.held (frame - frames.first) (other - frames.first) (Some (page, slot)) None (λ (same : other - frames.first ≡ frame - frames.first). let is : other ≡ frame = omega arith in apart is)

this_held : (frames : Frames) (frame page slot : ℕ) → IsFree frames frame → holder_of (take_frame frames frame page slot) frame ≡ Some (page, slot)
this_held frames frame page slot free =
    let low : frames.first ≤ frame = free.low in
    let high : frame < frames.first + length frames.held = free.high in
    get_or-set_same frames.held (frame - frames.first) (Some (page, slot)) None (omega arith)

-- the leaving frame is a taken one, and so another
record IsStaying (frames : Frames) (frame other : ℕ) : Type 0 where
  pub low : frames.first ≤ other
  pub apart : other ≢ frame
  pub is : IsFrame frames other
  pub some : IsSome (holder_of frames other)

staying : (frames : Frames) (frame other : ℕ) → AreFrames frames → IsFree frames frame → frames.leaving ≡ Some other → IsStaying frames frame other
staying frames frame other table free is =
    let t = leaving_taken frames other table is in
    record {
      low = t.low;
      apart = λ (same : other ≡ frame). some_not_none (holder_of frames other) t.taken (ap (holder_of frames) same ∙ free.free);
      is = record { low = t.low; high = t.high };
      some = t.taken;
    }

module _ (F : Flat) (frames : Frames) (frame page : ℕ) (words : List ℕ) (long : length words ≡ 1024) (may : MayTake F frames frame page) where
  abbrev pub g : ℕ
  g = page_address page

  abbrev pub new : ℕ
  new = brought_entry frame (word_of F (page_address page))

  abbrev pub now : Flat
  now = placed (put F frame words) (page_address page) new

  pub user : g < table_start
  user = page_user page may.small

  pub declared : is_declared F g ≡ true
  declared = swapped_declared F g may.valid user may.on_swap

  pub may_put : MayPut F frame words
  may_put = record { valid = may.valid; among = free_data F frames frame may.framed may.free; long = long }

  pub is_above : IsAbove (put F frame words) g
  is_above = above (put F frame words) g (valid_put F frame words may_put) user declared

  all : Entries (put F frame words) g new
  all = entries (put F frame words) g new is_above

  here_page : page ≡ page_of g
  here_page = sym (page_again page)

  pub here : word_of now g ≡ new
  here = all.here page may.small here_page

  pub other : (p : ℕ) → p < user_pages → p ≢ page → word_of now (page_address p) ≡ word_of F (page_address p)
  other p small apart =
      all.others p small (λ (same : p ≡ page_of g). apart (same ∙ page_again page)) ∙ entry_kept F frame words may_put (page_address p) (small_user (page_address p) (page_user p small))

  in_table : (n : ℕ) → IsDataFrame F.tables F.frames n → frames.first ≤ n
  in_table n among =
      let first : frames.first ≡ 64 + F.tables = may.framed.first in
      let low : 64 + F.tables ≤ n = among.low in
      omega arith

  new_valid : is_valid new ≡ true
  new_valid = is_valid-resident frame (protection_of (word_of F (page_address page)))

  new_number : number_of new ≡ frame
  new_number = number_of-resident frame (protection_of (word_of F (page_address page)))

  abbrev taken : Frames
  taken = take_frame frames frame page (position_in F.pages page)

  page_declared : IsDeclared F.pages page
  page_declared =
      let s = declared_stands F g may.valid (small_user g user) declared in
      record { position = swap_slot_of F g; within = s.within; is = s.is ∙ page_again page }

  holds_here : FrameHolds now frame page (position_in F.pages page)
  holds_here = record {
    small = may.small;
    declared = page_declared;
    slot_is = refl;
    valid = ap (λ (e : ℕ). is_valid e) here ∙ new_valid;
    number = ap (λ (e : ℕ). number_of e) here ∙ new_number;
  }

  -- a valid page is another
  apart_valid : (p : ℕ) → is_valid (word_of F (page_address p)) ≡ true → p ≢ page
  apart_valid p valid same = false≢true (sym may.absent ∙ ap (λ (q : ℕ). is_valid (word_of F (page_address q))) (sym same) ∙ valid)

  holds_other : (f p s : ℕ) → FrameHolds F f p s → FrameHolds now f p s
  holds_other f p s h =
      let e = other p h.small (apart_valid p h.valid) in
      record { small = h.small; declared = h.declared; slot_is = h.slot_is; valid = ap (λ (n : ℕ). is_valid n) e ∙ h.valid; number = ap (λ (n : ℕ). number_of n) e ∙ h.number }

  taken_is : (f p s : ℕ) → IsFrame taken f → holder_of taken f ≡ Some (p, s) → FrameHolds now f p s
  taken_is f p s is has =
      ⊎_elim
      (λ (same : f ≡ frame).
      let both : Some (page, position_in F.pages page) ≡ Some (p, s) = sym (this_held frames frame page (position_in F.pages page) may.free) ∙ ap (holder_of taken) (sym same) ∙ has in
      let p_is : page ≡ p = ap page_held both in
      let s_is : position_in F.pages page ≡ s = ap slot_held both in
      subst (λ (n : ℕ). FrameHolds now n p s) (sym same) (subst (λ (n : ℕ). FrameHolds now frame p n) s_is (subst (λ (q : ℕ). FrameHolds now frame q (position_in F.pages page)) p_is holds_here)))
      (λ (apart : f ≢ frame).
      let size : length taken.held ≡ length frames.held = length-set frames.held (frame - frames.first) (Some (page, position_in F.pages page)) in
      let high : f < frames.first + length taken.held = is.high in
      holds_other f p s (may.framed.taken f p s (record { low = is.low; high = omega arith }) (sym (other_held frames frame page (position_in F.pages page) f may.free.low is.low apart) ∙ has)))
      (cases_eq f frame)

  holds_is : (p : ℕ) → p < user_pages → is_valid (word_of now (page_address p)) ≡ true → holder_of taken (number_of (word_of now (page_address p))) ≡ Some (p, position_in F.pages p)
  holds_is p small valid =
      ⊎_elim
      (λ (same : p ≡ page).
      ap (λ (q : ℕ). holder_of taken (number_of (word_of now (page_address q)))) same ∙ ap (λ (e : ℕ). holder_of taken (number_of e)) here ∙ ap (holder_of taken) new_number
      ∙ this_held frames frame page (position_in F.pages page) may.free ∙ ap (λ (q : ℕ). Some (q, position_in F.pages q)) (sym same))
      (λ (apart : p ≢ page).
      let e = other p small apart in
      let was : is_valid (word_of F (page_address p)) ≡ true = ap (λ (n : ℕ). is_valid n) (sym e) ∙ valid in
      let n : ℕ = number_of (word_of F (page_address p)) in
      ap (λ (x : ℕ). holder_of taken (number_of x)) e
      ∙ other_held frames frame page (position_in F.pages page) n may.free.low (in_table n (data_frame F p may.valid small was)) (free_apart F frames frame p may.framed may.free small was)
      ∙ may.framed.holds p small was)
      (cases_eq p page)

  -- the page was not leaving
  was_staying : (p : ℕ) → p < user_pages → is_leaving (word_of F (page_address p)) ≡ true → p ≢ page
  was_staying p small leaving same =
      let s = declared_stands F g may.valid (small_user g user) declared in
      false≢true (sym may.absent ∙ s.stands.leaving (ap (λ (q : ℕ). is_leaving (word_of F (page_address q))) (sym same) ∙ leaving))

  leaving_is : AreFrames frames → (f : ℕ) → frames.leaving ≡ Some f → is_leaving (word_of now (page_address (page_of_frame taken f))) ≡ true
  leaving_is table f is =
      let s = staying frames frame f table may.free is in
      let p : ℕ = page_of_frame frames f in
      let small : p < user_pages = leaving_page F frames f may.framed s.is s.some in
      let was : is_leaving (word_of F (page_address p)) ≡ true = may.framed.leaving f is in
      let same : page_of_frame taken f ≡ p = ap page_held (other_held frames frame page (position_in F.pages page) f may.free.low s.low s.apart) in
      ap (λ (q : ℕ). is_leaving (word_of now (page_address q))) same ∙ ap (λ (e : ℕ). is_leaving e) (other p small (was_staying p small was)) ∙ was

  leaves_is : (p : ℕ) → p < user_pages → is_valid (word_of now (page_address p)) ≡ true → is_leaving (word_of now (page_address p)) ≡ true → frames.leaving ≡ Some (number_of (word_of now (page_address p)))
  leaves_is p small valid leaving =
      ⊎_elim
      (λ (same : p ≡ page).
      absurd (false≢true (sym (is_leaving-resident frame (protection_of (word_of F (page_address page)))) ∙ ap (λ (e : ℕ). is_leaving e) (sym here) ∙ ap (λ (q : ℕ). is_leaving (word_of now (page_address q))) (sym same) ∙ leaving)))
      (λ (apart : p ≢ page).
      let e = other p small apart in
      may.framed.leaves p small (ap (λ (n : ℕ). is_valid n) (sym e) ∙ valid) (ap (λ (n : ℕ). is_leaving n) (sym e) ∙ leaving) ∙ ap (λ (n : ℕ). Some (number_of n)) (sym e))
      (cases_eq p page)

  -- the frame table is that of the pages
  pub framed_taken : AreFrames frames → AreFramed now taken
  framed_taken table = record {
    first = may.framed.first;
    count = length-set frames.held (frame - frames.first) (Some (page, position_in F.pages page)) ∙ may.framed.count;
    taken = taken_is;
    holds = holds_is;
    leaving = leaving_is table;
    leaves = leaves_is;
  }

  data_kept : (n : ℕ) → IsDataFrame F.tables F.frames n → n ≢ frame → page_at now.words n ≡ page_at F.words n
  data_kept n among apart = all.data_words n among.low ∙ page_other F.words words frame n (put_is F frame words may_put) (frame_inside F n may.valid among) apart

  -- and clean pages have the words of their slots, where the words are those of the page's slot
  pub clean_taken : words ≡ page_at F.swap (swap_slot_of F g) → AreClean F → AreClean now
  clean_taken words_are clean p small valid clear =
      ⊎_elim
      (λ (same : p ≡ page).
      ap (λ (q : ℕ). page_at now.words (number_of (word_of now (page_address q)))) same ∙ ap (λ (e : ℕ). page_at now.words (number_of e)) here ∙ ap (page_at now.words) new_number
      ∙ all.data_words frame may_put.among.low ∙ page_put F.words words frame (put_is F frame words may_put) ∙ words_are ∙ ap (λ (q : ℕ). page_at F.swap (swap_slot_of F (page_address q))) (sym same))
      (λ (apart : p ≢ page).
      let e = other p small apart in
      let was : is_valid (word_of F (page_address p)) ≡ true = ap (λ (n : ℕ). is_valid n) (sym e) ∙ valid in
      let n : ℕ = number_of (word_of F (page_address p)) in
      ap (λ (x : ℕ). page_at now.words (number_of x)) e
      ∙ data_kept n (data_frame F p may.valid small was) (free_apart F frames frame p may.framed may.free small was)
      ∙ clean p small was (ap (λ (x : ℕ). is_dirty x) (sym e) ∙ clear))
      (cases_eq p page)
