-- A page goes out: what stands then is what its entry of the history makes of what stood.
use Rattle.std.proofs.Common.{◌≡◌, ◌≢◌, ◌∙◌, ℕ, ◌+◌, ◌*◌, ◌^◌, ◌<◌, ◌≤◌, Bool, true, false, if◌then◌else◌, ap, sym, refl, subst, List, [], ◌∷◌, ◌++◌, length, slice_set, Option, Some, None, arith}
use Rattle.std.specs.Prelude.{IsSome}
use Rattle.spur_addr.specs.Address.{page_of, table_start, page_address, user_pages}
use Rattle.spur_addr.specs.PageEntry.{is_dirty, is_leaving, is_valid, number_of, protection_of, swapped_of}
use Rattle.spur_addr.proofs.EntryFacts.{is_valid-swapped}
use Rattle.spur_flat.specs.declared.flat.Flat.{Flat}
use Rattle.spur_flat.specs.declared.entry.Entry.TheVariants.{PageOut}
use Rattle.spur_flat.specs.History.{on}
use Rattle.spur_flat.specs.Pager.{entry_place, is_declared, position_in, swap_slot_of, word_of}
use Rattle.spur_addr.specs.Pages.{page_at, with_page}
use Rattle.spur_flat.specs.Untold.{IsLike}
use Rattle.spur_flat.specs.Validity.{IsDataFrame, IsValidFlat}
use Rattle.spur_flat.proofs.PagerFacts.{frame_inside, page_long, slot_inside, valid-gone_out}
use Rattle.spur_swap.specs.Told.{told_with}
use Rattle.spur_frames.specs.Frames.{Frames, IsFrame, IsTaken, release_frame}
use Rattle.spur_bus.specs.Logical.{logical_words}
use Rattle.spur_bus.proofs.WordsFacts.{length-logical}
use Rattle.spur_walk.specs.Tables.{logical_flat}
use Rattle.spur_walk.proofs.TableFacts.{has_own}
use Rattle.spur_walk.proofs.ValidFacts.{like-tables}
use Rattle.spur_pager.specs.declared.change.Change.TheVariants.{Out}
use Rattle.spur_pager.specs.View.{View}
use Rattle.spur_pager.specs.Stand.{AreFramed, FrameHolds, Stands, entry_in, standing_flat, with_told}
use Rattle.spur_flat.specs.Clean.{AreClean}
use Rattle.spur_pager.specs.Acts.{page_out}
use Rattle.spur_pager.specs.Changes.{Changes, changed_word}
use Rattle.spur_pager.specs.Moves.{GoesOut, MayGoOut}
use Rattle.spur_pager.specs.Runs.{Runs}
use Rattle.spur_pager.specs.Served.{hold_of, tells}
use Rattle.spur_pager.proofs.CarryFacts.{IsPagers}
use Rattle.spur_pager.proofs.ChangeFacts.{ready_has}
use Rattle.spur_pager.proofs.EntryFacts.{Entries, IsAbove, above, data_frame, entries, page_again, page_user, small_user, valid_declared}
use Rattle.spur_pager.proofs.FrameWordFacts.{frame_words, unheld_bare}
use Rattle.spur_pager.proofs.HolderFacts.{out_pager}
use Rattle.spur_pager.proofs.JoinFacts.{told_again}
use Rattle.spur_pager.proofs.LookFacts.{room_used}
use Rattle.spur_pager.proofs.MadeFacts.{changes_made}
use Rattle.spur_flat.proofs.FormedFacts.{page_address_starts}
use Rattle.spur_pager.proofs.MoveFacts.{unheld_still}
use Rattle.spur_pager.proofs.MovedFacts.{IsMoved, moved-is-carried, moved-keeps}
use Rattle.spur_flat.proofs.PageWordFacts.{IsPut, page_other}
use Rattle.spur_pager.proofs.PlaceFacts.{placed}
use Rattle.spur_pager.proofs.ReleaseFacts.{IsLeft, framed_out, framed_swap}
use Rattle.spur_pager.proofs.RunFacts.{done_one, new_flat, past_of}
use Rattle.spur_pager.proofs.SlotFacts.{declared_within, positions_apart}
use Rattle.std.proofs.lemmas.Bool.{and_from, false≢true}

-- the told pages after a page of this frame was written to a slot, where it was
abbrev pub told_if : Bool → Option (List ℕ) → ℕ → List ℕ → Option (List ℕ)
told_if dirty pages slot page = if dirty then told_with pages slot page else pages

-- the page was written to its slot where it was dirty, and the frame is free
pub record IsSaved (frame page slot : ℕ) (w v : View) : Type 0 where
  pub pages : v.pages ≡ told_if (is_dirty (entry_in w page)) w.pages slot (page_at w.memory frame)
  pub slots : v.slots ≡ w.slots
  pub ahead : v.ahead ≡ w.ahead
  pub frames : v.frames ≡ release_frame w.frames frame

with_told_is : (rest : Flat) (p : Option (List ℕ)) → with_told rest p ≡ record rest { swap = (with_told rest p).swap }
with_told_is rest None = refl
with_told_is rest (Some words) = refl

-- the swapped words, by whether the page was written
swap_if : (d : Bool) (rest : Flat) (words : List ℕ) (slot : ℕ) (page : List ℕ) → (with_told rest (told_if d (Some words) slot page)).swap ≡ (if d then with_page words slot page else words)
swap_if true rest words slot page = refl
swap_if false rest words slot page = refl

saved_if : (d : Bool) (F : Flat) (swap : List ℕ) → (if d then record F { swap = swap } else F) ≡ record F { swap = if d then swap else F.swap }
saved_if true F swap = refl
saved_if false F swap = refl

tells_if : (d : Bool) (p : Option (List ℕ)) (slot : ℕ) (page : List ℕ) → tells (told_if d p slot page) ≡ tells p
tells_if true None slot page = refl
tells_if true (Some words) slot page = refl
tells_if false p slot page = refl

-- a page in the place of another's leaves those of other slots
either_other : (d : Bool) (words page : List ℕ) (a b : ℕ) → IsPut words page a → b * 1024 + 1024 ≤ length words → b ≢ a → page_at (if d then with_page words a page else words) b ≡ page_at words b
either_other true words page a b put inside apart = page_other words page a b put inside apart
either_other false words page a b put inside apart = refl

module _ (w : View) (b frame page slot : ℕ) (may : MayGoOut w b frame page slot) where
  abbrev pub g : ℕ
  g = page_address page

  abbrev new : ℕ
  new = swapped_of slot (protection_of (entry_in w page))

  -- what is known of the page, for any declared pages for which the state stands
  pub holds : (rest : Flat) → Stands rest w → FrameHolds (standing_flat rest w) frame page slot
  holds rest st = st.framed.taken frame page slot may.is_frame may.held

  pub user : g < table_start
  user = page_user page may.leaving.small

  pub small : g < 2 ^ 38
  small = small_user g user

  declared : (rest : Flat) → Stands rest w → is_declared (standing_flat rest w) g ≡ true
  declared rest st = valid_declared (standing_flat rest w) g st.valid user may.leaving.valid

  is_above : (rest : Flat) → Stands rest w → IsAbove (standing_flat rest w) g
  is_above rest st = above (standing_flat rest w) g st.valid user (declared rest st)

  pub taken : IsTaken w.frames frame
  taken = record { low = may.is_frame.low; high = may.is_frame.high; taken = subst (λ (o : Option (ℕ × ℕ)). IsSome o) (sym may.held) refl }

  slot_is : (rest : Flat) → Stands rest w → slot ≡ swap_slot_of (standing_flat rest w) g
  slot_is rest st = (holds rest st).slot_is ∙ ap (position_in (standing_flat rest w).pages) (sym (page_again page))

  same_pages : (rest : Flat) → (standing_flat rest w).pages ≡ rest.pages
  same_pages rest = ap (λ (R : Flat). R.pages) (with_told_is rest w.pages)

  pub slot_within : (rest : Flat) → Stands rest w → slot < w.slots
  slot_within rest st =
      let F : Flat = standing_flat rest w in
      let h = holds rest st in
      let below : position_in F.pages page < length F.pages = declared_within F.pages page h.declared in
      subst (λ (n : ℕ). n < w.slots) (sym h.slot_is) (subst (λ (n : ℕ). position_in F.pages page < n) (ap (λ (ps : List ℕ). length ps) (same_pages rest) ∙ sym st.slots) below)

  pub slot_small : (rest : Flat) → Stands rest w → slot < 2 ^ 20
  slot_small rest st =
      let F : Flat = standing_flat rest w in
      let h = holds rest st in
      let below : position_in F.pages page < length F.pages = declared_within F.pages page h.declared in
      let few : length F.pages ≤ 2048 = st.valid.few_pages in
      let is : slot ≡ position_in F.pages page = h.slot_is in
      omega arith

  pub frame_within : (rest : Flat) → Stands rest w → frame * 1024 + 1024 ≤ length w.memory
  frame_within rest st =
      let F : Flat = standing_flat rest w in
      let h = holds rest st in
      let inside : number_of (word_of F g) * 1024 + 1024 ≤ length F.words = frame_inside F (number_of (word_of F g)) st.valid (data_frame F page st.valid may.leaving.small may.leaving.valid) in
      let number : number_of (word_of F g) ≡ frame = h.number in
      let long : length F.words ≡ length w.memory = length-logical w.caches w.memory in
      omega arith

  -- the frame has the words that memory has there
  page_words : (rest : Flat) → Stands rest w → page_at (standing_flat rest w).words frame ≡ page_at w.memory frame
  page_words rest st = frame_words w.caches w.memory frame (unheld_bare (hold_of w) g frame st.walk user may.leaving.valid (holds rest st).number may.unheld) (frame_within rest st)

  -- a data frame is one of the table's
  its_frame : (rest : Flat) → Stands rest w → (n : ℕ) → IsDataFrame (standing_flat rest w).tables (standing_flat rest w).frames n → IsFrame w.frames n
  its_frame rest st n among =
      let F : Flat = standing_flat rest w in
      let first : w.frames.first ≡ 64 + F.tables = st.framed.first in
      let count : length w.frames.held ≡ F.frames = st.framed.count in
      let low : 64 + F.tables ≤ n = among.low in
      let high : n < 64 + F.tables + F.frames = among.high in
      record { low = omega arith; high = omega arith }

  module _ (v : View) (saved_as : IsSaved frame page slot w v) (c : Changes b g (Out slot) (hold_of w) (past_of w) (hold_of v) (past_of v)) where
    pub flat_is : (rest : Flat) → standing_flat rest v ≡ record (placed (standing_flat rest w) g new) { swap = (standing_flat rest v).swap }
    flat_is rest =
        let swap : List ℕ = (with_told rest v.pages).swap in
        ap (λ (R : Flat). record R { words = logical_words v.caches v.memory }) (with_told_is rest v.pages)
        ∙ ap (λ (ws : List ℕ). record rest { swap = swap; words = ws }) (new_flat w v b g (Out slot) c)
        ∙ sym (ap (λ (R : Flat). record R { swap = swap; words = slice_set (logical_words w.caches w.memory) (entry_place (logical_flat w.caches w.memory) g) new }) (with_told_is rest w.pages))

    -- the swapped words that `PageOut` makes
    abbrev swap_after : Flat → List ℕ
    swap_after F = if is_dirty (word_of F g) then with_page F.swap (swap_slot_of F g) (page_at F.words (number_of (word_of F g))) else F.swap

    swap_is : (rest : Flat) (words : List ℕ) → Stands rest w → w.pages ≡ Some words → (standing_flat rest v).swap ≡ swap_after (standing_flat rest w)
    swap_is rest words st is =
        let F : Flat = standing_flat rest w in
        let d : Bool = is_dirty (entry_in w page) in
        let h = holds rest st in
        let put : List ℕ = page_at w.memory frame in
        let had : words ≡ F.swap = sym (ap (λ (p : Option (List ℕ)). (with_told rest p).swap) is) in
        let words_is : put ≡ page_at F.words (number_of (word_of F g)) = sym (page_words rest st) ∙ ap (page_at F.words) (sym h.number) in
        ap (λ (p : Option (List ℕ)). (with_told rest p).swap) (saved_as.pages ∙ ap (λ (p : Option (List ℕ)). told_if d p slot put) is)
        ∙ swap_if d rest words slot put
        ∙ ap (λ (ws : List ℕ). if d then with_page ws slot put else ws) had
        ∙ ap (λ (n : ℕ). if d then with_page F.swap n put else F.swap) (slot_is rest st)
        ∙ ap (λ (ps : List ℕ). if d then with_page F.swap (swap_slot_of F g) ps else F.swap) words_is

    on_is : (rest : Flat) → Stands rest w → on (standing_flat rest w) (PageOut b g) ≡ record (placed (standing_flat rest w) g new) { swap = swap_after (standing_flat rest w) }
    on_is rest st =
        let F : Flat = standing_flat rest w in
        let e : ℕ = word_of F g in
        ap (λ (G : Flat). placed G g (swapped_of (swap_slot_of F g) (protection_of e))) (saved_if (is_dirty e) F (with_page F.swap (swap_slot_of F g) (page_at F.words (number_of e))))
        ∙ ap (λ (n : ℕ). record (placed F g (swapped_of n (protection_of e))) { swap = swap_after F }) (sym (slot_is rest st))

    told : (rest : Flat) (words : List ℕ) → Stands rest w → w.pages ≡ Some words → standing_flat rest v ≡ on (standing_flat rest w) (PageOut b g)
    told rest words st is =
        flat_is rest ∙ ap (λ (ws : List ℕ). record (placed (standing_flat rest w) g new) { swap = ws }) (swap_is rest words st is) ∙ sym (on_is rest st)

    like : (rest : Flat) → Stands rest w → IsLike (on (standing_flat rest w) (PageOut b g)) (standing_flat rest v)
    like rest st =
        let F : Flat = standing_flat rest w in
        let valid : IsValidFlat (record (placed F g new) { swap = swap_after F }) = subst IsValidFlat (on_is rest st) (valid-gone_out F g st.valid small (declared rest st) may.leaving.valid) in
        subst (λ (G : Flat). IsLike G (standing_flat rest v)) (sym (on_is rest st))
        (subst (λ (G : Flat). IsLike (record (placed F g new) { swap = swap_after F }) G) (sym (flat_is rest))
        (record { pages = refl; tables = refl; frames = refl; words = refl; table = refl; swap = valid.swap }))

    framed : (rest : Flat) → Stands rest w → AreFramed (standing_flat rest v) v.frames
    framed rest st =
        let F : Flat = standing_flat rest w in
        let left : IsLeft F w.frames frame page slot new = record {
          is_frame = may.is_frame;
          held = may.held;
          holds = holds rest st;
          leaving = may.leaving.leaving;
          new_valid = is_valid-swapped slot (protection_of (entry_in w page));
        } in
        let after : AreFramed (placed F g new) (release_frame w.frames frame) = framed_out F w.frames frame page slot new (is_above rest st) left st.framed in
        subst (λ (fs : Frames). AreFramed (standing_flat rest v) fs) (sym saved_as.frames)
        (subst (λ (G : Flat). AreFramed G (release_frame w.frames frame)) (sym (flat_is rest)) (framed_swap (placed F g new) (standing_flat rest v).swap (release_frame w.frames frame) after))

    same_tells : tells v.pages ≡ tells w.pages
    same_tells = ap tells saved_as.pages ∙ tells_if (is_dirty (entry_in w page)) w.pages slot (page_at w.memory frame)

    -- each other page that is clean has the words of its slot
    clean_out : (rest : Flat) → Stands rest w → AreClean (standing_flat rest w) → AreClean (record (placed (standing_flat rest w) g new) { swap = swap_after (standing_flat rest w) })
    clean_out rest st clean p small_p valid clear =
        let F : Flat = standing_flat rest w in
        let e : Entries F g new = entries F g new (is_above rest st) in
        let apart : p ≢ page_of g = λ (same : p ≡ page_of g).
        false≢true (sym (is_valid-swapped slot (protection_of (entry_in w page))) ∙ ap (λ (n : ℕ). is_valid n) (sym (e.here p small_p same)) ∙ valid) in
        let word : word_of (placed F g new) (page_address p) ≡ word_of F (page_address p) = e.others p small_p apart in
        let was : is_valid (word_of F (page_address p)) ≡ true = ap (λ (n : ℕ). is_valid n) (sym word) ∙ valid in
        let its = data_frame F p st.valid small_p was in
        let k = st.framed.taken (number_of (word_of F (page_address p))) p (position_in F.pages p) (its_frame rest st (number_of (word_of F (page_address p))) its) (st.framed.holds p small_p was) in
        let slots : swap_slot_of F (page_address p) ≢ swap_slot_of F g = λ (same : swap_slot_of F (page_address p) ≡ swap_slot_of F g).
        positions_apart F.pages page p (holds rest st).declared k.declared (λ (h : page ≡ p). apart (sym h ∙ sym (page_again page)))
        (ap (position_in F.pages) (sym (page_again page)) ∙ sym same ∙ ap (position_in F.pages) (page_again p)) in
        let its_slot : swap_slot_of F (page_address p) * 1024 + 1024 ≤ length F.swap =
        slot_inside F (page_address p) st.valid (small_user (page_address p) (page_user p small_p)) (valid_declared F (page_address p) st.valid (page_user p small_p) was) in
        let put : IsPut F.swap (page_at F.words (number_of (word_of F g))) (swap_slot_of F g) = record {
          within = slot_inside F g st.valid small (declared rest st);
          long = page_long F.words (number_of (word_of F g)) (frame_inside F (number_of (word_of F g)) st.valid (data_frame F page st.valid may.leaving.small may.leaving.valid));
        } in
        ap (λ (n : ℕ). page_at (placed F g new).words (number_of n)) word
        ∙ e.data_words (number_of (word_of F (page_address p))) its.low
        ∙ clean p small_p was (ap (λ (n : ℕ). is_dirty n) (sym word) ∙ clear)
        ∙ sym (either_other (is_dirty (word_of F g)) F.swap (page_at F.words (number_of (word_of F g))) (swap_slot_of F g) (swap_slot_of F (page_address p)) put its_slot slots)

    clean : (rest : Flat) (words : List ℕ) → Stands rest w → v.pages ≡ Some words → AreClean (standing_flat rest v)
    clean rest words st is =
        let t = told_again v.pages w.pages words (sym same_tells) is in
        subst AreClean (sym (told rest t.words st t.is ∙ on_is rest st)) (clean_out rest st (st.clean t.words t.is))

    mid_within : b < length c.mid.caches
    mid_within = subst (λ (n : ℕ). b < n) (sym c.leads.boards) may.within

    mid_pager : IsPagers b g c.mid (PageOut b g)
    mid_pager = out_pager b g c.mid mid_within user (ready_has c.mid.caches c.mid.memory b g c.fetch.ready) (unheld_still b g (hold_of w) c.mid c.fetched c.leads may.unheld)

    moved : IsMoved b g (Out slot) w v (hold_of w) c
    moved = record {
      within = may.within;
      caches = refl;
      size = refl;
      tables = λ (rest : Flat) (st : Stands rest w). has_own (standing_flat rest w);
      like_tables = λ (rest F : Flat) (st : Stands rest w) (l : IsLike F (standing_flat rest w)). like-tables (with_told rest w.pages) F w.caches w.memory st.valid l;
      present = λ (rest : Flat) (st : Stands rest w). st.present;
      pager = mid_pager;
      allowed = λ (rest : Flat) (st : Stands rest w). record { declared = declared rest st; entry = and_from (is_valid (entry_in w page)) (is_leaving (entry_in w page)) may.leaving.valid may.leaving.leaving };
      told = told;
      like = like;
      framed = framed;
      clean = clean;
      slots = saved_as.slots;
      ahead = saved_as.ahead;
      tells = same_tells;
    }

    run : Runs b (page_out b page slot ∷ []) w v
    run = record {
      piece = c.fetched ++ PageOut b g ∷ [];
      history = c.entries;
      room = c.room;
      done = done_one b g (PageOut b g) (changed_word (Out slot)) (hold_of w) c.mid (hold_of v) c.fetched c.fetch c.to_is;
      made = changes_made b g (Out slot) (hold_of w) (hold_of v) (past_of w) (past_of v) may.within small (page_address_starts page) c;
      keeps = moved-keeps b g (Out slot) w v (hold_of w) c moved;
      carries = moved-is-carried b g (Out slot) w v (hold_of w) c moved;
    }

    pub goes_out : (rest : Flat) → Stands rest w → GoesOut b frame page slot w v
    goes_out rest st =
        let F : Flat = standing_flat rest w in
        let e : Entries F g new = entries F g new (is_above rest st) in
        record {
          runs = run;
          frames = saved_as.frames;
          room = room_used b g (hold_of w) (hold_of v) (past_of w) (past_of v) (Out slot) c;
          word = ap (λ (G : Flat). word_of G g) (flat_is rest) ∙ e.here page may.leaving.small (sym (page_again page));
          others = λ (other : ℕ) (low : other < user_pages) (apart : other ≢ page).
              ap (λ (G : Flat). word_of G (page_address other)) (flat_is rest) ∙ e.others other low (λ (same : other ≡ page_of g). apart (same ∙ page_again page));
          exclusive = c.writes.exclusive;
        }
