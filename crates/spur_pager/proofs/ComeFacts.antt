-- A page came in from its slot: the entries are carried, and the state stands again.
use Rattle.std.proofs.Common.{◌≡◌, ◌∙◌, ℕ, ◌+◌, ◌*◌, ◌/◌, ◌%◌, ◌<◌, ◌≤◌, ◌^◌, true, ap, sym, refl, subst, List, [], ◌∷◌, ◌++◌, length, slice_index, slice_set, take, Option, Some, None, arith}
use Rattle.std.proofs.Math.Seq.{take-set-lt}
use Rattle.std.proofs.lemmas.List.{ext_get_or, get_or-take, length-set, length-take-le}
use Rattle.spur_addr.specs.Address.{table_start, page_address}
use Rattle.spur_addr.specs.PageEntry.{is_valid, number_of}
use Rattle.spur_flat.specs.declared.flat.Flat.{Flat}
use Rattle.spur_flat.specs.declared.entry.Entry.{Entry}
use Rattle.spur_flat.specs.declared.entry.Entry.TheVariants.{PageIn}
use Rattle.spur_flat.specs.Pager.{come_in, entry_place, position_in, swap_slot_of, word_of, brought_entry}
use Rattle.spur_addr.specs.Pages.{page_at, with_page}
use Rattle.spur_flat.specs.Table.{table_words}
use Rattle.spur_flat.specs.Untold.{IsLike}
use Rattle.spur_flat.proofs.LikeFacts.{word_same}
use Rattle.spur_flat.proofs.PagerFacts.{declared_stands, frame_inside, page_long, slot_inside}
use Rattle.spur_bus.specs.Logical.{logical_words}
use Rattle.spur_bus.proofs.WordsFacts.{length-logical}
use Rattle.spur_frames.specs.Frames.{AreFrames, Frames, take_frame}
use Rattle.spur_swap.specs.Told.{IsTold}
use Rattle.spur_walk.specs.Present.{ArePresent, MayWalk}
use Rattle.spur_walk.specs.Tables.{HasTablesOf, flat_of_words, logical_flat, root_at}
use Rattle.spur_walk.proofs.StepFacts.{same_flat}
use Rattle.spur_pager.specs.declared.change.Change.TheVariants.{In}
use Rattle.spur_pager.specs.View.{View}
use Rattle.spur_pager.specs.Stand.{AreFramed, Stands, flat_in, standing_flat, with_told}
use Rattle.spur_flat.specs.Clean.{AreClean}
use Rattle.spur_pager.specs.Acts.{Hold, Loaded, Writes, loaded_hold}
use Rattle.spur_pager.specs.Changes.{Changes, MayChange, changed_word, hold_entry}
use Rattle.spur_pager.specs.Drops.{IsUnheld}
use Rattle.spur_pager.specs.Moves.{ComesIn, MayComeIn}
use Rattle.spur_pager.specs.Served.{hold_of, tells}
use Rattle.spur_pager.proofs.CarryFacts.{IsPagers}
use Rattle.spur_pager.proofs.ChangeFacts.{ready_has}
use Rattle.spur_pager.proofs.EntryFacts.{IsAbove, page_again, page_user, small_user}
use Rattle.spur_pager.proofs.FrameWordFacts.{IsBare, spare_bare}
use Rattle.spur_pager.proofs.HolderFacts.{own_state}
use Rattle.spur_pager.proofs.LoadFacts.{HasEntries, MayPut, entries_put, logical_put, present_same, put, put_is, root_kept, size_kept, size_new, spare_same, table_kept, tables_of, walks_put}
use Rattle.spur_pager.proofs.MadeFacts.{changes_made}
use Rattle.spur_flat.proofs.FormedFacts.{page_address_starts}
use Rattle.spur_pager.proofs.MoveFacts.{IsSpare, absent_unheld, in_may}
use Rattle.spur_pager.proofs.MovedFacts.{IsMoved, moved-is-carried, moved-keeps}
use Rattle.spur_flat.proofs.PageWordFacts.{IsPut}
use Rattle.spur_pager.proofs.PlaceFacts.{placed}
use Rattle.spur_pager.proofs.LookFacts.{room_used}
use Rattle.spur_pager.proofs.RunFacts.{past_of, done_one}
use Rattle.spur_pager.proofs.SpareFacts.{free_data, free_spare, in_allowed, swapped_declared, swapped_slot}
use Rattle.spur_pager.proofs.TakenFacts.{MayTake, clean_taken, framed_taken, here, is_above, may_put}
use Rattle.spur_pager.proofs.WriteFacts.{HasEntry}

-- the block of the entry is exclusive, so that the tags allow it
pub in_pager : (b g frame : ℕ) (mid : Hold) → b < length mid.caches → g < table_start → HasEntry mid.caches b g → IsPagers b g mid (PageIn b g frame)
in_pager b g frame mid within user has = record {
  board = refl;
  role = refl;
  small = small_user g user;
  tagged = λ (F : Flat). own_state mid.caches b g within has;
  still = λ (F : Flat). refl;
}

-- the words are those of the slot, where they are told
told_words : (o : Option (List ℕ)) (pages words : List ℕ) (slot : ℕ) → o ≡ Some pages → IsTold o slot words → words ≡ page_at pages slot
told_words o pages words slot is told = subst (λ (p : Option (List ℕ)). IsTold p slot words → words ≡ page_at pages slot) (sym is) (λ (h : words ≡ page_at pages slot). h) told

-- the words of the tables, of two pages that may be put there
take_kept : (F : Flat) (frame : ℕ) (words : List ℕ) → MayPut F frame words → take (table_words F.tables) (put F frame words).words ≡ take (table_words F.tables) F.words
take_kept F frame words may =
    let n : ℕ = table_words F.tables in
    let n_is : n ≡ 1024 * (64 + F.tables) = refl in
    let one : length (put F frame words).words ≡ length F.words = size_kept F frame words may in
    let two : length F.words ≡ 1024 * (64 + F.tables + F.frames) = may.valid.words in
    let long_new : length (take n (put F frame words).words) ≡ n = length-take-le n (put F frame words).words (omega arith) in
    let long_old : length (take n F.words) ≡ n = length-take-le n F.words (omega arith) in
    ext_get_or 0 (take n (put F frame words).words) (take n F.words) (long_new ∙ sym long_old)
    (λ (k : ℕ) (small : k < length (take n (put F frame words).words)).
    let below : k < n = subst (λ (m : ℕ). k < m) long_new small in
    get_or-take n (put F frame words).words k 0 below ∙ table_kept F frame words may k below ∙ sym (get_or-take n F.words k 0 below))

like_placed : (F : Flat) (g new frame : ℕ) (p q : List ℕ) → g < table_start → MayPut F frame p → MayPut F frame q → IsAbove (put F frame p) g → IsAbove (put F frame q) g → IsLike (placed (put F frame p) g new) (placed (put F frame q) g new)
like_placed F g new frame p q user may_p may_q above_p above_q =
    let u : g < 255 * 2 ^ 30 = user in
    let small : g / 2 ^ 22 < 2 ^ 16 = omega arith in
    let n : ℕ = table_words F.tables in
    let P : Flat = put F frame p in
    let Q : Flat = put F frame q in
    let place : entry_place P g ≡ entry_place Q g =
    ap (λ (r : ℕ). number_of r * 1024 + g / 2 ^ 12 % 1024) (root_kept F frame p may_p (g / 2 ^ 22) small ∙ sym (root_kept F frame q may_q (g / 2 ^ 22) small)) in
    record {
      pages = refl;
      tables = refl;
      frames = refl;
      words = length-set P.words (entry_place P g) new ∙ size_kept F frame p may_p ∙ sym (size_kept F frame q may_q) ∙ sym (length-set Q.words (entry_place Q g) new);
      table = take-set-lt n P.words (entry_place P g) new above_p.below
          ∙ ap (λ (ws : List ℕ). slice_set ws (entry_place P g) new) (take_kept F frame p may_p ∙ sym (take_kept F frame q may_q))
          ∙ ap (λ (k : ℕ). slice_set (take n Q.words) k new) place
          ∙ sym (take-set-lt n Q.words (entry_place Q g) new above_q.below);
      swap = may_p.valid.swap;
    }

told_pages : (rest : Flat) (o : Option (List ℕ)) → (with_told rest o).pages ≡ rest.pages
told_pages rest None = refl
told_pages rest (Some words) = refl

-- the slot is one of the swap's
pub slot_small : (w : View) (b frame page slot : ℕ) → MayComeIn w b frame page slot → (rest : Flat) → Stands rest w → slot < w.slots
slot_small w b frame page slot may rest st =
    let F : Flat = standing_flat rest w in
    let g : ℕ = page_address page in
    let user : g < table_start = page_user page may.small in
    let below : swap_slot_of F g < length F.pages = (declared_stands F g st.valid (small_user g user) (swapped_declared F g st.valid user may.on_swap)).within in
    let is : slot ≡ swap_slot_of F g = sym may.slot_is ∙ swapped_slot F g st.valid user may.on_swap in
    let pages : length F.pages ≡ length rest.pages = ap (λ (ps : List ℕ). length ps) (told_pages rest w.pages) in
    let slots : w.slots ≡ length rest.pages = st.slots in
    omega arith

-- and the frame one of the memory's
pub frame_room : (w : View) (b frame page slot : ℕ) → MayComeIn w b frame page slot → (rest : Flat) → Stands rest w → frame * 1024 + 1024 ≤ length w.memory
frame_room w b frame page slot may rest st =
    let F : Flat = standing_flat rest w in
    subst (λ (n : ℕ). frame * 1024 + 1024 ≤ n) (length-logical w.caches w.memory) (frame_inside F frame st.valid (free_data F w.frames frame st.framed may.free))

module _ (w : View) (b frame page slot : ℕ) (may : MayComeIn w b frame page slot) (words : List ℕ) (long : length words ≡ 1024) where
  abbrev pub g : ℕ
  g = page_address page

  abbrev pub from : Hold
  from = loaded_hold frame words (hold_of w)

  abbrev pub now : List ℕ
  now = with_page w.memory frame words

  pub user : g < table_start
  user = page_user page may.small

  pub may_take : (rest : Flat) → Stands rest w → MayTake (standing_flat rest w) w.frames frame page
  may_take rest st = record { valid = st.valid; framed = st.framed; free = may.free; small = may.small; absent = may.absent; on_swap = may.on_swap }

  pub puts : (rest : Flat) → Stands rest w → MayPut (standing_flat rest w) frame words
  puts rest st = may_put (standing_flat rest w) w.frames frame page words long (may_take rest st)

  spare_in : (rest : Flat) → Stands rest w → IsSpare (flat_in w) frame
  spare_in rest st =
      let s = free_spare (standing_flat rest w) w.frames frame st.valid st.framed may.free in
      record { is = record { low = s.is.low; room = s.is.room }; apart = s.apart; table = s.table }

  bare : (rest : Flat) → Stands rest w → IsBare w.caches frame
  bare rest st = spare_bare w.caches w.memory frame st.walk (spare_in rest st)

  memory_put : (rest : Flat) → Stands rest w → IsPut w.memory words frame
  memory_put rest st = record { within = subst (λ (n : ℕ). frame * 1024 + 1024 ≤ n) (length-logical w.caches w.memory) (put_is (standing_flat rest w) frame words (puts rest st)).within; long = long }

  -- the logical memory has the page in the frame
  pub words_now : (rest : Flat) → Stands rest w → logical_words w.caches now ≡ with_page (logical_words w.caches w.memory) frame words
  words_now rest st = logical_put w.caches w.memory frame words (bare rest st) (memory_put rest st)

  pub size : (rest : Flat) → Stands rest w → length now ≡ length w.memory
  size rest st = size_new w.caches w.memory frame words (bare rest st) (memory_put rest st)

  same : (rest : Flat) → Stands rest w → HasEntries (flat_in w) (logical_flat w.caches now)
  same rest st = entries_put (with_told rest w.pages) w.caches w.memory frame words (puts rest st) (words_now rest st)

  -- what the change of the entry needs
  pub walk : (rest : Flat) → Stands rest w → MayWalk w.caches now
  walk rest st = walks_put (with_told rest w.pages) w.caches w.memory frame words st.walk (spare_in rest st) (puts rest st)

  pub present : (rest : Flat) → Stands rest w → ArePresent (logical_flat w.caches now) w.caches
  present rest st = present_same (flat_in w) (logical_flat w.caches now) w.caches (same rest st) st.present

  pub root : (rest : Flat) → Stands rest w → is_valid (root_at (logical_flat w.caches now) g) ≡ true
  root rest st =
      let a = is_above (standing_flat rest w) w.frames frame page words long (may_take rest st) in
      ap (λ (ws : List ℕ). is_valid (root_at (flat_of_words ws) g)) (words_now rest st) ∙ a.place.valid

  unheld : (rest : Flat) → Stands rest w → IsUnheld from g
  unheld rest st = absent_unheld from g (present rest st) (ap (λ (e : ℕ). is_valid e) ((same rest st).entry g user) ∙ may.absent)

  pub changes_may : (rest : Flat) → Stands rest w → MayChange b g (In frame) from
  changes_may rest st =
      let longer : length (logical_words w.caches now) ≡ length (logical_words w.caches w.memory) =
      length-logical w.caches now ∙ size rest st ∙ sym (length-logical w.caches w.memory) in
      in_may b g frame from (unheld rest st) (spare_same (flat_in w) (logical_flat w.caches now) frame (same rest st) longer (spare_in rest st))

  module _ (v : View) (some : Flat) (stood : Stands some w) (frames : v.frames ≡ take_frame w.frames frame page slot) (table : AreFrames w.frames) (pages : v.pages ≡ w.pages) (slots : v.slots ≡ w.slots) (ahead : v.ahead ≡ w.ahead) (told : IsTold w.pages slot words)
      (c : Changes b (page_address page) (In frame) (loaded_hold frame words (hold_of w)) (past_of w) (hold_of v) (past_of v)) where
    abbrev pub e : Entry
    e = PageIn b g frame

    -- the word of the entry, as the state that stood has it
    word_from : (rest : Flat) → Stands rest w → hold_entry from g ≡ word_of (standing_flat rest w) g
    word_from rest st = (same rest st).entry g user

    new_words : (rest : Flat) → Stands rest w → logical_words v.caches v.memory ≡ (placed (put (standing_flat rest w) frame words) g (brought_entry frame (word_of (standing_flat rest w) g))).words
    new_words rest st =
        let memory : v.memory ≡ c.mid.memory = ap (λ (h : Hold). h.memory) c.to_is in
        let still : logical_flat c.mid.caches c.mid.memory ≡ logical_flat w.caches now = same_flat w.caches c.mid.caches now c.mid.memory c.leads.logical in
        ap (logical_words v.caches) memory ∙ c.writes.words
        ∙ ap (λ (G : Flat). slice_set G.words (entry_place G g) (brought_entry frame (word_of G g))) still
        ∙ ap (λ (n : ℕ). slice_set (logical_words w.caches now) (entry_place (logical_flat w.caches now) g) (brought_entry frame n)) (word_from rest st)
        ∙ ap (λ (ws : List ℕ). slice_set ws (entry_place (record (flat_in w) { words = ws }) g) (brought_entry frame (word_of (standing_flat rest w) g))) (words_now rest st)

    flat_is : (rest : Flat) → Stands rest w → standing_flat rest v ≡ placed (put (standing_flat rest w) frame words) g (brought_entry frame (word_of (standing_flat rest w) g))
    flat_is rest st =
        ap (λ (p : Option (List ℕ)). record (with_told rest p) { words = logical_words v.caches v.memory }) pages
        ∙ ap (λ (ws : List ℕ). record (with_told rest w.pages) { words = ws }) (new_words rest st)

    slot_here : (rest : Flat) → Stands rest w → slot ≡ swap_slot_of (standing_flat rest w) g
    slot_here rest st = sym may.slot_is ∙ swapped_slot (standing_flat rest w) g st.valid user may.on_swap

    words_are : (rest : Flat) (ws : List ℕ) → Stands rest w → w.pages ≡ Some ws → words ≡ page_at (standing_flat rest w).swap (swap_slot_of (standing_flat rest w) g)
    words_are rest ws st is =
        told_words w.pages ws words slot is told
        ∙ ap (page_at ws) (slot_here rest st)
        ∙ ap (λ (p : Option (List ℕ)). page_at (with_told rest p).swap (swap_slot_of (standing_flat rest w) g)) (sym is)

    told_is : (rest : Flat) (ws : List ℕ) → Stands rest w → w.pages ≡ Some ws → standing_flat rest v ≡ come_in (standing_flat rest w) g (word_of (standing_flat rest w) g) frame
    told_is rest ws st is =
        flat_is rest st
        ∙ ap (λ (p : List ℕ). placed (put (standing_flat rest w) frame p) g (brought_entry frame (word_of (standing_flat rest w) g))) (words_are rest ws st is)

    -- whatever words were read, the tables are those that the entry makes
    like_is : (rest : Flat) → Stands rest w → IsLike (come_in (standing_flat rest w) g (word_of (standing_flat rest w) g) frame) (standing_flat rest v)
    like_is rest st =
        let F : Flat = standing_flat rest w in
        let new : ℕ = brought_entry frame (word_of F g) in
        let declared = swapped_declared F g st.valid user may.on_swap in
        let its : List ℕ = page_at F.swap (swap_slot_of F g) in
        let its_long : length its ≡ 1024 = page_long F.swap (swap_slot_of F g) (slot_inside F g st.valid (small_user g user) declared) in
        let its_may : MayPut F frame its = record { valid = st.valid; among = free_data F w.frames frame st.framed may.free; long = its_long } in
        subst (λ (G : Flat). IsLike (come_in F g (word_of F g) frame) G) (sym (flat_is rest st)) (like_placed F g new frame its words user its_may (puts rest st)
        (is_above F w.frames frame page its its_long (may_take rest st)) (is_above F w.frames frame page words long (may_take rest st)))

    tables : (rest G : Flat) → Stands rest w → ((k : ℕ) → k < table_words (standing_flat rest w).tables → slice_index G.words k ≡ slice_index (standing_flat rest w).words k) → HasTablesOf G (logical_words w.caches now)
    tables rest G st one = subst (λ (ws : List ℕ). HasTablesOf G ws) (sym (words_now rest st))
        (tables_of (standing_flat rest w) G (put (standing_flat rest w) frame words).words st.valid one (table_kept (standing_flat rest w) frame words (puts rest st)))

    frames_are : (rest : Flat) → Stands rest w → v.frames ≡ take_frame w.frames frame page (position_in (standing_flat rest w).pages page)
    frames_are rest st =
        frames ∙ ap (take_frame w.frames frame page) (slot_here rest st ∙ ap (position_in (standing_flat rest w).pages) (page_again page))

    mid_within : b < length c.mid.caches
    mid_within = subst (λ (n : ℕ). b < n) (sym c.leads.boards) may.within

    pub moved : IsMoved b g (In frame) w v from c
    moved = record {
      within = may.within;
      caches = refl;
      size = size some stood;
      tables = λ (rest : Flat) (st : Stands rest w). tables rest (standing_flat rest w) st (λ (k : ℕ) (below : k < table_words (standing_flat rest w).tables). refl);
      like_tables = λ (rest G : Flat) (st : Stands rest w) (like : IsLike G (standing_flat rest w)).
          tables rest G st (λ (k : ℕ) (below : k < table_words (standing_flat rest w).tables). word_same G (standing_flat rest w) k like below);
      present = present;
      pager = in_pager b g frame c.mid mid_within user (ready_has c.mid.caches c.mid.memory b g c.fetch.ready);
      allowed = λ (rest : Flat) (st : Stands rest w). in_allowed (standing_flat rest w) w.frames b g frame st.valid st.framed may.free user may.absent may.on_swap;
      told = told_is;
      like = like_is;
      framed = λ (rest : Flat) (st : Stands rest w).
          subst (λ (fs : Frames). AreFramed (standing_flat rest v) fs) (sym (frames_are rest st)) (subst (λ (G : Flat). AreFramed G (take_frame w.frames frame page (position_in (standing_flat rest w).pages page))) (sym (flat_is rest st))
          (framed_taken (standing_flat rest w) w.frames frame page words long (may_take rest st) table));
      clean = λ (rest : Flat) (ws : List ℕ) (st : Stands rest w) (is : v.pages ≡ Some ws).
          subst AreClean (sym (flat_is rest st)) (clean_taken (standing_flat rest w) w.frames frame page words long (may_take rest st) (words_are rest ws st (sym pages ∙ is)) (st.clean ws (sym pages ∙ is)));
      slots = slots;
      ahead = ahead;
      tells = ap tells pages;
    }

    -- and all of it
    pub comes : ComesIn b frame page slot w v
    comes = record {
      runs = record {
        piece = c.fetched ++ e ∷ [];
        history = c.entries;
        room = c.room;
        done = Loaded frame words (Writes g e (changed_word (In frame)) ∷ []) (hold_of w) (hold_of v) (c.fetched ++ e ∷ []) long (done_one b g e (changed_word (In frame)) from c.mid (hold_of v) c.fetched c.fetch c.to_is);
        made = changes_made b g (In frame) from (hold_of v) (past_of w) (past_of v) may.within (small_user g user) (page_address_starts page) c;
        keeps = moved-keeps b g (In frame) w v from c moved;
        carries = moved-is-carried b g (In frame) w v from c moved;
      };
      frames = frames;
      room = room_used b g from (hold_of v) (past_of w) (past_of v) (In frame) c;
      word = ap (λ (G : Flat). word_of G g) (flat_is some stood) ∙ here (standing_flat some w) w.frames frame page words long (may_take some stood);
      exclusive = c.writes.exclusive;
    }
