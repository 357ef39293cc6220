-- The state stands again after a hit that writes.
use Rattle.spur_pager.specs.View.{seen}
use Rattle.spur_addr.specs.Pages.{page_at}
use Rattle.std.proofs.Common.{◌≡◌, ◌≢◌, ◌∙◌, ℕ, zero, suc, ◌+◌, ◌-◌, ◌*◌, ◌/◌, ◌%◌, ◌^◌, ◌<◌, ◌≤◌, true, false, ap, sym, refl, subst, List, [], ◌∷◌, get_or, length, slice_set, Option, Some, None, arith}
use Rattle.std.proofs.lemmas.List.{ext_get_or, get_or-set_other}
use Rattle.spur_addr.specs.Address.{page_of, table_start, page_address, user_pages}
use Rattle.spur_addr.specs.PageEntry.{is_dirty, is_leaving, is_valid, number_of}
use Rattle.spur_cache.specs.declared.line.Line.{Line}
use Rattle.spur_flat.specs.declared.flat.Flat.{Flat}
use Rattle.spur_flat.specs.declared.entry.Entry.{Entry}
use Rattle.spur_flat.specs.declared.entry.Entry.TheVariants as entry
use Rattle.spur_flat.specs.History.{on}
use Rattle.spur_flat.specs.Pager.{word_of}
use Rattle.spur_flat.specs.Table.{place_of, table_words, walk_of}
use Rattle.spur_flat.specs.Validity.{IsValidFlat}
use Rattle.spur_flat.proofs.WalkFacts.{data_within, valid-with_word}
use Rattle.spur_flat.proofs.PagerFacts.{page_long}
use Rattle.spur_bus.specs.Logical.{logical_words}
use Rattle.spur_frames.specs.Frames.{Frames, IsFrame, holder_of}
use Rattle.spur_frames.specs.Clock.{page_held, page_of_frame}
use Rattle.spur_walk.specs.Laws.{IsStanding}
use Rattle.spur_walk.specs.Stores.{with_word_in}
use Rattle.spur_walk.specs.Tables.{logical_flat}
use Rattle.spur_walk.specs.Present.{ArePresent, MayWalk}
use Rattle.spur_walk.proofs.AnswerFacts.{here, walk_there}
use Rattle.spur_walk.proofs.DataFacts.{IsData, data_place, place_is, same-stored, stored}
use Rattle.spur_walk.proofs.SameFacts.{SameTables}
use Rattle.spur_walk.proofs.StoreFacts.{hit-stores, may-store, word_place}
use Rattle.spur_walk.proofs.ValidFacts.{tables}
use Rattle.spur_pager.specs.Stand.{AreFramed, FrameHolds, flat_in, standing_flat}
use Rattle.spur_flat.specs.Clean.{AreClean}
use Rattle.spur_pager.specs.Stored.{HitStandsAgain}
use Rattle.spur_pager.proofs.AgainFacts.{standing_as}
use Rattle.spur_pager.proofs.EntryFacts.{page_user, small_user}
use Rattle.spur_flat.proofs.PageWordFacts.{page_word}
use Rattle.spur_pager.proofs.PlaceFacts.{word_page}

-- what a frame holds is a page below segment 255, whatever number the frame has
within : {X : Type 0} (xs : List (Option X)) (k : ℕ) (x : X) → get_or xs k None ≡ Some x → k < length xs
within [] k x h = cc
within (y ∷ ys) zero x h = omega arith
within (y ∷ ys) (suc k) x h = let rest : k < length ys = within ys k x h in omega arith

held_by : (F : Flat) (frames : Frames) (frame : ℕ) (o : Option (ℕ × ℕ)) → AreFramed F frames → holder_of frames frame ≡ o → page_held o < user_pages
held_by F frames frame None framed is = let r : 0 < 255 * 2 ^ 18 = omega arith in r
held_by F frames frame (Some p) framed is =
    let place : ℕ = frame - frames.first in
    let below : place < length frames.held = within frames.held place p is in
    let again : frames.first + place - frames.first ≡ place = omega arith in
    (framed.taken (frames.first + place) p.0 p.1 (record { low = omega arith; high = omega arith }) (ap (λ (k : ℕ). get_or frames.held k None) again ∙ is)).small

held_small : (F : Flat) (frames : Frames) (frame : ℕ) → AreFramed F frames → page_of_frame frames frame < user_pages
held_small F frames frame framed = held_by F frames frame (holder_of frames frame) framed refl

-- frames go by the words of entries alone
module _ (F : Flat) (g value : ℕ) (d : IsData F g) where
  abbrev G : Flat
  G = stored F g value

  same : SameTables F G
  same = same-stored F g value d

  word : (page : ℕ) → page < user_pages → word_of G (page_address page) ≡ word_of F (page_address page)
  word page small = same.word (page_address page) (page_user page small)

  holds_page : (frame page slot : ℕ) → FrameHolds F frame page slot → FrameHolds G frame page slot
  holds_page frame page slot h = record {
    small = h.small;
    declared = h.declared;
    slot_is = h.slot_is;
    valid = ap (λ (n : ℕ). is_valid n) (word page h.small) ∙ h.valid;
    number = ap (λ (n : ℕ). number_of n) (word page h.small) ∙ h.number;
  }

  framed-stored : (frames : Frames) → AreFramed F frames → AreFramed G frames
  framed-stored frames framed = record {
    first = framed.first;
    count = framed.count;
    taken = λ (frame page slot : ℕ) (is : IsFrame frames frame) (there : holder_of frames frame ≡ Some (page, slot)). holds_page frame page slot (framed.taken frame page slot is there);
    holds = λ (page : ℕ) (small : page < user_pages) (valid : is_valid (word_of G (page_address page)) ≡ true).
        ap (λ (n : ℕ). holder_of frames (number_of n)) (word page small) ∙ framed.holds page small (ap (λ (n : ℕ). is_valid n) (sym (word page small)) ∙ valid);
    leaving = λ (frame : ℕ) (is : frames.leaving ≡ Some frame). ap (λ (n : ℕ). is_leaving n) (word (page_of_frame frames frame) (held_small F frames frame framed)) ∙ framed.leaving frame is;
    leaves = λ (page : ℕ) (small : page < user_pages) (valid : is_valid (word_of G (page_address page)) ≡ true) (leaving : is_leaving (word_of G (page_address page)) ≡ true).
        framed.leaves page small (ap (λ (n : ℕ). is_valid n) (sym (word page small)) ∙ valid) (ap (λ (n : ℕ). is_leaving n) (sym (word page small)) ∙ leaving)
        ∙ ap (λ (n : ℕ). Some (number_of n)) (sym (word page small));
  }

  -- words of another frame
  other_frame : (m : ℕ) → m * 1024 + 1024 ≤ length F.words → m ≢ number_of (word_of F g) → page_at G.words m ≡ page_at F.words m
  other_frame m room apart =
      let size : length G.words ≡ length F.words = same.size in
      let long : length (page_at G.words m) ≡ 1024 = page_long G.words m (omega arith) in
      let was : length (page_at F.words m) ≡ 1024 = page_long F.words m room in
      ext_get_or 0 (page_at G.words m) (page_at F.words m) (long ∙ sym was)
      (λ (k : ℕ) (within : k < length (page_at G.words m)).
      let few : k < 1024 = omega arith in
      let n : ℕ = number_of (word_of F g) in
      page_word G.words m k few
      ∙ get_or-set_other F.words (data_place F g) (m * 1024 + k) value 0 (λ (is : m * 1024 + k ≡ n * 1024 + g / 2 ^ 2 % 1024). let e : m ≡ n = omega arith in apart e)
      ∙ sym (page_word F.words m k few))

  clean-stored : is_dirty (word_of F g) ≡ true → AreClean F → AreClean G
  clean-stored dirty clean page small valid clear =
      let user : page_address page < table_start = page_user page small in
      let v : is_valid (word_of F (page_address page)) ≡ true = ap (λ (n : ℕ). is_valid n) (sym (word page small)) ∙ valid in
      let c : is_dirty (word_of F (page_address page)) ≡ false = ap (λ (n : ℕ). is_dirty n) (sym (word page small)) ∙ clear in
      let apart : number_of (word_of F (page_address page)) ≢ number_of (word_of F g) = λ (is : number_of (word_of F (page_address page)) ≡ number_of (word_of F g)).
      let pages : page_of (page_address page) ≡ page_of g = d.tables.apart (page_address page) g user d.user v d.valid is in
      let clash : true ≡ false = sym dirty ∙ ap (λ (n : ℕ). is_dirty n) (sym (word_page F (page_address page) g pages)) ∙ c in
      cc in
      ap (λ (n : ℕ). page_at G.words (number_of n)) (word page small)
      ∙ other_frame (number_of (word_of F (page_address page))) (d.tables.frame (page_address page) user v).room apart
      ∙ clean page small v c

pub hit-stands-again : HitStandsAgain
hit-stands-again rest w v b at value st within user seen caches memory shares =
    let F : Flat = standing_flat rest w in
    let L : Flat = flat_in w in
    let e : Entry = entry.Store b at value in
    let s = hit-stores w.caches w.memory b at value st.walk within user seen in
    let m = may-store w.caches b at seen in
    let holds : IsData L at = (word_place w.caches w.memory b at m.line st.walk within user m.there).holds in
    let standing : IsStanding w.caches w.memory b at = record { walk = st.walk; present = st.present; own = within; user = user } in
    let present = here w.caches w.memory b at m.line standing m.there in
    let logical : logical_words v.caches v.memory ≡ slice_set (logical_words w.caches w.memory) (place_of L at) value =
    ap (λ (cs : List (List (Option Line))). logical_words cs v.memory) caches ∙ ap (λ (ws : List ℕ). logical_words (with_word_in w.caches b at value) ws) memory ∙ s.logical in
    let flat : standing_flat rest v ≡ on F e = standing_as rest w v (slice_set (logical_words w.caches w.memory) (place_of L at) value) shares.pages logical in
    let here_data : IsData F at = record { tables = tables F st.valid; user = user; valid = holds.valid } in
    let past : table_words F.tables ≤ place_of F at =
    subst (λ (p : ℕ). table_words F.tables ≤ p) (sym (place_is F at here_data))
    (data_within F at (word_of F at) st.valid (small_user at user) (walk_there (walk_of F at) here_data.valid) here_data.valid).0 in
    let is_stored : on F e ≡ stored F at value = ap (λ (p : ℕ). record F { words = slice_set F.words p value }) (place_is F at here_data) in
    let framed : AreFramed (stored F at value) w.frames = framed-stored F at value here_data w.frames st.framed in
    record {
      stands = record {
        walk = subst (λ (cs : List (List (Option Line))). MayWalk cs v.memory) (sym caches) (subst (λ (ws : List ℕ). MayWalk (with_word_in w.caches b at value) ws) (sym memory) s.walk);
        valid = subst IsValidFlat (sym flat) (valid-with_word F (slice_set F.words (place_of F at) value) (place_of F at) value st.valid past refl);
        present = subst (λ (cs : List (List (Option Line))). ArePresent (logical_flat cs v.memory) cs) (sym caches)
            (subst (λ (ws : List ℕ). ArePresent (logical_flat (with_word_in w.caches b at value) ws) (with_word_in w.caches b at value)) (sym memory) (s.present st.present));
        framed = subst (λ (G : Flat). AreFramed G v.frames) (sym (flat ∙ is_stored)) (subst (λ (f : Frames). AreFramed (stored F at value) f) (sym shares.frames) framed);
        slots = shares.slots ∙ st.slots;
        clean = λ (words : List ℕ) (told : v.pages ≡ Some words).
            subst AreClean (sym (flat ∙ is_stored)) (clean-stored F at value here_data (present.dirty m.dirty) (st.clean words (sym shares.pages ∙ told)));
      };
      flat = flat;
      tas = λ (old : ℕ) (one : value ≡ 1). flat ∙ ap (λ (n : ℕ). on F (entry.Store b at n)) one;
    }
