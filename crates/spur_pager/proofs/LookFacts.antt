-- The clock looks at a page.
use Rattle.std.proofs.Common.{◌≡◌, ◌≢◌, ◌∙◌, ℕ, ◌+◌, ◌*◌, ◌/◌, ◌%◌, ◌^◌, ◌<◌, ◌==◌, ◌&&◌, nat_lt, ⊎_elim, Bool, true, false, not, if◌then◌else◌, ap, sym, refl, subst, [], ◌∷◌, ◌++◌, ◌≤◌, get_or, length, Option, Some, None, arith, inl, inr}
use Rattle.std.specs.Int.{bit_at}
use Rattle.std.proofs.lemmas.Bool.{and_from, cases_eq, eq-eqb, lt-ltb, ltb-true, not_from_false}
use Rattle.spur_addr.specs.Address.{page_of, page_address, user_pages}
use Rattle.spur_addr.specs.PageEntry.{is_leaving, is_referenced, is_valid, number_of, with_bit, is_dirty}
use Rattle.spur_flat.specs.declared.flat.Flat.{Flat}
use Rattle.spur_flat.specs.Pager.{word_of}
use Rattle.spur_frames.specs.Frames.{Frames, IsFrame, IsTaken, hand_past, holder_of, looked_at, passed}
use Rattle.spur_frames.specs.Clock.{IsCleared, page_held}
use Rattle.spur_frames.specs.Clock as clock
use Rattle.spur_walk.specs.Tables.{logical_flat, root_at}
use Rattle.spur_pager.specs.declared.change.Change.{Change}
use Rattle.spur_pager.specs.declared.change.Change.TheVariants.{Unreferenced, Leaving}
use Rattle.spur_pager.specs.View.{View}
use Rattle.spur_pager.specs.Stand.{AreFramed, FrameHolds, Stands, entry_in, standing_flat}
use Rattle.spur_pager.specs.Changes.{Changes, MayChange, changed_word, clock_change, entry_for, hold_entry}
use Rattle.spur_pager.specs.Service.{bits_in}
use Rattle.spur_pager.specs.Served.{hold_of}
use Rattle.spur_walk.specs.Bounds.{page_steps_left}
use Rattle.spur_walk.proofs.BoundFacts.{page-few}
use Rattle.spur_flat.specs.Past.{Past}
use Rattle.spur_pager.specs.Acts.{Hold, clear_referenced, leave}
use Rattle.spur_walk.proofs.OpenedFacts.{small_length}
use Rattle.spur_pager.specs.Marks.{IsMark}
use Rattle.spur_pager.specs.Runs.{Runs}
use Rattle.spur_pager.specs.Looks.{Clears, KeepsAbsent, StartsLeaving, Looks, KeepsDirty}
use Rattle.spur_pager.proofs.EntryFacts.{IsAbove, above, entries, framed_marked, held_still, holds_still, page_again, page_user, steady, valid_declared}
use Rattle.spur_pager.proofs.LineFacts.{changes_lines}
use Rattle.spur_pager.proofs.MarkFacts.{leaving_marks, referenced_marks, same_bit}
use Rattle.spur_pager.proofs.PlaceFacts.{placed}
use Rattle.spur_flat.proofs.FormedFacts.{page_address_starts}
use Rattle.spur_pager.proofs.RunFacts.{IsOfStore, MayWritten, flat_is, mark_may, past_of, runs}

-- the hand is of no account for what the table says of pages
pub framed_hand : (F : Flat) (frames : Frames) (h : ℕ) → AreFramed F frames → AreFramed F (record frames { hand = h })
framed_hand F frames h ok = record {
  first = ok.first;
  count = ok.count;
  taken = λ (frame page slot : ℕ) (is : IsFrame (record frames { hand = h }) frame) (holds : holder_of (record frames { hand = h }) frame ≡ Some (page, slot)). ok.taken frame page slot (record { low = is.low; high = is.high }) holds;
  holds = ok.holds;
  leaving = ok.leaving;
  leaves = ok.leaves;
}

leaving_set : (e : ℕ) → is_leaving (with_bit e 6 true) ≡ true
leaving_set e =
    let r : ((e / 2 ^ 7 * 2 + 1) * 2 ^ 6 + e % 2 ^ 6) / 2 ^ 6 % 2 ≡ 1 = omega arith in
    eq-eqb (bit_at (with_bit e 6 true) 6) 1 r

referenced_clear : (e : ℕ) → is_referenced (with_bit e 1 false) ≡ false
referenced_clear e =
    let r : ((e / 2 ^ 2 * 2 + 0) * 2 ^ 1 + e % 2 ^ 1) / 2 ^ 1 % 2 ≡ 0 = omega arith in
    ap (λ (n : ℕ). n == 1) r

-- the page of a frame leaves
pub framed_leave : (F : Flat) (frames : Frames) (h frame page slot : ℕ) → IsAbove F (page_address page) → FrameHolds F frame page slot → holder_of frames frame ≡ Some (page, slot) → frames.leaving ≡ None → AreFramed F frames
    → AreFramed (placed F (page_address page) (with_bit (word_of F (page_address page)) 6 true)) (record frames { hand = h; leaving = Some frame })
framed_leave F frames h frame page slot a holds held none ok =
    let g : ℕ = page_address page in
    let new : ℕ = with_bit (word_of F g) 6 true in
    let e = entries F g new a in
    let marked = leaving_marks (word_of F g) in
    let here : page ≡ page_of g = sym (page_again page) in
    record {
      first = ok.first;
      count = ok.count;
      taken = λ (f p s : ℕ) (is : IsFrame (record frames { hand = h; leaving = Some frame }) f) (has : holder_of (record frames { hand = h; leaving = Some frame }) f ≡ Some (p, s)).
          holds_still F g new f p s e marked (ok.taken f p s (record { low = is.low; high = is.high }) has);
      holds = λ (p : ℕ) (small : p < user_pages) (valid : is_valid (word_of (placed F g new) (page_address p)) ≡ true). held_still F frames g new p e marked ok small valid;
      leaving = λ (f : ℕ) (is : Some frame ≡ Some f).
          let same : frame ≡ f = cc in
          let page_is : clock.page_of_frame frames f ≡ page = ap (λ (n : ℕ). clock.page_of_frame frames n) (sym same) ∙ ap page_held held in
          ap (λ (p : ℕ). is_leaving (word_of (placed F g new) (page_address p))) page_is ∙ ap (λ (n : ℕ). is_leaving n) (e.here page holds.small here) ∙ leaving_set (word_of F g);
      leaves = λ (p : ℕ) (small : p < user_pages) (valid : is_valid (word_of (placed F g new) (page_address p)) ≡ true) (is : is_leaving (word_of (placed F g new) (page_address p)) ≡ true).
          ⊎_elim
          (λ (same : p ≡ page_of g).
          let p_is : p ≡ page = same ∙ page_again page in
          ap (λ (n : ℕ). Some n) (sym ((steady F g new p e marked small).number ∙ ap (λ (q : ℕ). number_of (word_of F (page_address q))) p_is ∙ holds.number)))
          (λ (apart : p ≢ page_of g).
          let was : frames.leaving ≡ Some (number_of (word_of F (page_address p))) = ok.leaves p small (sym (steady F g new p e marked small).valid ∙ valid) (ap (λ (n : ℕ). is_leaving n) (sym (e.others p small apart)) ∙ is) in
          let clash : None ≡ Some (number_of (word_of F (page_address p))) = sym none ∙ was in
          cc)
          (cases_eq p (page_of g));
    }

not_leaving : (b : Bool) (o : Option ℕ) (n : ℕ) → o ≡ None → (b ≡ true → o ≡ Some n) → b ≡ false
not_leaving false o n none h = refl
not_leaving true o n none h = let clash : None ≡ Some n = sym none ∙ h refl in cc

pub room_used : (b g : ℕ) (from to : Hold) (before after : Past) (change : Change) → Changes b g change from before to after → before.room ≤ after.room + 5
room_used b g from to before after change c =
    let few : page_steps_left (get_or from.caches b []) g ≤ 4 = (page-few (get_or from.caches b []) g).steps in
    let long : length c.fetched + page_steps_left (get_or c.mid.caches b []) g ≤ page_steps_left (get_or from.caches b []) g = c.leads.few in
    let more : length (c.fetched ++ entry_for change b g ∷ []) ≡ length c.fetched + 1 = small_length c.fetched (entry_for change b g) in
    let room : after.room + length (c.fetched ++ entry_for change b g ∷ []) ≡ before.room = c.room in
    omega arith

-- what is known of the page that is looked at
pub record IsFound (w : View) (frame page slot : ℕ) : Type 0 where
  pub looked : looked_at w.frames ≡ Some frame
  pub taken : IsTaken w.frames frame
  pub held : holder_of w.frames frame ≡ Some (page, slot)
  pub staying : w.frames.leaving ≡ None

module _ (w : View) (b frame page slot : ℕ) (within : b < length w.caches) (f : IsFound w frame page slot) where
  abbrev pub g : ℕ
  g = page_address page

  pub holds : (rest : Flat) → Stands rest w → FrameHolds (standing_flat rest w) frame page slot
  holds rest st = st.framed.taken frame page slot (record { low = f.taken.low; high = f.taken.high }) f.held

  stays : (rest : Flat) → Stands rest w → is_leaving (word_of (standing_flat rest w) g) ≡ false
  stays rest st =
      let h = holds rest st in
      not_leaving (is_leaving (word_of (standing_flat rest w) g)) w.frames.leaving (number_of (word_of (standing_flat rest w) g)) f.staying (st.framed.leaves page h.small h.valid)

  here_above : (rest : Flat) → Stands rest w → IsAbove (standing_flat rest w) g
  here_above rest st = let h = holds rest st in above (standing_flat rest w) g st.valid (page_user page h.small) (valid_declared (standing_flat rest w) g st.valid (page_user page h.small) h.valid)

  pub clear_may : (rest : Flat) → Stands rest w → is_referenced (hold_entry (hold_of w) g) ≡ true → MayWritten w b g Unreferenced
  clear_may some st referenced = let h = holds some st in record {
    is = tt;
    user = page_user page h.small;
    starts = page_address_starts page;
    within = within;
    valid = h.valid;
    allowed = λ (rest : Flat) (s : Stands rest w).
        let F : Flat = standing_flat rest w in
        let e : ℕ = word_of F g in
        let k = holds rest s in
        record { declared = valid_declared F g s.valid (page_user page k.small) k.valid; entry = and_from (is_valid e && is_referenced e) (not (is_leaving e)) (and_from (is_valid e) (is_referenced e) k.valid referenced) (not_from_false (is_leaving e) (stays rest s)) };
  }

  pub leave_may : (rest : Flat) → Stands rest w → MayWritten w b g Leaving
  leave_may some st = let h = holds some st in record {
    is = tt;
    user = page_user page h.small;
    starts = page_address_starts page;
    within = within;
    valid = h.valid;
    allowed = λ (rest : Flat) (s : Stands rest w).
        let F : Flat = standing_flat rest w in
        let k = holds rest s in
        record { declared = valid_declared F g s.valid (page_user page k.small) k.valid; entry = and_from (is_valid (word_of F g)) (not (is_leaving (word_of F g))) k.valid (not_from_false (is_leaving (word_of F g)) (stays rest s)) };
  }

  clear_framed : (rest : Flat) → Stands rest w → AreFramed (placed (standing_flat rest w) g (with_bit (word_of (standing_flat rest w) g) 1 false)) (passed w.frames)
  clear_framed rest st =
      let F : Flat = standing_flat rest w in
      framed_hand (placed F g (with_bit (word_of F g) 1 false)) w.frames (hand_past w.frames (looked_at w.frames))
      (framed_marked F w.frames g (with_bit (word_of F g) 1 false) (here_above rest st) (referenced_marks (word_of F g) false) (same_bit (word_of F g) 1 6 false (λ h. cc))
      (λ (n : ℕ) (is : w.frames.leaving ≡ Some n). let clash : None ≡ Some n = sym f.staying ∙ is in cc) st.framed)

  leave_framed : (rest : Flat) → Stands rest w → AreFramed (placed (standing_flat rest w) g (with_bit (word_of (standing_flat rest w) g) 6 true)) (record (passed w.frames) { leaving = Some frame })
  leave_framed rest st =
      let F : Flat = standing_flat rest w in
      framed_leave F w.frames (hand_past w.frames (looked_at w.frames)) frame page slot (here_above rest st) (holds rest st) f.held f.staying st.framed

  page_is : clock.page_of_frame w.frames frame ≡ page
  page_is = ap page_held f.held

  bit_is : page < user_pages → bits_in w (clock.page_of_frame w.frames frame) ≡ is_referenced (hold_entry (hold_of w) g)
  bit_is small = ap (bits_in w) page_is ∙ ap (λ (x : Bool). x && is_referenced (entry_in w page)) (lt-ltb page user_pages small)

  bits_same : (v : View) (other : ℕ) (x : Bool) → nat_lt other user_pages ≡ x → (other < user_pages → entry_in v other ≡ entry_in w other) → bits_in v other ≡ bits_in w other
  bits_same v other true is same = ap (λ (n : ℕ). nat_lt other user_pages && is_referenced n) (same (ltb-true other user_pages is))
  bits_same v other false is same = ap (λ (y : Bool). y && is_referenced (entry_in v other)) is ∙ sym (ap (λ (y : Bool). y && is_referenced (entry_in w other)) is)

  -- the page that is looked at is valid, so that a page that is not valid is another
  absent_stays : (v : View) (rest : Flat) (new : ℕ) → Stands rest w → standing_flat rest v ≡ placed (standing_flat rest w) g new → KeepsAbsent w v
  absent_stays v rest new st flat other small absent =
      let F : Flat = standing_flat rest w in
      let e = entries F g new (here_above rest st) in
      ap (λ (G : Flat). word_of G (page_address other)) flat
      ∙ e.others other small (λ (same : other ≡ page_of g).
      let is : other ≡ page = same ∙ page_again page in
      let clash : true ≡ false = sym (holds rest st).valid ∙ ap (λ (n : ℕ). is_valid (word_of F (page_address n))) (sym is) ∙ absent in
      cc)

  -- one bit of its entry changes, and that is not the dirty one
  dirty_stays : (v : View) (rest : Flat) (new : ℕ) → Stands rest w → standing_flat rest v ≡ placed (standing_flat rest w) g new → is_dirty new ≡ is_dirty (word_of (standing_flat rest w) g) → KeepsDirty w v
  dirty_stays v rest new st flat kept other small =
      let F : Flat = standing_flat rest w in
      let e = entries F g new (here_above rest st) in
      ap (λ (G : Flat). is_dirty (word_of G (page_address other))) flat
      ∙ elim (cases_eq other (page_of g)) [
        | inl same ↦ ap (λ (n : ℕ). is_dirty n) (e.here other small same) ∙ kept ∙ ap (λ (p : ℕ). is_dirty (word_of F (page_address p))) (sym (same ∙ page_again page))
        | inr apart ↦ ap (λ (n : ℕ). is_dirty n) (e.others other small apart)
      ]

  pub look_clears : (v : View) (rest : Flat) → Stands rest w → IsOfStore w v → is_referenced (hold_entry (hold_of w) g) ≡ true → v.frames ≡ passed w.frames
      → Changes b g (clock_change (hold_entry (hold_of w) g)) (hold_of w) (past_of w) (hold_of v) (past_of v) → Looks b w v false
  look_clears v some st store referenced frames c =
      let F : Flat = standing_flat some w in
      let h = holds some st in
      let is : clock_change (hold_entry (hold_of w) g) ≡ Unreferenced = ap (λ (x : Bool). if x then Unreferenced else Leaving) referenced in
      let change : Changes b g Unreferenced (hold_of w) (past_of w) (hold_of v) (past_of v) = subst (λ (k : Change). Changes b g k (hold_of w) (past_of w) (hold_of v) (past_of v)) is c in
      let framed : (rest : Flat) → Stands rest w → AreFramed (placed (standing_flat rest w) g (changed_word Unreferenced (word_of (standing_flat rest w) g))) v.frames =
      λ (rest : Flat) (s : Stands rest w). subst (λ (fs : Frames). AreFramed (placed (standing_flat rest w) g (changed_word Unreferenced (word_of (standing_flat rest w) g))) fs) (sym frames) (clear_framed rest s) in
      let run = runs w v b g Unreferenced (clear_may some st referenced) store framed change in
      let flat : standing_flat some v ≡ placed F g (changed_word Unreferenced (word_of F g)) = flat_is w v b g Unreferenced (clear_may some st referenced) store framed change some in
      let e = entries F g (changed_word Unreferenced (word_of F g)) (here_above some st) in
      record {
        frame = frame;
        found = f.looked;
        taken = f.taken;
        room = room_used b g (hold_of w) (hold_of v) (past_of w) (past_of v) (clock_change (hold_entry (hold_of w) g)) c;
        looked = Clears (bit_is h.small ∙ referenced)
            (subst (λ (p : ℕ). Runs b (clear_referenced b p ∷ []) w v) (sym page_is) run) frames
            (subst (λ (p : ℕ). IsCleared (bits_in w) p (bits_in v)) (sym page_is) (record {
              clear = ap (λ (n : ℕ). nat_lt page user_pages && is_referenced n) (ap (λ (G : Flat). word_of G g) flat ∙ e.here page h.small (sym (page_again page)))
                  ∙ ap (λ (x : Bool). nat_lt page user_pages && x) (referenced_clear (word_of F g)) ∙ ap (λ (x : Bool). x && false) (lt-ltb page user_pages h.small);
              others = λ (other : ℕ) (apart : other ≢ page). bits_same v other (nat_lt other user_pages) refl
                  (λ (small : other < user_pages). ap (λ (G : Flat). word_of G (page_address other)) flat ∙ e.others other small (λ (same : other ≡ page_of g). apart (same ∙ page_again page)));
            }));
        absent = absent_stays v some (changed_word Unreferenced (word_of F g)) st flat;
        dirty = dirty_stays v some (changed_word Unreferenced (word_of F g)) st flat (same_bit (word_of F g) 1 2 false (λ h. cc));
        lines = changes_lines b g Unreferenced w v (past_of w) (past_of v) change st.walk;
      }

  pub look_leaves : (v : View) (rest : Flat) → Stands rest w → IsOfStore w v → is_referenced (hold_entry (hold_of w) g) ≡ false → v.frames ≡ record (passed w.frames) { leaving = Some frame }
      → Changes b g (clock_change (hold_entry (hold_of w) g)) (hold_of w) (past_of w) (hold_of v) (past_of v) → Looks b w v true
  look_leaves v some st store unreferenced frames c =
      let F : Flat = standing_flat some w in
      let h = holds some st in
      let is : clock_change (hold_entry (hold_of w) g) ≡ Leaving = ap (λ (x : Bool). if x then Unreferenced else Leaving) unreferenced in
      let change : Changes b g Leaving (hold_of w) (past_of w) (hold_of v) (past_of v) = subst (λ (k : Change). Changes b g k (hold_of w) (past_of w) (hold_of v) (past_of v)) is c in
      let framed : (rest : Flat) → Stands rest w → AreFramed (placed (standing_flat rest w) g (changed_word Leaving (word_of (standing_flat rest w) g))) v.frames =
      λ (rest : Flat) (s : Stands rest w). subst (λ (fs : Frames). AreFramed (placed (standing_flat rest w) g (changed_word Leaving (word_of (standing_flat rest w) g))) fs) (sym frames) (leave_framed rest s) in
      let run = runs w v b g Leaving (leave_may some st) store framed change in
      record {
        frame = frame;
        found = f.looked;
        taken = f.taken;
        room = room_used b g (hold_of w) (hold_of v) (past_of w) (past_of v) (clock_change (hold_entry (hold_of w) g)) c;
        looked = StartsLeaving (bit_is h.small ∙ unreferenced) (subst (λ (p : ℕ). Runs b (leave b p ∷ []) w v) (sym page_is) run) frames;
        absent = absent_stays v some (changed_word Leaving (word_of F g)) st (flat_is w v b g Leaving (leave_may some st) store framed change some);
        dirty = dirty_stays v some (changed_word Leaving (word_of F g)) st (flat_is w v b g Leaving (leave_may some st) store framed change some) (same_bit (word_of F g) 6 2 true (λ h. cc));
        lines = changes_lines b g Leaving w v (past_of w) (past_of v) change st.walk;
      }

  pub look_root : (rest : Flat) → Stands rest w → is_valid (root_at (logical_flat w.caches w.memory) g) ≡ true
  look_root rest st = (here_above rest st).place.valid

  clock_mark : (x : Bool) → IsMark (if x then Unreferenced else Leaving)
  clock_mark true = tt
  clock_mark false = tt

  pub look_may : (rest : Flat) → Stands rest w → MayChange b g (clock_change (hold_entry (hold_of w) g)) (hold_of w)
  look_may rest st = let h = holds rest st in mark_may w b g (clock_change (hold_entry (hold_of w) g)) (clock_mark (is_referenced (hold_entry (hold_of w) g))) st.present (page_user page h.small) h.valid

-- what was chosen tells of the bit
pub chose_clear : (x : Bool) → (if x then Unreferenced else Leaving) ≡ Unreferenced → x ≡ true
chose_clear true h = refl
chose_clear false h = cc

pub chose_leave : (x : Bool) → ((if x then Unreferenced else Leaving) ≡ Unreferenced → ⊥) → x ≡ false
chose_leave true h = absurd (h refl)
chose_leave false h = refl
