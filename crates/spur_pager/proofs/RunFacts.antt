-- A bit of a page's entry was set or cleared: the entries are carried, and the state stands again.
use Rattle.std.proofs.Common.{◌≡◌, ◌∙◌, ℕ, ◌%◌, ◌^◌, ◌<◌, true, false, ap, sym, refl, subst, List, [], ◌∷◌, ◌++◌, length, slice_set, Option, Some}
use Rattle.spur_addr.specs.Address.{table_start, user_pages}
use Rattle.spur_addr.specs.PageEntry.{is_leaving, is_valid}
use Rattle.spur_flat.specs.declared.flat.Flat.{Flat}
use Rattle.spur_flat.specs.declared.entry.Entry.{Entry}
use Rattle.spur_flat.specs.History.{IsAllowed, on}
use Rattle.spur_flat.specs.Pager.{entry_place, word_of}
use Rattle.spur_flat.specs.Untold.{IsLike}
use Rattle.spur_flat.specs.Validity.{IsValidFlat}
use Rattle.spur_flat.proofs.HistoryFacts.{stays-valid}
use Rattle.spur_bus.specs.Logical.{logical_words}
use Rattle.spur_frames.specs.Frames.{AreFrames, Frames}
use Rattle.spur_frames.specs.Clock.{page_of_frame}
use Rattle.spur_walk.specs.Present.{ArePresent}
use Rattle.spur_walk.specs.Tables.{logical_flat}
use Rattle.spur_walk.proofs.StepFacts.{same_flat}
use Rattle.spur_walk.proofs.TableFacts.{has_own}
use Rattle.spur_walk.proofs.ValidFacts.{like-tables}
use Rattle.spur_pager.specs.declared.change.Change.{Change}
use Rattle.spur_pager.specs.declared.change.Change.TheVariants.{Referenced, Unreferenced, Dirty, Leaving, Out, In}
use Rattle.spur_pager.specs.View.{View}
use Rattle.spur_pager.specs.Stand.{AreFramed, Stands, standing_flat, with_told}
use Rattle.spur_flat.specs.Clean.{AreClean}
use Rattle.spur_pager.specs.Acts.{Hold, IsDone, IsFetch, NoAct, Writes, Written, written_in}
use Rattle.spur_pager.specs.Changes.{Changes, MayChange, changed_word, entry_for, hold_entry}
use Rattle.spur_pager.specs.Served.{hold_of}
use Rattle.spur_pager.specs.Served as served
use Rattle.spur_pager.specs.Runs.{Runs}
use Rattle.spur_pager.specs.Marks.{IsBit, IsMark, MayMark}
use Rattle.spur_pager.specs.Marks as mark
use Rattle.spur_pager.proofs.CarryFacts.{IsPagers}
use Rattle.spur_pager.proofs.ChangeFacts.{ready_has}
use Rattle.spur_pager.proofs.EntryFacts.{above, clean_marked, framed_marked, leaving_page, small_user, valid_declared, leaving_taken}
use Rattle.spur_pager.proofs.MadeFacts.{changes_made}
use Rattle.spur_pager.proofs.HolderFacts.{own_state}
use Rattle.spur_pager.proofs.MovedFacts.{IsMoved, moved-is-carried, moved-keeps}
pub use Rattle.spur_pager.proofs.PastFacts.{past_of}
use Rattle.spur_pager.proofs.MarkFacts.{IsMarked, dirty_marks, leaving_marks, may_mark, referenced_marks, same_bit}
use Rattle.spur_pager.proofs.PlaceFacts.{IsPlace, placed, word_same}
use Rattle.spur_pager.proofs.WriteFacts.{HasEntry, entry_in}

pub marks : (change : Change) (e : ℕ) → IsMark change → IsMarked e (changed_word change e)
marks Referenced e is = referenced_marks e true
marks Unreferenced e is = referenced_marks e false
marks Dirty e is = dirty_marks e
marks Leaving e is = leaving_marks e
marks (Out slot) e is = absurd is
marks (In frame) e is = absurd is

-- another bit than the leaving one
bit_marks : (change : Change) → IsBit change → IsMark change
bit_marks Referenced is = tt
bit_marks Unreferenced is = tt
bit_marks Dirty is = tt
bit_marks Leaving is = tt
bit_marks (Out slot) is = absurd is
bit_marks (In frame) is = absurd is

leaving_stays : (change : Change) (e : ℕ) → IsBit change → is_leaving (changed_word change e) ≡ is_leaving e
leaving_stays Referenced e is = same_bit e 1 6 true (λ h. cc)
leaving_stays Unreferenced e is = same_bit e 1 6 false (λ h. cc)
leaving_stays Dirty e is = same_bit e 2 6 true (λ h. cc)
leaving_stays Leaving e is = absurd is
leaving_stays (Out slot) e is = absurd is
leaving_stays (In frame) e is = absurd is

on_is : (F : Flat) (b g : ℕ) (change : Change) → IsMark change → on F (entry_for change b g) ≡ placed F g (changed_word change (word_of F g))
on_is F b g Referenced is = refl
on_is F b g Unreferenced is = refl
on_is F b g Dirty is = refl
on_is F b g Leaving is = refl
on_is F b g (Out slot) is = absurd is
on_is F b g (In frame) is = absurd is

pager : (change : Change) (b g : ℕ) (mid : Hold) → IsMark change → b < length mid.caches → g < table_start → HasEntry mid.caches b g → IsPagers b g mid (entry_for change b g)
pager Referenced b g mid is within user has = record { board = refl; role = refl; small = small_user g user; tagged = λ (F : Flat). own_state mid.caches b g within has; still = λ (F : Flat). refl }
pager Unreferenced b g mid is within user has = record { board = refl; role = refl; small = small_user g user; tagged = λ (F : Flat). own_state mid.caches b g within has; still = λ (F : Flat). refl }
pager Dirty b g mid is within user has = record { board = refl; role = refl; small = small_user g user; tagged = λ (F : Flat). own_state mid.caches b g within has; still = λ (F : Flat). refl }
pager Leaving b g mid is within user has = record { board = refl; role = refl; small = small_user g user; tagged = λ (F : Flat). own_state mid.caches b g within has; still = λ (F : Flat). refl }
pager (Out slot) b g mid is within user has = absurd is
pager (In frame) b g mid is within user has = absurd is

-- the bit may be changed wherever the steps towards the entry lead
pub mark_may : (w : View) (b g : ℕ) (change : Change) → IsMark change → ArePresent (logical_flat w.caches w.memory) w.caches → g < table_start → is_valid (hold_entry (hold_of w) g) ≡ true → MayChange b g change (hold_of w)
mark_may w b g change is present user valid fetched mid leads =
    let F : Flat = logical_flat mid.caches mid.memory in
    let same : F ≡ logical_flat w.caches w.memory = same_flat w.caches mid.caches w.memory mid.memory leads.logical in
    may_mark F mid.caches g (hold_entry mid g) (changed_word change (hold_entry mid g)) leads.walk.tables (leads.present present) user refl (ap (λ (G : Flat). is_valid (word_of G g)) same ∙ valid) (marks change (hold_entry mid g) is)

-- what any of them needs
pub record MayWritten (w : View) (b g : ℕ) (change : Change) : Type 0 where
  pub is : IsMark change
  pub user : g < table_start
  pub starts : g % 2 ^ 12 ≡ 0
  pub within : b < length w.caches
  pub valid : is_valid (hold_entry (hold_of w) g) ≡ true
  pub allowed : (rest : Flat) → Stands rest w → IsAllowed (standing_flat rest w) (entry_for change b g)

-- the same swap is seen, and the same settings
pub record IsOfStore (w v : View) : Type 0 where
  pub pages : v.pages ≡ w.pages
  pub slots : v.slots ≡ w.slots
  pub ahead : v.ahead ≡ w.ahead

in_user : (F : Flat) (frames : Frames) → AreFrames frames → AreFramed F frames → (frame : ℕ) → frames.leaving ≡ Some frame → page_of_frame frames frame < user_pages
in_user F frames table framed frame is =
    let t = leaving_taken frames frame table is in
    leaving_page F frames frame framed (record { low = t.low; high = t.high }) t.taken

-- the frame table stays
pub mark_framed : (w v : View) (b g : ℕ) (change : Change) → MayMark w b g change → AreFrames w.frames → v.frames ≡ w.frames → (rest : Flat) → Stands rest w
    → AreFramed (placed (standing_flat rest w) g (changed_word change (word_of (standing_flat rest w) g))) v.frames
mark_framed w v b g change may table same rest st =
    let F : Flat = standing_flat rest w in
    let a = above F g st.valid may.user (valid_declared F g st.valid may.user may.valid) in
    subst (λ (fs : Frames). AreFramed (placed F g (changed_word change (word_of F g))) fs) (sym same)
    (framed_marked F w.frames g (changed_word change (word_of F g)) a (marks change (word_of F g) (bit_marks change may.is)) (leaving_stays change (word_of F g) may.is) (in_user F w.frames table st.framed) st.framed)

pub as_written : (w : View) (b g : ℕ) (change : Change) → MayMark w b g change → MayWritten w b g change
as_written w b g change may = record { is = bit_marks change may.is; user = may.user; starts = may.starts; within = may.within; valid = may.valid; allowed = may.allowed }

pub new_flat : (w v : View) (b g : ℕ) (change : Change) (c : Changes b g change (hold_of w) (past_of w) (hold_of v) (past_of v)) → logical_words v.caches v.memory ≡ slice_set (logical_words w.caches w.memory) (entry_place (logical_flat w.caches w.memory) g) (changed_word change (hold_entry (hold_of w) g))
new_flat w v b g change c =
    let memory : v.memory ≡ c.mid.memory = ap (λ (h : Hold). h.memory) c.to_is in
    let same : logical_flat c.mid.caches c.mid.memory ≡ logical_flat w.caches w.memory = same_flat w.caches c.mid.caches w.memory c.mid.memory c.leads.logical in
    ap (logical_words v.caches) memory ∙ c.writes.words
    ∙ ap (λ (G : Flat). slice_set G.words (entry_place G g) (changed_word change (word_of G g))) same

pub done_one : (b g : ℕ) (e : Entry) (f : ℕ → ℕ) (from mid to : Hold) (fetched : List Entry) → IsFetch b g from fetched mid → to ≡ written_in b g f mid → IsDone b (Writes g e f ∷ []) from (fetched ++ e ∷ []) to
done_one b g e f from mid to fetched fetch is = subst (λ (h : Hold). IsDone b (Writes g e f ∷ []) from (fetched ++ e ∷ []) h) (sym is) (Written g e f [] from mid (written_in b g f mid) fetched [] fetch (NoAct (written_in b g f mid)))

module _ (w v : View) (b g : ℕ) (change : Change) (may : MayWritten w b g change) (store : IsOfStore w v) (framed : (rest : Flat) → Stands rest w → AreFramed (placed (standing_flat rest w) g (changed_word change (word_of (standing_flat rest w) g))) v.frames) (c : Changes b g change (hold_of w) (past_of w) (hold_of v) (past_of v)) where
  abbrev pub e : Entry
  e = entry_for change b g

  mid_within : b < length c.mid.caches
  mid_within = subst (λ (n : ℕ). b < n) (sym c.leads.boards) may.within

  mid_pager : IsPagers b g c.mid e
  mid_pager = pager change b g c.mid may.is mid_within may.user (ready_has c.mid.caches c.mid.memory b g c.fetch.ready)

  pub flat_is : (rest : Flat) → standing_flat rest v ≡ placed (standing_flat rest w) g (changed_word change (word_of (standing_flat rest w) g))
  flat_is rest =
      ap (λ (p : Option (List ℕ)). record (with_told rest p) { words = logical_words v.caches v.memory }) store.pages
      ∙ ap (λ (ws : List ℕ). record (with_told rest w.pages) { words = ws }) (new_flat w v b g change c)

  flat_on : (rest : Flat) → on (standing_flat rest w) e ≡ standing_flat rest v
  flat_on rest = on_is (standing_flat rest w) b g change may.is ∙ sym (flat_is rest)

  -- a flat state is like itself, where its swap has 1024 words a page
  like_on : (rest : Flat) → Stands rest w → IsLike (on (standing_flat rest w) e) (standing_flat rest v)
  like_on rest st =
      let F : Flat = standing_flat rest w in
      let valid : IsValidFlat (on F e) = stays-valid F e st.valid mid_pager.small (may.allowed rest st) in
      subst (λ (G : Flat). IsLike (on F e) G) (flat_on rest) (record { pages = refl; tables = refl; frames = refl; words = refl; table = refl; swap = valid.swap })

  clean : (rest : Flat) (words : List ℕ) → Stands rest w → v.pages ≡ Some words → AreClean (standing_flat rest v)
  clean rest words st is =
      let F : Flat = standing_flat rest w in
      let a = above F g st.valid may.user (valid_declared F g st.valid may.user may.valid) in
      subst AreClean (sym (flat_is rest)) (clean_marked F g (changed_word change (word_of F g)) st.valid a (marks change (word_of F g) may.is) (st.clean words (sym store.pages ∙ is)))

  moved : IsMoved b g change w v (hold_of w) c
  moved = record {
    within = may.within;
    caches = refl;
    size = refl;
    tables = λ (rest : Flat) (st : Stands rest w). has_own (standing_flat rest w);
    like_tables = λ (rest F : Flat) (st : Stands rest w) (like : IsLike F (standing_flat rest w)). like-tables (with_told rest w.pages) F w.caches w.memory st.valid like;
    present = λ (rest : Flat) (st : Stands rest w). st.present;
    pager = mid_pager;
    allowed = may.allowed;
    told = λ (rest : Flat) (words : List ℕ) (st : Stands rest w) (is : w.pages ≡ Some words). sym (flat_on rest);
    like = like_on;
    framed = λ (rest : Flat) (st : Stands rest w). subst (λ (G : Flat). AreFramed G v.frames) (sym (flat_is rest)) (framed rest st);
    clean = clean;
    slots = store.slots;
    ahead = store.ahead;
    tells = ap served.tells store.pages;
  }

  pub runs : Runs b (Writes g e (changed_word change) ∷ []) w v
  runs = record {
    piece = c.fetched ++ e ∷ [];
    history = c.entries;
    room = c.room;
    done = done_one b g e (changed_word change) (hold_of w) c.mid (hold_of v) c.fetched c.fetch c.to_is;
    made = changes_made b g change (hold_of w) (hold_of v) (past_of w) (past_of v) may.within (small_user g may.user) may.starts c;
    keeps = moved-keeps b g change w v (hold_of w) c moved;
    carries = moved-is-carried b g change w v (hold_of w) c moved;
  }

  pub written : mark.IsMarked b g change w v
  written = record {
    word = ap (λ (ws : List ℕ). word_of (record (logical_flat w.caches w.memory) { words = ws }) g) (new_flat w v b g change c) ∙ word_same (logical_flat w.caches w.memory) g (changed_word change (hold_entry (hold_of w) g)) g place may.user refl;
    exclusive = c.writes.exclusive;
  }
    where
      mid_place : IsPlace (logical_flat c.mid.caches c.mid.memory) g
      mid_place = let has = ready_has c.mid.caches c.mid.memory b g c.fetch.ready in (entry_in c.mid.caches c.mid.memory b g has.line c.leads.walk mid_within may.user has.there).place

      place : IsPlace (logical_flat w.caches w.memory) g
      place = subst (λ (G : Flat). IsPlace G g) (same_flat w.caches c.mid.caches w.memory c.mid.memory c.leads.logical) mid_place
