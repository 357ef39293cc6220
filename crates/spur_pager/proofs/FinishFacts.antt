-- The leaving page is finished, and a frame is made free.
use Rattle.spur_pager.proofs.PlaceFacts.{within}
use Rattle.std.proofs.Common.{◌≡◌, ◌≢◌, ◌∙◌, ℕ, zero, suc, ◌+◌, ◌-◌, ◌<◌, ◌≤◌, true, false, ap, sym, refl, subst, List, [], ◌∷◌, ◌++◌, get_or, length, slice_set, Option, Some, None, arith}
use Rattle.std.specs.Prelude.{is_none, ◌&&◌, IsSome, OnErr, OnOk, Result, Ok, Err}
use Rattle.std.proofs.lemmas.List.{get_or-set_same}
use Rattle.std.proofs.lemmas.List as L
use Rattle.spur_addr.specs.Address.{entry_address_of, page_address, user_pages}
use Rattle.spur_addr.specs.PageEntry.{is_dirty, is_leaving, is_valid, number_of, protection_of, swapped_of}
use Rattle.spur_cache.specs.declared.line.Line.{Line}
use Rattle.spur_flat.specs.declared.flat.Flat.{Flat}
use Rattle.spur_flat.specs.declared.entry.Entry.{Entry}
use Rattle.spur_flat.specs.Pager.{word_of}
use Rattle.spur_flat.specs.State.{nothing_beside}
use Rattle.spur_snoop.specs.Protocol.{is_exclusive}
use Rattle.spur_bus.specs.Calls.{HasLine}
use Rattle.spur_bus.specs.Stand.{state_of}
use Rattle.spur_frames.specs.Frames.{AreFrames, Frames, IsFrame, IsFree, IsTaken, free_from, holder_of, least_free, looked_at, release_frame}
use Rattle.spur_frames.specs.Clock.{page_held, page_of_frame}
use Rattle.spur_frames.proofs.FreeFacts.{none-is-free, none-is-taken}
use Rattle.spur_walk.specs.Tables.{logical_flat}
use Rattle.spur_walk.proofs.StepFacts.{same_flat}
use Rattle.spur_pager.specs.View.{View}
use Rattle.spur_pager.specs.Stand.{FrameHolds, IsServable, Stands, entry_in, standing_flat, standing_state, with_told}
use Rattle.spur_pager.specs.Acts.{Act, Flushes, page_out}
use Rattle.spur_pager.specs.Service.{finish_acts, flush_acts, frame_held, free_service, freeing, leaving_service, number_or_zero, slot_held, slot_in, turn_of, until_leaving, outgoing_by, outgoing_frame}
use Rattle.spur_pager.specs.Room.{clock_room, entry_room, free_room, page_line_count}
use Rattle.spur_pager.specs.Runs.{Runs}
use Rattle.spur_pager.specs.Counts.{Counts, CountsFinish, CountsOut, count_if}
use Rattle.spur_pager.specs.Served.{CountsFreeing, IsStillLeaving, has_written, hold_of, tells, writes_to_free}
use Rattle.spur_pager.proofs.CountFacts.{SameSwap, counts_after}
use Rattle.spur_flat.specs.declared.access.FaultKind.TheVariants as fault
use Rattle.spur_pager.specs.Looks.{Clocks}
use Rattle.spur_pager.specs.Drops.{FlushesPage, IsLeavingPage}
use Rattle.spur_pager.specs.Moves.{FailsToGoOut, GoesOut, HasSwapFailed, MayGoOut}
use Rattle.spur_pager.specs.Finish.{FailsToFinish, FailsToFree, Finishes, Frees, HasLeaving}
use Rattle.spur_pager.proofs.EntryFacts.{leaving_page}
use Rattle.spur_pager.proofs.FetchFacts.{hold_same}
use Rattle.spur_pager.proofs.JoinFacts.{carried_none, runs_none, runs_then}
use Rattle.spur_pager.proofs.OptionFacts.{none_or_some, some_not_none}
use Rattle.spur_pager.proofs.TurnFacts.{nothing_runs, fewer}
use Rattle.spur_bus.proofs.LineFacts.{some_same}

-- what is said of an answer, said of what follows from it
pub on_ok : {T E P Q : Type 0} (r : Result T E) → (P → Q) → OnOk r P → OnOk r Q
on_ok (Ok x) f p = f p
on_ok (Err e) f p = tt

pub on_err : {T E P Q : Type 0} (r : Result T E) → (P → Q) → OnErr r P → OnErr r Q
on_err (Ok x) f p = tt
on_err (Err e) f p = f p

pub err_so : {T E P : Type 0} (r : Result T E) → P → OnErr r P
err_so (Ok x) p = tt
err_so (Err e) p = p

-- What was seen is the same but for the counts of the swap, the history and its room.
same_state : (rest : Flat) (w v : View) → HasSwapFailed w v → standing_state rest v ≡ standing_state rest w
same_state rest w v same =
    ap (λ (p : Option (List ℕ)). state_of (with_told rest p) v.caches v.memory (nothing_beside (length v.caches))) same.pages
    ∙ ap (λ (cs : List (List (Option Line))). state_of (with_told rest w.pages) cs v.memory (nothing_beside (length cs))) same.caches
    ∙ ap (λ (m : List ℕ). state_of (with_told rest w.pages) w.caches m (nothing_beside (length w.caches))) same.memory

-- a state stands by what is seen but for these
stands_so : (rest : Flat) (w : View) (faults reads writes room ahead : ℕ) (history : List Entry) → Stands rest w
    → Stands rest (record w { faults = faults; reads = reads; writes = writes; room = room; history = history; ahead = ahead })
stands_so rest w faults reads writes room ahead history st = record { walk = st.walk; valid = st.valid; present = st.present; framed = st.framed; slots = st.slots; clean = st.clean }

still_stands : (rest : Flat) (w v : View) → HasSwapFailed w v → Stands rest w → Stands rest v
still_stands rest w v same st =
    subst (λ (cs : List (List (Option Line))). Stands rest (record v { caches = cs })) (sym same.caches)
    (subst (λ (m : List ℕ). Stands rest (record v { caches = w.caches; memory = m })) (sym same.memory)
    (subst (λ (fs : Frames). Stands rest (record v { caches = w.caches; memory = w.memory; frames = fs })) (sym same.frames)
    (subst (λ (p : Option (List ℕ)). Stands rest (record v { caches = w.caches; memory = w.memory; frames = w.frames; pages = p })) (sym same.pages)
    (subst (λ (n : ℕ). Stands rest (record v { caches = w.caches; memory = w.memory; frames = w.frames; pages = w.pages; slots = n })) (sym same.slots)
    (stands_so rest w v.faults v.reads v.writes v.room v.ahead v.history st)))))

-- after a fault of the swap no act was done
pub failed_runs : (b : ℕ) (w v : View) → HasSwapFailed w v → Runs b [] w v
failed_runs b w v same =
    runs_none b w v
    (hold_same (hold_of v) (hold_of w) same.caches same.memory)
    same.history same.room
    (record {
      boards = ap (λ (cs : List (List (Option Line))). length cs) same.caches;
      lines = ap (λ (cs : List (List (Option Line))). length (get_or cs 0 [])) same.caches;
      memory = ap (λ (m : List ℕ). length m) same.memory;
      slots = same.slots;
      tells = ap tells same.pages;
      ahead = same.ahead;
    })
    (λ (rest : Flat) (st : Stands rest w). record { carried = carried_none rest w v (same_state rest w v same); stands = still_stands rest w v same st })

-- the entries are the same
pub failed_entry : (w v : View) (page : ℕ) → HasSwapFailed w v → entry_in v page ≡ entry_in w page
failed_entry w v page same =
    ap (λ (cs : List (List (Option Line))). word_of (logical_flat cs v.memory) (page_address page)) same.caches
    ∙ ap (λ (m : List ℕ). word_of (logical_flat w.caches m) (page_address page)) same.memory

-- the page of the leaving frame
pub record IsOfLeaving (w : View) (frame page slot : ℕ) : Type 0 where
  pub taken : IsTaken w.frames frame
  pub held : holder_of w.frames frame ≡ Some (page, slot)
  pub leaving : w.frames.leaving ≡ Some frame

pub leaving_holds : (rest : Flat) (w : View) (frame page slot : ℕ) → Stands rest w → IsOfLeaving w frame page slot → FrameHolds (standing_flat rest w) frame page slot
leaving_holds rest w frame page slot st l = st.framed.taken frame page slot (record { low = l.taken.low; high = l.taken.high }) l.held

pub leaving_is : (rest : Flat) (w : View) (frame page slot : ℕ) → Stands rest w → IsOfLeaving w frame page slot → IsLeavingPage w page
leaving_is rest w frame page slot st l =
    let h = leaving_holds rest w frame page slot st l in
    record {
      small = h.small;
      valid = h.valid;
      leaving = subst (λ (p : ℕ). is_leaving (word_of (standing_flat rest w) (page_address p)) ≡ true) (ap page_held l.held) (st.framed.leaving frame l.leaving);
    }

-- its lines are flushed: it may go out
same_entries : (w u : View) (b page other : ℕ) → FlushesPage b page w u → entry_in u other ≡ entry_in w other
same_entries w u b page other f = ap (λ (F : Flat). word_of F (page_address other)) (same_flat w.caches u.caches w.memory u.memory f.logical)

pub may_go_out : (rest : Flat) (w u : View) (b frame page slot : ℕ) → Stands rest w → b < length w.caches → IsOfLeaving w frame page slot → FlushesPage b page w u → u.frames ≡ w.frames → MayGoOut u b frame page slot
may_go_out rest w u b frame page slot st within l f frames =
    let is = leaving_is rest w frame page slot st l in
    let same = same_entries w u b page page f in
    record {
      within = subst (λ (n : ℕ). b < n) (sym f.runs.keeps.boards) within;
      is_frame = subst (λ (fs : Frames). IsFrame fs frame) (sym frames) (record { low = l.taken.low; high = l.taken.high });
      held = ap (λ (fs : Frames). holder_of fs frame) frames ∙ l.held;
      leaving = record { small = is.small; valid = ap (λ (e : ℕ). is_valid e) same ∙ is.valid; leaving = ap (λ (e : ℕ). is_leaving e) same ∙ is.leaving };
      unheld = f.unheld;
    }

-- one that is not valid is another
other_page : (w : View) (page other : ℕ) → is_valid (entry_in w page) ≡ true → is_valid (entry_in w other) ≡ false → other ≢ page
other_page w page other valid absent same = let clash : true ≡ false = sym valid ∙ ap (λ (p : ℕ). is_valid (entry_in w p)) (sym same) ∙ absent in cc

finish_room_left : (n x y z : ℕ) → y + n ≡ x → y ≤ z + 5 → x ≤ z + (n + 5)
finish_room_left n x y z used more = omega arith

pub finished : (rest : Flat) (w u v : View) (b frame page slot : ℕ) → Stands rest w → IsOfLeaving w frame page slot → FlushesPage b page w u → u.frames ≡ w.frames → GoesOut b frame page slot u v → Finishes b frame w v
finished rest w u v b frame page slot st l f frames out =
    let page_is : page ≡ page_of_frame w.frames frame = sym (ap page_held l.held) in
    let slot_is : slot ≡ slot_in w.frames frame = sym (ap slot_held l.held) in
    let is = leaving_is rest w frame page slot st l in
    let acts : Flushes page ∷ page_out b page slot ∷ [] ≡ finish_acts b w.frames frame =
    ap (λ (p : ℕ). Flushes p ∷ page_out b p slot ∷ []) page_is ∙ ap (λ (s : ℕ). Flushes (page_of_frame w.frames frame) ∷ page_out b (page_of_frame w.frames frame) s ∷ []) slot_is in
    record {
      runs = subst (λ (done : List Act). Runs b done w v) acts (runs_then b (Flushes page ∷ []) (page_out b page slot ∷ []) w u v f.runs out.runs);
      frames = out.frames ∙ ap (λ (fs : Frames). release_frame fs frame) frames;
      room = subst (λ (p : ℕ). w.room ≤ v.room + (page_line_count w.caches p + 5)) page_is (finish_room_left (page_line_count w.caches page) w.room u.room v.room f.room out.room);
      word = ap (entry_in v) (sym page_is) ∙ out.word ∙ ap (λ (e : ℕ). swapped_of slot (protection_of e)) (same_entries w u b page page f ∙ ap (entry_in w) page_is)
          ∙ ap (λ (s : ℕ). swapped_of s (protection_of (entry_in w (page_of_frame w.frames frame)))) slot_is;
      absent = λ (other : ℕ) (small : other < user_pages) (absent : is_valid (entry_in w other) ≡ false).
          out.others other small (other_page w page other is.valid absent) ∙ same_entries w u b page other f;
      exclusive = subst (λ (p : ℕ). HasLine v.caches b (entry_address_of (page_address p)) is_exclusive) page_is out.exclusive;
    }

pub not_finished : (w u v : View) (b frame page slot : ℕ) → IsOfLeaving w frame page slot → FlushesPage b page w u → u.frames ≡ w.frames → u.faults ≡ w.faults → FailsToGoOut page u v → FailsToFinish b frame w v
not_finished w u v b frame page slot l f frames faults out =
    let page_is : page ≡ page_of_frame w.frames frame = sym (ap page_held l.held) in
    record {
      runs = subst (λ (p : ℕ). Runs b (Flushes p ∷ []) w v) page_is (runs_then b (Flushes page ∷ []) [] w u v f.runs (failed_runs b u v out.failed));
      frames = out.failed.frames ∙ frames;
      room = subst (λ (p : ℕ). w.room ≤ v.room + page_line_count w.caches p) page_is (left (page_line_count w.caches page) w.room u.room v.room f.room out.failed.room);
      none = subst (λ (p : ℕ). page_line_count v.caches p ≡ 0) page_is (ap (λ (cs : List (List (Option Line))). page_line_count cs page) out.failed.caches ∙ f.none);
      word = subst (λ (p : ℕ). entry_in v p ≡ entry_in w p) page_is (failed_entry u v page out.failed ∙ same_entries w u b page page f);
      dirty = subst (λ (p : ℕ). is_dirty (entry_in w p) ≡ true) page_is (ap (λ (e : ℕ). is_dirty e) (sym (same_entries w u b page page f)) ∙ out.dirty);
      rose = subst (λ (n : ℕ). n < v.faults) faults out.failed.rose;
    }
  where
    left : (n x y z : ℕ) → y + n ≡ x → z ≡ y → x ≤ z + n
    left n x y z used same = omega arith

at_least : (m n : ℕ) → m ≤ m + n
at_least m n = omega arith

-- a page is leaving already
pub was_leaving : (b : ℕ) (w : View) (frame : ℕ) → w.frames.leaving ≡ Some frame → IsTaken w.frames frame → HasLeaving b w w frame
was_leaving b w frame is taken = record {
  runs = subst (λ (o : Option ℕ). Runs b (until_leaving b w o).acts w w) (sym is) (nothing_runs b w);
  frames = sym (ap (λ (o : Option ℕ). (until_leaving b w o).frames) is);
  is = sym (ap (λ (o : Option ℕ). outgoing_by o (turn_of w).leaves) is);
  leaving = is;
  taken = taken;
  room = at_least w.room (clock_room w w.frames.leaving);
  absent = λ (page : ℕ) (small : page < user_pages) (absent : is_valid (entry_in w page) ≡ false). refl;
  dirty = λ (page : ℕ) (small : page < user_pages). refl;
  lines = λ (page : ℕ) (small : page < user_pages). same_least (page_line_count w.caches page);
}
  where
    same_least : (m : ℕ) → m ≤ m
    same_least m = omega arith

-- or the clock chose one
pub is_leaving_now : (b : ℕ) (w v : View) (frame : ℕ) → w.frames.leaving ≡ None → Clocks b w v → v.frames.leaving ≡ Some frame → IsTaken v.frames frame → HasLeaving b w v frame
is_leaving_now b w v frame none c is taken = record {
  runs = subst (λ (o : Option ℕ). Runs b (until_leaving b w o).acts w v) (sym none) c.runs;
  frames = c.frames ∙ sym (ap (λ (o : Option ℕ). (until_leaving b w o).frames) none);
  is = some_same frame (frame_held (turn_of w).leaves) (sym is ∙ ap (λ (fs : Frames). fs.leaving) c.frames) ∙ sym (ap (λ (o : Option ℕ). outgoing_by o (turn_of w).leaves) none);
  leaving = is;
  taken = taken;
  room = subst (λ (o : Option ℕ). w.room ≤ v.room + clock_room w o) (sym none) c.room;
  absent = c.absent;
  dirty = c.dirty;
  lines = c.lines;
}

pub none_is : (o : Option ℕ) → ((n : ℕ) → o ≡ Some n → ⊥) → o ≡ None
none_is None h = refl
none_is (Some n) h = absurd (h n refl)

-- where no frame is free, the clock finds one
pub full_looks : (frames : Frames) → AreFrames frames → least_free frames ≡ None → IsSome (looked_at frames)
full_looks frames table full =
    let some : 1 ≤ length frames.held = table.some in
    let first : IsFrame frames frames.first = record { low = omega arith; high = omega arith } in
    none_or_some (looked_at frames)
    (λ (h : looked_at frames ≡ None). some_not_none (holder_of frames frames.first) ((none-is-free frames).0 full frames.first first) ((none-is-taken frames table).0 h frames.first first))

-- what was chosen holds the same page
same_first : (b : ℕ) (w : View) (o : Option ℕ) → (until_leaving b w o).frames.first ≡ w.frames.first
same_first b w None = refl
same_first b w (Some frame) = refl

same_held : (b : ℕ) (w : View) (o : Option ℕ) → (until_leaving b w o).frames.held ≡ w.frames.held
same_held b w None = refl
same_held b w (Some frame) = refl

pub same_holder : (b : ℕ) (w u : View) (frame : ℕ) → HasLeaving b w u frame → holder_of u.frames frame ≡ holder_of w.frames (outgoing_frame w)
same_holder b w u frame l =
    ap (λ (fs : Frames). get_or fs.held (frame - fs.first) None) l.frames
    ∙ ap (λ (n : ℕ). get_or (leaving_service b w).frames.held (frame - n) None) (same_first b w w.frames.leaving)
    ∙ ap (λ (held : List (Option (ℕ × ℕ))). get_or held (frame - w.frames.first) None) (same_held b w w.frames.leaving)
    ∙ ap (λ (n : ℕ). holder_of w.frames n) l.is

pub same_page : (b : ℕ) (w u : View) (frame : ℕ) → HasLeaving b w u frame → page_of_frame u.frames frame ≡ page_of_frame w.frames (outgoing_frame w)
same_page b w u frame l = ap page_held (same_holder b w u frame l)

same_slot : (b : ℕ) (w u : View) (frame : ℕ) → HasLeaving b w u frame → slot_in u.frames frame ≡ slot_in w.frames (outgoing_frame w)
same_slot b w u frame l = ap slot_held (same_holder b w u frame l)

-- the page of the frame that is leaving now is one below segment 255
leaving_small : (b : ℕ) (w u : View) (frame : ℕ) → IsServable w → HasLeaving b w u frame → page_of_frame u.frames frame < user_pages
leaving_small b w u frame s l =
    let st = (l.runs.carries s.rest s.stands).stands in
    leaving_page (standing_flat s.rest u) u.frames frame st.framed (record { low = l.taken.low; high = l.taken.high }) l.taken.taken

-- which has no more lines than it had
fewer_lines : (b : ℕ) (w u : View) (frame : ℕ) → IsServable w → HasLeaving b w u frame → page_line_count u.caches (page_of_frame u.frames frame) ≤ page_line_count w.caches (page_of_frame w.frames (outgoing_frame w))
fewer_lines b w u frame s l =
    subst (λ (p : ℕ). page_line_count u.caches (page_of_frame u.frames frame) ≤ page_line_count w.caches p) (same_page b w u frame l) (l.lines (page_of_frame u.frames frame) (leaving_small b w u frame s l))

pub room_to_finish : (b : ℕ) (w u : View) (frame : ℕ) → IsServable w → least_free w.frames ≡ None → HasLeaving b w u frame → free_room w (least_free w.frames) ≤ w.room → page_line_count u.caches (page_of_frame u.frames frame) + entry_room ≤ u.room
room_to_finish b w u frame s full l enough =
    let needed : free_room w None ≤ w.room = subst (λ (o : Option ℕ). free_room w o ≤ w.room) full enough in
    left (clock_room w w.frames.leaving) (page_line_count w.caches (page_of_frame w.frames (outgoing_frame w))) (page_line_count u.caches (page_of_frame u.frames frame)) w.room u.room needed l.room (fewer_lines b w u frame s l)
  where
    left : (c m n x y : ℕ) → c + (m + 5) ≤ x → x ≤ y + c → n ≤ m → n + 5 ≤ y
    left c m n x y needed used fewer = omega arith

-- one was free
pub was_free : (b : ℕ) (w : View) (frame : ℕ) → least_free w.frames ≡ Some frame → IsFree w.frames frame → Frees b w w frame
was_free b w frame is free = record {
  runs = subst (λ (o : Option ℕ). Runs b (freeing b w o).acts w w) (sym is) (nothing_runs b w);
  frames = sym (ap (λ (o : Option ℕ). (freeing b w o).frames) is);
  is = sym (ap (λ (fs : Frames). number_or_zero (least_free fs)) (ap (λ (o : Option ℕ). (freeing b w o).frames) is) ∙ ap number_or_zero is);
  least = is;
  free = free;
  room = at_least w.room (free_room w (least_free w.frames));
  absent = λ (page : ℕ) (small : page < user_pages) (absent : is_valid (entry_in w page) ≡ false). refl;
}

finish_acts_same : (b : ℕ) (w u : View) (frame : ℕ) → HasLeaving b w u frame → finish_acts b u.frames frame ≡ finish_acts b w.frames (outgoing_frame w)
finish_acts_same b w u frame l =
    ap (λ (p : ℕ). Flushes p ∷ page_out b p (slot_in u.frames frame) ∷ []) (same_page b w u frame l)
    ∙ ap (λ (s : ℕ). Flushes (page_of_frame w.frames (outgoing_frame w)) ∷ page_out b (page_of_frame w.frames (outgoing_frame w)) s ∷ []) (same_slot b w u frame l)

-- the least free frame of a full table of which one was released
one_free : (k : ℕ) (held : List (Option (ℕ × ℕ))) (i : ℕ) → free_from k held ≡ None → i < length held → free_from k (slice_set held i None) ≡ Some (k + i)
one_free k [] i full inside = absurd (omega arith)
one_free k (None ∷ rest) i full inside = cc
one_free k (Some h ∷ rest) zero full inside = let same : k ≡ k + 0 = omega arith in ap (λ (n : ℕ). Some n) same
one_free k (Some h ∷ rest) (suc i) full inside = let same : k + 1 + i ≡ k + suc i = omega arith in one_free (k + 1) rest i full (omega arith) ∙ ap (λ (n : ℕ). Some n) same

pub released_least : (frames : Frames) (frame : ℕ) → IsTaken frames frame → least_free frames ≡ None → least_free (release_frame frames frame) ≡ Some frame
released_least frames frame t full =
    let low : frames.first ≤ frame = t.low in
    let high : frame < frames.first + length frames.held = t.high in
    let same : frames.first + (frame - frames.first) ≡ frame = omega arith in
    one_free frames.first frames.held (frame - frames.first) full (omega arith) ∙ ap (λ (n : ℕ). Some n) same

pub released_is_free : (frames : Frames) (frame : ℕ) → IsTaken frames frame → IsFree (release_frame frames frame) frame
released_is_free frames frame t =
    let low : frames.first ≤ frame = t.low in
    let high : frame < frames.first + length frames.held = t.high in
    let inside : frame - frames.first < length frames.held = omega arith in
    record {
      low = low;
      high = subst (λ (n : ℕ). frame < frames.first + n) (sym (L.length-set frames.held (frame - frames.first) None)) high;
      free = get_or-set_same frames.held (frame - frames.first) None None inside;
    }

-- none is free once a page is leaving, where none was
still_full : (b : ℕ) (w u : View) (frame : ℕ) → least_free w.frames ≡ None → HasLeaving b w u frame → least_free u.frames ≡ None
still_full b w u frame full l =
    ap (λ (fs : Frames). free_from fs.first fs.held) l.frames
    ∙ ap (λ (n : ℕ). free_from n (leaving_service b w).frames.held) (same_first b w w.frames.leaving)
    ∙ ap (λ (held : List (Option (ℕ × ℕ))). free_from w.frames.first held) (same_held b w w.frames.leaving)
    ∙ full

-- or is now, since a page went out
pub freed : (b : ℕ) (w u v : View) (leaving : ℕ) → IsServable w → least_free w.frames ≡ None → HasLeaving b w u leaving → Finishes b leaving u v → Frees b w v leaving
freed b w u v leaving s full l f =
    let frames : v.frames ≡ (freeing b w None).frames =
    f.frames ∙ ap (λ (fs : Frames). release_frame fs leaving) l.frames ∙ ap (λ (n : ℕ). release_frame (leaving_service b w).frames n) l.is in
    let course : (freeing b w None).frames ≡ (free_service b w).frames = sym (ap (λ (o : Option ℕ). (freeing b w o).frames) full) in
    let least : least_free v.frames ≡ Some leaving = ap (λ (fs : Frames). least_free fs) f.frames ∙ released_least u.frames leaving l.taken (still_full b w u leaving full l) in
    record {
      runs = subst (λ (o : Option ℕ). Runs b (freeing b w o).acts w v) (sym full)
          (subst (λ (done : List Act). Runs b ((leaving_service b w).acts ++ done) w v) (finish_acts_same b w u leaving l)
          (runs_then b (leaving_service b w).acts (finish_acts b u.frames leaving) w u v l.runs f.runs));
      frames = frames ∙ course;
      is = some_number leaving (least_free v.frames) least ∙ ap (λ (fs : Frames). number_or_zero (least_free fs)) (frames ∙ course);
      least = least;
      free = subst (λ (fs : Frames). IsFree fs leaving) (sym f.frames) (released_is_free u.frames leaving l.taken);
      room = subst (λ (o : Option ℕ). w.room ≤ v.room + free_room w o) (sym full)
          (sum (clock_room w w.frames.leaving) (page_line_count w.caches (page_of_frame w.frames (outgoing_frame w))) (page_line_count u.caches (page_of_frame u.frames leaving)) w.room u.room v.room l.room f.room (fewer_lines b w u leaving s l));
      absent = λ (page : ℕ) (small : page < user_pages) (absent : is_valid (entry_in w page) ≡ false).
          let one = l.absent page small absent in
          f.absent page small (ap (λ (e : ℕ). is_valid e) one ∙ absent) ∙ one;
    }
  where
    some_number : (n : ℕ) (o : Option ℕ) → o ≡ Some n → n ≡ number_or_zero o
    some_number n o is = sym (ap number_or_zero is)

    sum : (c m n x y z : ℕ) → x ≤ y + c → y ≤ z + (n + 5) → n ≤ m → x ≤ z + (c + (m + 5))
    sum c m n x y z first second fewer = omega arith

-- a taken frame holds a page, and its slot
record Holds (o : Option (ℕ × ℕ)) : Type 0 where
  pub page : ℕ
  pub slot : ℕ
  pub is : o ≡ Some (page, slot)

holds_some : (o : Option (ℕ × ℕ)) → IsSome o → Holds o
holds_some None some = cc
holds_some (Some p) some = record { page = p.0; slot = p.1; is = refl }

-- the page that could not go out is still there, and leaving
pub still_leaving : (b : ℕ) (w u v : View) (leaving : ℕ) → IsServable w → HasLeaving b w u leaving → FailsToFinish b leaving u v → IsStillLeaving w v
still_leaving b w u v leaving s l f =
    let st = (l.runs.carries s.rest s.stands).stands in
    let same = same_page b w u leaving l in
    let held = holds_some (holder_of u.frames leaving) l.taken.taken in
    let h = st.framed.taken leaving held.page held.slot (record { low = l.taken.low; high = l.taken.high }) held.is in
    let page_is : held.page ≡ page_of_frame w.frames (outgoing_frame w) = sym (ap page_held held.is) ∙ same in
    let word : entry_in v (page_of_frame w.frames (outgoing_frame w)) ≡ entry_in u (page_of_frame w.frames (outgoing_frame w)) = subst (λ (p : ℕ). entry_in v p ≡ entry_in u p) same f.word in
    record {
      flushed = subst (λ (p : ℕ). page_line_count v.caches p ≡ 0) same f.none;
      valid = ap (λ (e : ℕ). is_valid e) word ∙ subst (λ (p : ℕ). is_valid (entry_in u p) ≡ true) page_is h.valid;
      number = ap (λ (e : ℕ). number_of e) word ∙ subst (λ (p : ℕ). number_of (entry_in u p) ≡ leaving) page_is h.number ∙ l.is;
      leaving = ap (λ (e : ℕ). is_leaving e) word ∙ subst (λ (p : ℕ). is_leaving (entry_in u p) ≡ true) same (st.framed.leaving leaving l.leaving);
      dirty = ap (λ (e : ℕ). is_dirty e) word ∙ subst (λ (p : ℕ). is_dirty (entry_in u p) ≡ true) same f.dirty;
      frame = ap (λ (fs : Frames). fs.leaving) f.frames ∙ l.leaving ∙ ap (λ (n : ℕ). Some n) l.is;
    }

pub not_freed : (b : ℕ) (w u v : View) (leaving : ℕ) → IsServable w → least_free w.frames ≡ None → HasLeaving b w u leaving → u.faults ≡ w.faults → FailsToFinish b leaving u v → FailsToFree b w v
not_freed b w u v leaving s full l faults f = record {
  full = full;
  runs = subst (λ (p : ℕ). Runs b ((leaving_service b w).acts ++ Flushes p ∷ []) w v) (same_page b w u leaving l) (runs_then b (leaving_service b w).acts (flush_acts u.frames leaving) w u v l.runs f.runs);
  frames = f.frames ∙ l.frames;
  room = subst (λ (o : Option ℕ). w.room ≤ v.room + free_room w o) (sym full)
      (sum (clock_room w w.frames.leaving) (page_line_count w.caches (page_of_frame w.frames (outgoing_frame w))) (page_line_count u.caches (page_of_frame u.frames leaving)) w.room u.room v.room l.room f.room (fewer_lines b w u leaving s l));
  still = still_leaving b w u v leaving s l f;
  rose = subst (λ (n : ℕ). n < v.faults) faults f.rose;
}
  where
    sum : (c m n x y z : ℕ) → x ≤ y + c → y ≤ z + n → n ≤ m → x ≤ z + (c + (m + 5))
    sum c m n x y z first second fewer = omega arith

-- the page of a frame goes out once its lines are flushed: it is written where it was dirty before
pub counts_finish : (w u v : View) (b frame page slot : ℕ) → IsOfLeaving w frame page slot → FlushesPage b page w u → SameSwap w u → CountsOut page u v → CountsFinish frame w v
counts_finish w u v b frame page slot l f same c =
    counts_after w u v false (is_dirty (entry_in u page)) (is_dirty (entry_in w (page_of_frame w.frames frame))) same
    (ap (λ (e : ℕ). is_dirty e) (same_entries w u b page page f ∙ ap (entry_in w) (sym (ap page_held l.held)))) c

-- and after the clock, which leaves each dirty bit as it is, the page that was to go out from the start
pub counts_freeing : (b : ℕ) (w u v : View) (leaving : ℕ) → IsServable w → least_free w.frames ≡ None → HasLeaving b w u leaving → SameSwap w u → CountsFinish leaving u v → CountsFreeing w v
counts_freeing b w u v leaving s full l same c =
    let page : ℕ = page_of_frame u.frames leaving in
    counts_after w u v false (is_dirty (entry_in u page)) (writes_to_free w) same
    (l.dirty page (leaving_small b w u leaving s l) ∙ ap (λ (p : ℕ). is_dirty (entry_in w p)) (same_page b w u leaving l)
    ∙ sym (ap (λ (o : Option ℕ). is_none o && is_dirty (entry_in w (page_of_frame w.frames (outgoing_frame w)))) full)) c

-- the page of the leaving frame is the one that goes out
pub counts_leaving : (w v : View) (frame : ℕ) → w.frames.leaving ≡ Some frame → CountsFinish frame w v → Counts false (has_written w fault.Leaving) w v
counts_leaving w v frame is c =
    subst (λ (n : ℕ). Counts false (is_dirty (entry_in w (page_of_frame w.frames n))) w v) (sym (ap (λ (o : Option ℕ). outgoing_by o (turn_of w).leaves) is)) c

-- where a frame was free, the swap is not called
pub counts_none : (w v : View) (frame : ℕ) → least_free w.frames ≡ Some frame → SameSwap w v → CountsFreeing w v
counts_none w v frame is same = record {
  reads = same.reads;
  writes = same.writes ∙ sym (ap (λ (o : Option ℕ). count_if (is_none o && is_dirty (entry_in w (page_of_frame w.frames (outgoing_frame w)))) w.writes) is);
  later = subst (λ (n : ℕ). w.faults ≤ n) (sym same.faults) (omega arith);
}

-- a page that was not written to goes out without the swap
pub clean_still : {B : Type 0} (w u : View) (b frame page slot : ℕ) (old mid new : B) → IsOfLeaving w frame page slot → FlushesPage b page w u → mid ≡ old → (is_dirty (entry_in u page) ≡ false → new ≡ mid)
    → is_dirty (entry_in w (page_of_frame w.frames frame)) ≡ false → new ≡ old
clean_still w u b frame page slot old mid new l f same unwritten clean =
    unwritten (ap (λ (e : ℕ). is_dirty e) (same_entries w u b page page f ∙ ap (entry_in w) (sym (ap page_held l.held))) ∙ clean) ∙ same

-- one was free, so that none was not
pub some_none : {P : Type 0} (o : Option ℕ) → o ≡ None → IsSome o → P
some_none None is some = cc
some_none (Some n) is some = cc
