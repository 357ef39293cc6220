-- A step ahead: which entries it appends, and what it leaves.
use Rattle.std.proofs.Common.{◌*◌, ◌≡◌, ◌∙◌, ℕ, zero, suc, ◌+◌, ◌-◌, ◌<◌, ◌≤◌, if◌then◌else◌, nat_lt, Bool, true, false, ap, sym, refl, subst, List, [], ◌∷◌, ◌++◌, length, map, take, Option, Some, None, arith}
use Rattle.std.specs.Option.{option_map}
use Rattle.std.specs.Result.{is_ok}
use Rattle.std.specs.Prelude.{◌&&◌, not, is_none, IsSome, OnErr, OnOk, Result, Ok, Err}
use Rattle.std.specs.List.{AllByRecursion}
use Rattle.std.proofs.lemmas.Bool.{eq-eqb, le-ltb, lt-ltb, ltb-false}
use Rattle.std.proofs.lemmas.List.{append-nil, length-set, take_all}
use Rattle.std.proofs.lemmas.List.Elements.{filter-append}
use Rattle.spur_addr.specs.PageEntry.{is_dirty, protection_of, swapped_of, with_bit}
use Rattle.spur_cache.specs.declared.line.Line.{Line}
use Rattle.spur_cache.specs.Lines.{is_of_page}
use Rattle.spur_flat.specs.declared.flat.Flat.{Flat}
use Rattle.spur_flat.specs.declared.entry.Entry.{Entry}
use Rattle.spur_flat.specs.declared.entry.Entry.TheVariants.{BlockFlush, ClearRef, Leave, PageOut}
use Rattle.spur_flat.specs.declared.entry.Entry.TheVariants as entry
use Rattle.spur_addr.specs.Address.{block_start_of, entry_address_of, page_address}
use Rattle.spur_frames.specs.Frames.{Frames, IsFree, IsTaken, least_free, other_than, release_frame}
use Rattle.spur_frames.proofs.ClockFacts.{cleared-are-few}
use Rattle.spur_frames.specs.Clock.{page_held, page_of_frame}
use Rattle.spur_walk.specs.declared.plan.Plan.{Plan}
use Rattle.spur_walk.specs.declared.plan.Plan.TheVariants as plan
use Rattle.spur_walk.specs.declared.step.Walked.TheVariants as walked
use Rattle.spur_walk.specs.Plan.{page_plan}
use Rattle.spur_walk.specs.Steps.{answer_of}
use Rattle.spur_walk.specs.Tables.{block_address}
use Rattle.spur_pager.specs.View.{View}
use Rattle.spur_pager.specs.Stand.{AreCarried, IsServable, Stands, entry_in}
use Rattle.spur_pager.specs.Acts.{Act, FlushedFirst, Flushed, Flushes, FlushesFirst, Goes, Hold, IsDone, IsWay, NoAct, Stays, Writes, Written, after_flushes, clear_referenced, flushed_hold, flushes_from, flushes_in, leave, page_out, written_in}
use Rattle.spur_pager.specs.Service.{Service, bits_in, slot_in, frame_held, no_service, turn_of, until_leaving}
use Rattle.spur_pager.specs.Room.{clock_room, page_line_count}
use Rattle.spur_pager.specs.Reserve.{leaving_left, leaving_room}
use Rattle.spur_pager.specs.Runs.{Runs}
use Rattle.spur_pager.specs.Served.{IsCarriedOn, IsStillLeaving, appended, hold_of}
use Rattle.spur_flat.specs.Formed.{IsMade}
use Rattle.spur_pager.specs.Counts.{Counts, CountsFinish, CountsOut}
use Rattle.spur_pager.proofs.CountFacts.{SameSwap, counts_same}
use Rattle.spur_pager.specs.Looks.{Clocks}
use Rattle.spur_pager.specs.Moves.{FailsToGoOut, GoesOut}
use Rattle.spur_pager.specs.Flushes.{FlushesAll, FlushesPart}
use Rattle.spur_pager.specs.Ahead.{AheadFits, DoesAhead, LeavesLess, LeavesOn, ahead_room, ahead_service, entries_by, go_ahead, goes_ahead, has_more, is_of_leaving, leave_on, leaving_entries, out_entries, room_by, writes_ahead, writes_by, writes_on}
use Rattle.spur_pager.proofs.AheadFacts.{appended_is}
use Rattle.spur_pager.proofs.BoundFacts.{page-lines-are-few}
use Rattle.spur_pager.proofs.ServeFacts.{some_free}
use Rattle.spur_pager.proofs.ServiceFacts.{HasSameFrames}
use Rattle.spur_pager.proofs.FlushFacts.{count_from}
use Rattle.spur_flat.proofs.FormedFacts.{own_of_made}
use Rattle.spur_pager.proofs.TurnFacts.{nothing_runs}
use Rattle.spur_pager.proofs.FinishFacts.{IsOfLeaving, clean_still, counts_finish, finished, not_finished, released_is_free, still_leaving, was_leaving}

-- what may still be appended so that a page leaves

left_by : (w : View) (o : Option ℕ) → w.frames.leaving ≡ o
    → leaving_left w ≡ leaving_room (length w.frames.held) (length w.caches) (option_map (λ (frame : ℕ). page_line_count w.caches (page_of_frame w.frames frame)) o) (least_free w.frames)
left_by w o is = ap (λ (x : Option ℕ). leaving_room (length w.frames.held) (length w.caches) (option_map (λ (frame : ℕ). page_line_count w.caches (page_of_frame w.frames frame)) x) (least_free w.frames)) is

left_is : (w : View) (frame : ℕ) → w.frames.leaving ≡ Some frame → leaving_left w ≡ page_line_count w.caches (page_of_frame w.frames frame) + 5
left_is w frame is = left_by w (Some frame) is

left_same : (w v : View) (frame n : ℕ) → w.frames.leaving ≡ Some frame → v.frames ≡ w.frames → page_line_count v.caches (page_of_frame w.frames frame) ≡ n → leaving_left v ≡ n + 5
left_same w v frame n is frames few =
    left_is v frame (ap (λ (fs : Frames). fs.leaving) frames ∙ is) ∙ ap (λ (fs : Frames). page_line_count v.caches (page_of_frame fs frame) + 5) frames ∙ ap (λ (m : ℕ). m + 5) few

nothing_left : (frames boards : ℕ) (o : Option ℕ) → IsSome o → leaving_room frames boards None o ≡ 0
nothing_left frames boards None some = cc
nothing_left frames boards (Some frame) some = refl

other_same : (frame : ℕ) → other_than (Some frame) frame ≡ None
other_same frame = ap (λ (t : Bool). if t then None else Some frame) (eq-eqb frame frame refl)

left_out : (w v : View) (frame : ℕ) → w.frames.leaving ≡ Some frame → IsTaken w.frames frame → v.frames ≡ release_frame w.frames frame → leaving_left v ≡ 0
left_out w v frame is taken frames =
    let none : v.frames.leaving ≡ None = ap (λ (fs : Frames). fs.leaving) frames ∙ ap (λ (o : Option ℕ). other_than o frame) is ∙ other_same frame in
    left_by v None none
    ∙ nothing_left (length v.frames.held) (length v.caches) (least_free v.frames) (some_free v.frames frame (subst (λ (fs : Frames). IsFree fs frame) (sym frames) (released_is_free w.frames frame taken)))

-- the leaving page leaves on: more lines of it are left

some_left : (page frame : ℕ) (w : View) → page ≡ page_of_frame w.frames frame → w.ahead < page_line_count w.caches page → has_more w frame ≡ true
some_left page frame w is more = ap (λ (p : ℕ). nat_lt w.ahead (page_line_count w.caches p)) (sym is) ∙ lt-ltb w.ahead (page_line_count w.caches page) more

none_left : (page frame : ℕ) (w : View) → page ≡ page_of_frame w.frames frame → page_line_count w.caches page ≤ w.ahead → has_more w frame ≡ false
none_left page frame w is few = ap (λ (p : ℕ). nat_lt w.ahead (page_line_count w.caches p)) (sym is) ∙ le-ltb w.ahead (page_line_count w.caches page) few

pub leaves_part : (b frame page slot : ℕ) (w v : View) → IsOfLeaving w frame page slot → FlushesPart b page w.ahead w v → v.frames ≡ w.frames → LeavesOn b frame w true v
leaves_part b frame page slot w v l f frames =
    let is : page ≡ page_of_frame w.frames frame = sym (ap page_held l.held) in
    let more = some_left page frame w is f.more in
    let used : v.room + w.ahead ≡ w.room = f.room in
    let many : w.ahead < page_line_count w.caches page = f.more in
    let room : w.room ≤ v.room + (page_line_count w.caches page + 5) = omega arith in
    record {
      runs = subst (λ (t : Bool). Runs b (leave_on b w frame t true).acts w v) (sym more) (subst (λ (p : ℕ). Runs b (FlushesFirst p w.ahead ∷ []) w v) is f.runs);
      frames = frames ∙ sym (ap (λ (t : Bool). (leave_on b w frame t true).frames) more);
      room = subst (λ (p : ℕ). w.room ≤ v.room + (page_line_count w.caches p + 5)) is room;
      rose = λ (h : true ≡ false). cc;
      still = λ (h : true ≡ false). cc;
      less = part_left (leaving_left w) (leaving_left v) w.room v.room (page_line_count w.caches page) (page_line_count v.caches page) w.ahead used f.left (left_is w frame l.leaving ∙ ap (λ (p : ℕ). page_line_count w.caches p + 5) (sym is))
          (left_same w v frame (page_line_count v.caches page) l.leaving frames (ap (page_line_count v.caches) (sym is)));
    }
  where
    part_left : (x y r s m n k : ℕ) → s + k ≡ r → n + k ≡ m → x ≡ m + 5 → y ≡ n + 5 → y + r ≤ x + s
    part_left x y r s m n k used fewer before now = omega arith

-- or none is, and it goes out, or could not be written
pub leaves_out : (rest : Flat) (b frame page slot : ℕ) (w u v : View) → Stands rest w → IsOfLeaving w frame page slot → FlushesAll b page w.ahead w u → u.frames ≡ w.frames → GoesOut b frame page slot u v → LeavesOn b frame w true v
leaves_out rest b frame page slot w u v st l f frames out =
    let is : page ≡ page_of_frame w.frames frame = sym (ap page_held l.held) in
    let none = none_left page frame w is f.few in
    let done = finished rest w u v b frame page slot st l f.flushes frames out in
    record {
      runs = subst (λ (t : Bool). Runs b (leave_on b w frame t true).acts w v) (sym none) done.runs;
      frames = done.frames ∙ sym (ap (λ (t : Bool). (leave_on b w frame t true).frames) none);
      room = done.room;
      rose = λ (h : true ≡ false). cc;
      still = λ (h : true ≡ false). cc;
      less = out_left (leaving_left w) (leaving_left v) w.room v.room (page_line_count w.caches (page_of_frame w.frames frame)) done.room (left_is w frame l.leaving) (left_out w v frame l.leaving l.taken done.frames);
    }
  where
    out_left : (x y r s m : ℕ) → r ≤ s + (m + 5) → x ≡ m + 5 → y ≡ 0 → y + r ≤ x + s
    out_left x y r s m used before now = omega arith

pub leaves_not : (b frame page slot : ℕ) (w u v : View) → IsServable w → IsOfLeaving w frame page slot → FlushesAll b page w.ahead w u → u.frames ≡ w.frames → u.faults ≡ w.faults → FailsToGoOut page u v → LeavesOn b frame w false v
leaves_not b frame page slot w u v s l f frames faults out =
    let is : page ≡ page_of_frame w.frames frame = sym (ap page_held l.held) in
    let none = none_left page frame w is f.few in
    let done = not_finished w u v b frame page slot l f.flushes frames faults out in
    let used : w.room ≤ v.room + page_line_count w.caches (page_of_frame w.frames frame) = done.room in
    record {
      runs = subst (λ (t : Bool). Runs b (leave_on b w frame t false).acts w v) (sym none) done.runs;
      frames = done.frames ∙ sym (ap (λ (t : Bool). (leave_on b w frame t false).frames) none);
      room = omega arith;
      rose = λ (h : false ≡ false). done.rose;
      still = λ (h : false ≡ false). still_leaving b w w v frame s (was_leaving b w frame l.leaving l.taken) done;
      less = not_left (leaving_left w) (leaving_left v) w.room v.room (page_line_count w.caches (page_of_frame w.frames frame)) used (left_is w frame l.leaving) (left_same w v frame 0 l.leaving done.frames done.none);
    }
  where
    not_left : (x y r s m : ℕ) → r ≤ s + m → x ≡ m + 5 → y ≡ 0 + 5 → y + r ≤ x + s
    not_left x y r s m used before now = omega arith

-- by the answer of the page that was to go out
pub leaves_by : (rest : Flat) (b frame page slot : ℕ) (w u v : View) {T E : Type 0} (r : Result T E) (written : Bool) → Stands rest w → IsOfLeaving w frame page slot → FlushesAll b page w.ahead w u → u.frames ≡ w.frames → u.faults ≡ w.faults
    → OnOk r (GoesOut b frame page slot u v) → OnErr r (FailsToGoOut page u v) → written ≡ is_ok r → LeavesOn b frame w written v
leaves_by rest b frame page slot w u v (Ok x) written st l f frames faults out failed is =
    subst (λ (t : Bool). LeavesOn b frame w t v) (sym is) (leaves_out rest b frame page slot w u v st l f frames out)
leaves_by rest b frame page slot w u v (Err e) written st l f frames faults out failed is =
    subst (λ (t : Bool). LeavesOn b frame w t v) (sym is) (leaves_not b frame page slot w u v (record { rest = rest; stands = st }) l f frames faults failed)

-- which entries are those of a page that leaves

abbrev AreKept : List Entry → Type 0
AreKept es = AllByRecursion (λ (e : Entry). is_of_leaving e ≡ true) es

all_kept : (es : List Entry) → AreKept es → leaving_entries es ≡ es
all_kept [] all = refl
all_kept (e ∷ es) all = ap (λ (t : Bool). if t then e ∷ leaving_entries es else leaving_entries es) all.0 ∙ ap (λ (rest : List Entry). e ∷ rest) (all_kept es all.1)

kept_take : (n : ℕ) (es : List Entry) → AreKept es → AreKept (take n es)
kept_take zero es all = tt
kept_take (suc n) [] all = tt
kept_take (suc n) (e ∷ es) all = (all.0, kept_take n es all.1)

kept_if : (t : Bool) (e : Entry) (es : List Entry) → is_of_leaving e ≡ true → AreKept es → AreKept (if t then e ∷ es else es)
kept_if true e es one all = (one, all)
kept_if false e es one all = all

kept_then : (es fs : List Entry) → AreKept es → AreKept fs → AreKept (es ++ fs)
kept_then [] fs first second = second
kept_then (e ∷ es) fs first second = (first.0, kept_then es fs first.1 second)

kept_in : (b i page : ℕ) (lines : List (Option Line)) → AreKept (flushes_in b i page lines)
kept_in b i page [] = tt
kept_in b i page (None ∷ rest) = kept_in b i page rest
kept_in b i page (Some line ∷ rest) = kept_if (is_of_page page line) (BlockFlush b i (block_address line.tag)) (flushes_in b i page rest) refl (kept_in b i page rest)

kept_from : (b k page : ℕ) (caches : List (List (Option Line))) → AreKept (flushes_from b k page caches)
kept_from b k page [] = tt
kept_from b k page (lines ∷ cs) = kept_then (flushes_in b k page lines) (flushes_from b (k + 1) page cs) (kept_in b k page lines) (kept_from b (k + 1) page cs)

-- the steps towards an entry append none of them
pub moved_other : (b g : ℕ) (p : Plan) (e : Entry) → answer_of b g p ≡ walked.Moved e → is_of_leaving e ≡ false
moved_other b g plan.Ready e is = cc
moved_other b g (plan.Fault kind) e is = cc
moved_other b g plan.Refresh e is = let same : entry.Refresh b (block_start_of g) ≡ e = cc in ap is_of_leaving (sym same)
moved_other b g plan.Claim e is = let same : entry.Claim b (block_start_of g) ≡ e = cc in ap is_of_leaving (sym same)
moved_other b g (plan.WriteBack at) e is = let same : entry.WriteBack b (block_start_of at) ≡ e = cc in ap is_of_leaving (sym same)
moved_other b g (plan.Fill layer need at place) e is = let same : entry.Fill b layer need (block_start_of at) ≡ e = cc in ap is_of_leaving (sym same)

way_none : (b g : ℕ) (from to : Hold) (es : List Entry) → IsWay b g from es to → leaving_entries es ≡ []
way_none b g from to es (Stays) = refl
way_none b g from to es (Goes before h e way moved) =
    filter-append is_of_leaving before (e ∷ [])
    ∙ ap (λ (first : List Entry). first ++ leaving_entries (e ∷ [])) (way_none b g from h before way)
    ∙ ap (λ (t : Bool). if t then e ∷ [] else []) (moved_other b (entry_address_of g) (page_plan h.caches h.memory b g) e moved)

-- what acts that were done append of them, act by act
none_done : (b : ℕ) (from to : Hold) (es : List Entry) → IsDone b [] from es to → es ≡ []
none_done b from to es (NoAct h) = refl

record After (b : ℕ) (acts : List Act) (to : Hold) (es first : List Entry) : Type 0 where
  pub from : Hold
  pub rest : List Entry
  pub done : IsDone b acts from rest to
  pub is : leaving_entries es ≡ first ++ leaving_entries rest

write_done : (b g : ℕ) (e : Entry) (change : ℕ → ℕ) (acts : List Act) (from to : Hold) (es : List Entry) → is_of_leaving e ≡ true → IsDone b (Writes g e change ∷ acts) from es to → After b acts to es (e ∷ [])
write_done b g e change acts from to es one (Written g1 e1 change1 acts1 from1 mid to1 fetched rest fetch done) = record {
  from = written_in b g change mid;
  rest = rest;
  done = done;
  is = filter-append is_of_leaving fetched (e ∷ rest)
      ∙ ap (λ (first : List Entry). first ++ leaving_entries (e ∷ rest)) (way_none b g from mid fetched fetch.way)
      ∙ ap (λ (t : Bool). if t then e ∷ leaving_entries rest else leaving_entries rest) one;
}

flush_done : (b page : ℕ) (acts : List Act) (from to : Hold) (es : List Entry) → IsDone b (Flushes page ∷ acts) from es to → After b acts to es (flushes_from b 0 page from.caches)
flush_done b page acts from to es (Flushed page1 acts1 from1 to1 rest done) = record {
  from = flushed_hold page from;
  rest = rest;
  done = done;
  is = filter-append is_of_leaving (flushes_from b 0 page from.caches) rest
      ∙ ap (λ (first : List Entry). first ++ leaving_entries rest) (all_kept (flushes_from b 0 page from.caches) (kept_from b 0 page from.caches));
}

part_done : (b page count : ℕ) (from to : Hold) (es : List Entry) → IsDone b (FlushesFirst page count ∷ []) from es to → leaving_entries es ≡ take count (flushes_from b 0 page from.caches)
part_done b page count from to es (FlushedFirst page1 count1 acts from1 to1 rest done) =
    let piece : List Entry = take count (flushes_from b 0 page from.caches) in
    ap (λ (others : List Entry). leaving_entries (piece ++ others)) (none_done b (after_flushes piece from) to rest done)
    ∙ ap leaving_entries (append-nil piece) ∙ all_kept piece (kept_take count (flushes_from b 0 page from.caches) (kept_from b 0 page from.caches))

last_done : (b : ℕ) (to : Hold) (es first : List Entry) → After b [] to es first → leaving_entries es ≡ first
last_done b to es first a = a.is ∙ ap (λ (rest : List Entry). first ++ leaving_entries rest) (none_done b a.from to a.rest a.done) ∙ append-nil first

clock_done : (b page : ℕ) (cleared : List ℕ) (from to : Hold) (es : List Entry) → IsDone b (map (clear_referenced b) cleared ++ leave b page ∷ []) from es to
    → leaving_entries es ≡ map (λ (p : ℕ). ClearRef b (page_address p)) cleared ++ Leave b (page_address page) ∷ []
clock_done b page [] from to es done = last_done b to es (Leave b (page_address page) ∷ []) (write_done b (page_address page) (Leave b (page_address page)) (λ (e : ℕ). with_bit e 6 true) [] from to es refl done)
clock_done b page (p ∷ ps) from to es done =
    let a = write_done b (page_address p) (ClearRef b (page_address p)) (λ (e : ℕ). with_bit e 1 false) (map (clear_referenced b) ps ++ leave b page ∷ []) from to es refl done in
    a.is ∙ ap (λ (rest : List Entry). ClearRef b (page_address p) ∷ rest) (clock_done b page ps a.from to a.rest a.done)

-- all flushes are the first ones, where there are no more
all_taken : (b : ℕ) (w : View) (frame : ℕ) → has_more w frame ≡ false → take w.ahead (flushes_from b 0 (page_of_frame w.frames frame) w.caches) ≡ flushes_from b 0 (page_of_frame w.frames frame) w.caches
all_taken b w frame is =
    let page : ℕ = page_of_frame w.frames frame in
    let few : page_line_count w.caches page ≤ w.ahead = ltb-false w.ahead (page_line_count w.caches page) is in
    let same : length (flushes_from b 0 page w.caches) ≡ page_line_count w.caches page = count_from b 0 0 0 page w.caches in
    take_all w.ahead (flushes_from b 0 page w.caches) (subst (λ (n : ℕ). n ≤ w.ahead) (sym same) few)

-- of the leaving page
page_done : (b : ℕ) (w : View) (frame : ℕ) (more written : Bool) (es : List Entry) (to : Hold) → has_more w frame ≡ more → IsDone b (leave_on b w frame more written).acts (hold_of w) es to
    → leaving_entries es ≡ take w.ahead (flushes_from b 0 (page_of_frame w.frames frame) w.caches) ++ out_entries b (page_of_frame w.frames frame) more written
page_done b w frame true written es to is done =
    part_done b (page_of_frame w.frames frame) w.ahead (hold_of w) to es done ∙ sym (append-nil (take w.ahead (flushes_from b 0 (page_of_frame w.frames frame) w.caches)))
page_done b w frame false true es to is done =
    let page : ℕ = page_of_frame w.frames frame in
    let flushes : List Entry = flushes_from b 0 page w.caches in
    let a = flush_done b page (page_out b page (slot_in w.frames frame) ∷ []) (hold_of w) to es done in
    a.is
    ∙ ap (λ (rest : List Entry). flushes ++ rest)
    (last_done b to a.rest (PageOut b (page_address page) ∷ [])
    (write_done b (page_address page) (PageOut b (page_address page)) (λ (e : ℕ). swapped_of (slot_in w.frames frame) (protection_of e)) [] a.from to a.rest refl a.done))
    ∙ ap (λ (first : List Entry). first ++ PageOut b (page_address page) ∷ []) (sym (all_taken b w frame is))
page_done b w frame false false es to is done =
    let page : ℕ = page_of_frame w.frames frame in
    last_done b to es (flushes_from b 0 page w.caches) (flush_done b page [] (hold_of w) to es done)
    ∙ sym (all_taken b w frame is) ∙ sym (append-nil (take w.ahead (flushes_from b 0 page w.caches)))

entries_go : (b : ℕ) (w : View) (written t : Bool) (leaving free : Option ℕ) (es : List Entry) (to : Hold) → IsDone b (if t then go_ahead b w written leaving free else no_service w).acts (hold_of w) es to
    → leaving_entries es ≡ (if t then entries_by b w written leaving free else [])
entries_go b w written false leaving free es to done = ap leaving_entries (none_done b (hold_of w) to es done)
entries_go b w written true (Some frame) free es to done = page_done b w frame (has_more w frame) written es to refl done
entries_go b w written true None None es to done = clock_done b (page_of_frame w.frames (frame_held (turn_of w).leaves)) (turn_of w).cleared (hold_of w) to es done
entries_go b w written true None (Some frame) es to done = ap leaving_entries (none_done b (hold_of w) to es done)

-- the frames are the same ones
same_leave : (b : ℕ) (w : View) (frame : ℕ) (more written : Bool) → HasSameFrames w.frames (leave_on b w frame more written).frames
same_leave b w frame true written = record { first = refl; count = refl }
same_leave b w frame false true = record { first = refl; count = length-set w.frames.held (frame - w.frames.first) None }
same_leave b w frame false false = record { first = refl; count = refl }

same_go : (b : ℕ) (w : View) (written t : Bool) (leaving free : Option ℕ) → HasSameFrames w.frames (if t then go_ahead b w written leaving free else no_service w).frames
same_go b w written false leaving free = record { first = refl; count = refl }
same_go b w written true None None = record { first = refl; count = refl }
same_go b w written true None (Some frame) = record { first = refl; count = refl }
same_go b w written true (Some frame) free = same_leave b w frame (has_more w frame) written

-- acts that were done are all that is asked of a step
pub does_ahead : (b : ℕ) (w v : View) (written : Bool) → Runs b (ahead_service b w written).acts w v → w.room ≤ v.room + ahead_room w → v.frames ≡ (ahead_service b w written).frames
    → (written ≡ false → w.faults < v.faults) → (written ≡ false → IsStillLeaving w v) → DoesAhead b w v
does_ahead b w v written r used frames rose stays =
    let acts : List Act = (ahead_service b w written).acts in
    let is : r.piece ≡ appended w v = sym (appended_is w v r.piece r.history) in
    let room : v.room + length (appended w v) ≡ w.room = ap (λ (es : List Entry). v.room + length es) (sym is) ∙ r.room in
    let same = same_go b w written (goes_ahead w.ahead w.frames) w.frames.leaving (least_free w.frames) in
    let made = subst (AllByRecursion (IsMade b (length w.caches))) is r.made in
    let done = subst (λ (es : List Entry). IsDone b acts (hold_of w) es (hold_of v)) is r.done in
    record {
      written = written;
      history = r.history ∙ ap (λ (es : List Entry). w.history ++ es) is;
      room = room;
      used = few_used (length (appended w v)) w.room v.room (ahead_room w) room used;
      made = made;
      own = own_of_made b (length w.caches) (appended w v) made;
      done = done;
      leaving = entries_go b w written (goes_ahead w.ahead w.frames) w.frames.leaving (least_free w.frames) (appended w v) (hold_of v) done;
      frames = frames;
      first = ap (λ (fs : Frames). fs.first) frames ∙ same.first;
      count = ap (λ (fs : Frames). length fs.held) frames ∙ same.count;
      rose = rose;
      still = stays;
    }
  where
    few_used : (long x y n : ℕ) → y + long ≡ x → x ≤ y + n → long ≤ n
    few_used long x y n is used = omega arith

pub runs_carried : (b : ℕ) (acts : List Act) (w v : View) → Runs b acts w v → IsCarriedOn w v
runs_carried b acts w v r rest st =
    let is : r.piece ≡ appended w v = sym (appended_is w v r.piece r.history) in
    let c = r.carries rest st in
    record { carried = subst (AreCarried rest w v) is c.carried; stands = c.stands }

-- What a step comes to, in its cases.
pub record StepsBy (b : ℕ) (w : View) (written : Bool) (v : View) : Type 0 where
  pub runs : Runs b (ahead_service b w written).acts w v
  pub does : DoesAhead b w v
  pub less : LeavesLess w v

by_still : (b : ℕ) (w : View) → ahead_service b w true ≡ no_service w → StepsBy b w true w
by_still b w service =
    let runs = subst (λ (c : Service). Runs b c.acts w w) (sym service) (nothing_runs b w) in
    record {
      runs = runs;
      does = does_ahead b w w true runs (enough w.room (ahead_room w)) (sym (ap (λ (c : Service). c.frames) service)) (λ (h : true ≡ false). cc) (λ (h : true ≡ false). cc);
      less = same_left (leaving_left w) w.room;
    }
  where
    same_left : (m n : ℕ) → m + n ≤ m + n
    same_left m n = omega arith

    enough : (m n : ℕ) → m ≤ m + n
    enough m n = omega arith

-- nothing is done
pub steps_not : (b : ℕ) (w : View) → goes_ahead w.ahead w.frames ≡ false → StepsBy b w true w
steps_not b w is =
    let service : ahead_service b w true ≡ no_service w = ap (λ (t : Bool). if t then go_ahead b w true w.frames.leaving (least_free w.frames) else no_service w) is in
    by_still b w service

-- the leaving page leaves on
pub steps_on : (b frame : ℕ) (w v : View) (written : Bool) → goes_ahead w.ahead w.frames ≡ true → w.frames.leaving ≡ Some frame → LeavesOn b frame w written v → StepsBy b w written v
steps_on b frame w v written goes is l =
    let service : ahead_service b w written ≡ leave_on b w frame (has_more w frame) written =
    ap (λ (t : Bool). if t then go_ahead b w written w.frames.leaving (least_free w.frames) else no_service w) goes
    ∙ ap (λ (o : Option ℕ). go_ahead b w written o (least_free w.frames)) is in
    let needed : ahead_room w ≡ page_line_count w.caches (page_of_frame w.frames frame) + 5 =
    ap (λ (t : Bool). if t then room_by w w.frames.leaving (least_free w.frames) else 0) goes ∙ ap (λ (o : Option ℕ). room_by w o (least_free w.frames)) is in
    let runs = subst (λ (c : Service). Runs b c.acts w v) (sym service) l.runs in
    record {
      runs = runs;
      does = does_ahead b w v written runs (subst (λ (n : ℕ). w.room ≤ v.room + n) (sym needed) l.room) (l.frames ∙ sym (ap (λ (c : Service). c.frames) service)) l.rose l.still;
      less = l.less;
    }

-- the clock runs
pub steps_clock : (b : ℕ) (w v : View) → IsServable w → goes_ahead w.ahead w.frames ≡ true → w.frames.leaving ≡ None → least_free w.frames ≡ None → Clocks b w v → StepsBy b w true v
steps_clock b w v s goes none full k =
    let service : ahead_service b w true ≡ until_leaving b w None =
    ap (λ (t : Bool). if t then go_ahead b w true w.frames.leaving (least_free w.frames) else no_service w) goes
    ∙ ap (λ (o : Option ℕ). go_ahead b w true o (least_free w.frames)) none ∙ ap (go_ahead b w true None) full in
    let needed : ahead_room w ≡ clock_room w None =
    ap (λ (t : Bool). if t then room_by w w.frames.leaving (least_free w.frames) else 0) goes
    ∙ ap (λ (o : Option ℕ). room_by w o (least_free w.frames)) none ∙ ap (room_by w None) full in
    let runs = subst (λ (c : Service). Runs b c.acts w v) (sym service) k.runs in
    record {
      runs = runs;
      does = does_ahead b w v true runs (subst (λ (n : ℕ). w.room ≤ v.room + n) (sym needed) k.room) (k.frames ∙ sym (ap (λ (c : Service). c.frames) service)) (λ (h : true ≡ false). cc) (λ (h : true ≡ false). cc);
      less = clock_left (leaving_left w) (leaving_left v) w.room v.room (length w.frames.held) (length w.caches) (length (turn_of w).cleared) (page_line_count v.caches (page_of_frame v.frames (frame_held (turn_of w).leaves)))
          (cleared-are-few w.frames (bits_in w))
          (subst (λ (n : ℕ). page_line_count v.caches (page_of_frame v.frames (frame_held (turn_of w).leaves)) ≤ 128 * n) k.runs.keeps.boards
          (page-lines-are-few v (page_of_frame v.frames (frame_held (turn_of w).leaves)) (record { rest = s.rest; stands = (k.runs.carries s.rest s.stands).stands })))
          k.room (left_by w None none ∙ ap (leaving_room (length w.frames.held) (length w.caches) None) full)
          (left_is v (frame_held (turn_of w).leaves) (ap (λ (fs : Frames). fs.leaving) k.frames));
    }
  where
    clock_left : (x y r s f b c n : ℕ) → c ≤ f → n ≤ 128 * b → r ≤ s + 5 * (c + 1) → x ≡ 5 * (f + 2) + 128 * b → y ≡ n + 5 → y + r ≤ x + s
    clock_left x y r s f b c n few lines used before now = omega arith

-- a frame is free
record IsOne (o : Option ℕ) : Type 0 where
  pub frame : ℕ
  pub is : o ≡ Some frame

one_of : (o : Option ℕ) → is_none o ≡ false → IsOne o
one_of None some = cc
one_of (Some frame) some = record { frame = frame; is = refl }

service_free : (b frame : ℕ) (w : View) (t : Bool) → w.frames.leaving ≡ None → least_free w.frames ≡ Some frame → (if t then go_ahead b w true w.frames.leaving (least_free w.frames) else no_service w) ≡ no_service w
service_free b frame w true none free = ap (λ (o : Option ℕ). go_ahead b w true o (least_free w.frames)) none ∙ ap (go_ahead b w true None) free
service_free b frame w false none free = refl

pub steps_free : (b : ℕ) (w : View) → w.frames.leaving ≡ None → is_none (least_free w.frames) ≡ false → StepsBy b w true w
steps_free b w none some =
    let one = one_of (least_free w.frames) some in
    by_still b w (service_free b one.frame w (goes_ahead w.ahead w.frames) none one.is)

pub full_by : (o : Option ℕ) → is_none o ≡ true → o ≡ None
full_by None is = refl
full_by (Some frame) is = cc

-- whether a page is written

pub writes_part : (b frame page slot : ℕ) (w v : View) → IsOfLeaving w frame page slot → FlushesPart b page w.ahead w v → writes_on w frame ≡ false
writes_part b frame page slot w v l f =
    ap (λ (t : Bool). not t && is_dirty (entry_in w (page_of_frame w.frames frame))) (some_left page frame w (sym (ap page_held l.held)) f.more)

pub writes_all : (b frame page slot : ℕ) (w u : View) → IsOfLeaving w frame page slot → FlushesAll b page w.ahead w u → writes_on w frame ≡ is_dirty (entry_in w (page_of_frame w.frames frame))
writes_all b frame page slot w u l f =
    ap (λ (t : Bool). not t && is_dirty (entry_in w (page_of_frame w.frames frame))) (none_left page frame w (sym (ap page_held l.held)) f.few)

pub counts_as : (w v : View) (wrote : Bool) → SameSwap w v → wrote ≡ false → Counts false wrote w v
counts_as w v wrote same is =
    subst (λ (t : Bool). Counts false t w v) (sym is) (counts_same w v same)

pub counts_all : (b frame page slot : ℕ) (w u v : View) → IsOfLeaving w frame page slot → FlushesAll b page w.ahead w u → SameSwap w u → CountsOut page u v → Counts false (writes_on w frame) w v
counts_all b frame page slot w u v l f same c =
    let done : CountsFinish frame w v = counts_finish w u v b frame page slot l f.flushes same c in
    subst (λ (t : Bool). Counts false t w v) (sym (writes_all b frame page slot w u l f)) done

pub unwritten_all : {B : Type 0} (b frame page slot : ℕ) (w u : View) (old mid new : B) → IsOfLeaving w frame page slot → FlushesAll b page w.ahead w u → mid ≡ old → (is_dirty (entry_in u page) ≡ false → new ≡ mid)
    → writes_on w frame ≡ false → new ≡ old
unwritten_all b frame page slot w u old mid new l f same unwritten is =
    clean_still w u b frame page slot old mid new l f.flushes same unwritten (sym (writes_all b frame page slot w u l f) ∙ is)

pub writes_not : (w : View) → goes_ahead w.ahead w.frames ≡ false → writes_ahead w ≡ false
writes_not w is = ap (λ (t : Bool). t && writes_by w w.frames.leaving) is

pub writes_is : (w : View) (frame : ℕ) → goes_ahead w.ahead w.frames ≡ true → w.frames.leaving ≡ Some frame → writes_ahead w ≡ writes_on w frame
writes_is w frame goes is = ap (λ (t : Bool). t && writes_by w w.frames.leaving) goes ∙ ap (writes_by w) is

and_false : (t : Bool) → (t && false) ≡ false
and_false true = refl
and_false false = refl

pub writes_none : (w : View) → w.frames.leaving ≡ None → writes_ahead w ≡ false
writes_none w none = ap (λ (o : Option ℕ). goes_ahead w.ahead w.frames && writes_by w o) none ∙ and_false (goes_ahead w.ahead w.frames)

-- the room
fits_by : (w : View) (t : Bool) (leaving free : Option ℕ)
    → (if t then room_by w leaving free else 0) ≤ leaving_room (length w.frames.held) (length w.caches) (option_map (λ (frame : ℕ). page_line_count w.caches (page_of_frame w.frames frame)) leaving) free
fits_by w false leaving free = omega arith
fits_by w true (Some frame) free = same_least (page_line_count w.caches (page_of_frame w.frames frame) + 5)
  where
    same_least : (n : ℕ) → n ≤ n
    same_least n = omega arith
fits_by w true None None =
    let few : length (turn_of w).cleared ≤ length w.frames.held = cleared-are-few w.frames (bits_in w) in
    let r : 5 * (length (turn_of w).cleared + 1) ≤ 5 * (length w.frames.held + 2) + 128 * length w.caches = omega arith in r
fits_by w true None (Some frame) = omega arith

pub ahead-fits : AheadFits
ahead-fits w = fits_by w (goes_ahead w.ahead w.frames) w.frames.leaving (least_free w.frames)
