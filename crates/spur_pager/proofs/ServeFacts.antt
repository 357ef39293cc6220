-- A Leaving or a Missing fault is served.
use Rattle.std.proofs.Common.{◌≡◌, ◌∙◌, ℕ, ◌+◌, ◌<◌, ◌≤◌, true, false, not, ap, sym, subst, List, [], ◌∷◌, ◌++◌, length, Option, Some, None, arith}
use Rattle.std.specs.Prelude.{IsSome, Ok, Err}
use Rattle.std.proofs.lemmas.Bool.{and_parts, not-true}
use Rattle.std.proofs.lemmas.List.{append-nil}
use Rattle.spur_addr.specs.Address.{entry_address_of, page_of, table_start, page_address}
use Rattle.spur_addr.specs.PageEntry.{is_dirty, is_leaving, is_on_swap, is_valid, number_of, protection_of, swapped_of}
use Rattle.spur_cache.specs.declared.line.Line.{Line}
use Rattle.spur_cache.specs.Lines.{word_in}
use Rattle.spur_flat.specs.declared.access.AccessKind.{AccessKind}
use Rattle.spur_flat.specs.declared.access.FaultKind.{FaultKind}
use Rattle.spur_flat.specs.declared.access.FaultKind.TheVariants as fault
use Rattle.spur_flat.specs.declared.flat.Flat.{Flat}
use Rattle.spur_flat.specs.Access.{may_aligned}
use Rattle.spur_flat.specs.Pager.{or_zero, brought_entry}
use Rattle.spur_flat.specs.Table.{walk_of}
use Rattle.spur_snoop.specs.Protocol.{is_exclusive}
use Rattle.spur_bus.specs.Boards.{line_of_block}
use Rattle.spur_bus.specs.Calls.{HasLine}
use Rattle.spur_frames.specs.Frames.{Frames, IsFree, IsTaken, holder_of, least_free, release_frame, take_frame}
use Rattle.spur_frames.specs.Clock.{page_held, page_of_frame}
use Rattle.spur_frames.proofs.FreeFacts.{none-is-free}
use Rattle.spur_walk.specs.Laws.{need_of}
use Rattle.spur_walk.specs.Steps.{HasBlock}
use Rattle.spur_walk.proofs.AnswerFacts.{found-word, served-finds}
use Rattle.spur_pager.specs.declared.fault.ServeFault.TheVariants as serve
use Rattle.spur_pager.specs.View.{View}
use Rattle.spur_pager.specs.Stand.{Stands, entry_in, standing_flat}
use Rattle.spur_pager.specs.Acts.{Act, Loads, page_in as page_in_act}
use Rattle.spur_pager.specs.Service.{finish_acts, flush_acts, free_service, gained, slot_in, turn_of, outgoing_by, outgoing_frame}
use Rattle.spur_pager.specs.Room.{entry_room, free_room, page_line_count}
use Rattle.spur_pager.specs.Runs.{Runs}
use Rattle.spur_pager.specs.Served.{HasFault, IsStillLeaving, ServesAs}
use Rattle.spur_pager.specs.Finish.{FailsToFinish, FailsToFree, Finishes, Frees}
use Rattle.spur_pager.specs.Moves.{ComesIn, HasSwapFailed, MayComeIn}
use Rattle.spur_pager.proofs.EntryFacts.{user_page}
use Rattle.spur_pager.proofs.ServiceFacts.{entry_at, same_entry_address, served_as}
use Rattle.spur_pager.proofs.FaultFacts.{answer_may}
use Rattle.spur_pager.proofs.FinishFacts.{failed_entry, failed_runs, released_is_free}
use Rattle.spur_pager.proofs.JoinFacts.{runs_then}
use Rattle.spur_pager.proofs.OptionFacts.{none_or_some, some_is, some_not_none}
use Rattle.spur_bus.proofs.LineFacts.{some_same}

-- what a Leaving fault says of the page's entry
pub record IsLeaving (e : ℕ) : Type 0 where
  pub valid : is_valid e ≡ true
  pub leaving : is_leaving e ≡ true

leaving_of : (o : Option ℕ) (access : AccessKind) → may_aligned o access (Some fault.Leaving) ≡ true → IsLeaving (or_zero o)
leaving_of None access h = cc
leaving_of (Some e) access h = let both = and_parts (is_valid e) (is_leaving e) h in record { valid = both.0; leaving = both.1 }

pub leaving_entry : (w : View) (rest : Flat) (b at : ℕ) → Stands rest w → b < length w.caches → at < table_start → HasFault w b fault.Leaving at → IsLeaving (entry_in w (page_of at))
leaving_entry w rest b at st within user f =
    subst IsLeaving (sym (entry_at w at)) (leaving_of (walk_of (standing_flat rest w) at) f.access (answer_may w rest b at fault.Leaving st within user f))

-- its frame is the leaving one
pub record HasLeavingFrame (w : View) (at frame : ℕ) : Type 0 where
  pub leaving : w.frames.leaving ≡ Some frame
  pub victim : outgoing_frame w ≡ frame
  pub page : page_of_frame w.frames frame ≡ page_of at

pub leaving_at : (w : View) (rest : Flat) (b at : ℕ) → Stands rest w → b < length w.caches → at < table_start → HasFault w b fault.Leaving at → HasLeavingFrame w at (number_of (entry_in w (page_of at)))
leaving_at w rest b at st within user f =
    let e = leaving_entry w rest b at st within user f in
    let small = user_page at user in
    let is = st.framed.leaves (page_of at) small e.valid e.leaving in
    record {
      leaving = is;
      victim = ap (λ (o : Option ℕ). outgoing_by o (turn_of w).leaves) is;
      page = ap page_held (st.framed.holds (page_of at) small e.valid);
    }

pub same_frame : (w : View) (at frame other : ℕ) → HasLeavingFrame w at other → w.frames.leaving ≡ Some frame → HasLeavingFrame w at frame
same_frame w at frame other l is =
    subst (HasLeavingFrame w at) (some_same other frame (sym l.leaving ∙ is)) l

-- where a frame is free, the least one is found
pub some_free : (frames : Frames) (frame : ℕ) → IsFree frames frame → IsSome (least_free frames)
some_free frames frame free =
    none_or_some (least_free frames)
    (λ (full : least_free frames ≡ None). some_not_none (holder_of frames frame) ((none-is-free frames).0 full frame (record { low = free.low; high = free.high })) free.free)

pub leaving_served : (b : ℕ) (w v : View) (at frame : ℕ) → IsTaken w.frames frame → HasLeavingFrame w at frame → Finishes b frame w v → ServesAs b w fault.Leaving at (Ok (tt {0})) v
leaving_served b w v at frame taken l f =
    let word : entry_in v (page_of at) ≡ swapped_of (slot_in w.frames (outgoing_frame w)) (protection_of (entry_in w (page_of at))) =
    ap (entry_in v) (sym l.page) ∙ f.word ∙ ap (λ (p : ℕ). swapped_of (slot_in w.frames frame) (protection_of (entry_in w p))) l.page
    ∙ ap (λ (n : ℕ). swapped_of (slot_in w.frames n) (protection_of (entry_in w (page_of at)))) (sym l.victim) in
    served_as b w v fault.Leaving at (Ok (tt {0}))
    (subst (λ (n : ℕ). Runs b (finish_acts b w.frames n) w v) (sym l.victim) f.runs)
    (subst (λ (n : ℕ). w.room ≤ v.room + (page_line_count w.caches (page_of_frame w.frames n) + entry_room)) (sym l.victim) f.room)
    (f.frames ∙ ap (λ (n : ℕ). release_frame w.frames n) (sym l.victim))
    (record {
      word = word;
      walk = sym (entry_at v at) ∙ word;
      exclusive = subst (λ (g : ℕ). HasLine v.caches b g is_exclusive) (ap (λ (p : ℕ). entry_address_of (page_address p)) l.page ∙ same_entry_address at) f.exclusive;
      free = λ (h : fault.Leaving ≡ fault.Leaving). some_free v.frames frame (subst (λ (fs : Frames). IsFree fs frame) (sym f.frames) (released_is_free w.frames frame taken));
    })

pub still_leaving_at : (b : ℕ) (w v : View) (rest : Flat) (at frame : ℕ) → Stands rest w → IsLeaving (entry_in w (page_of at)) → number_of (entry_in w (page_of at)) ≡ frame → HasLeavingFrame w at frame → FailsToFinish b frame w v → IsStillLeaving w v
still_leaving_at b w v rest at frame st e number l f =
    let page : page_of_frame w.frames (outgoing_frame w) ≡ page_of at = ap (page_of_frame w.frames) l.victim ∙ l.page in
    let word : entry_in v (page_of_frame w.frames (outgoing_frame w)) ≡ entry_in w (page_of at) =
    ap (λ (n : ℕ). entry_in v (page_of_frame w.frames n)) l.victim ∙ f.word ∙ ap (entry_in w) l.page in
    record {
      flushed = ap (λ (n : ℕ). page_line_count v.caches (page_of_frame w.frames n)) l.victim ∙ f.none;
      valid = ap (λ (n : ℕ). is_valid n) word ∙ e.valid;
      number = ap (λ (n : ℕ). number_of n) word ∙ number ∙ sym l.victim;
      leaving = ap (λ (n : ℕ). is_leaving n) word ∙ e.leaving;
      dirty = ap (λ (n : ℕ). is_dirty n) (word ∙ ap (entry_in w) (sym l.page)) ∙ f.dirty;
      frame = ap (λ (fs : Frames). fs.leaving) f.frames ∙ l.leaving ∙ ap (λ (n : ℕ). Some n) (sym l.victim);
    }

pub leaving_not_served : (b : ℕ) (w v : View) (rest : Flat) (at frame : ℕ) → Stands rest w → b < length w.caches → at < table_start → HasFault w b fault.Leaving at → w.frames.leaving ≡ Some frame
    → FailsToFinish b frame w v → ServesAs b w fault.Leaving at (Err serve.SwapWrite) v
leaving_not_served b w v rest at frame st within user fa is f =
    let e = leaving_entry w rest b at st within user fa in
    let there = leaving_at w rest b at st within user fa in
    let l = same_frame w at frame (number_of (entry_in w (page_of at))) there is in
    let number : number_of (entry_in w (page_of at)) ≡ frame = sym there.victim ∙ l.victim in
    served_as b w v fault.Leaving at (Err serve.SwapWrite)
    (subst (λ (n : ℕ). Runs b (flush_acts w.frames n) w v) (sym l.victim) f.runs)
    (subst (λ (n : ℕ). w.room ≤ v.room + (page_line_count w.caches (page_of_frame w.frames n) + entry_room)) (sym l.victim) (more_room (page_line_count w.caches (page_of_frame w.frames frame)) w.room v.room f.room))
    f.frames
    (record { may = tt; rose = f.rose; leaves = still_leaving_at b w v rest at frame st e number l f })
  where
    more_room : (n x y : ℕ) → x ≤ y + n → x ≤ y + (n + 5)
    more_room n x y used = omega arith

-- what a Missing fault says of it
pub record IsAbsent (e : ℕ) : Type 0 where
  pub absent : is_valid e ≡ false
  pub on_swap : is_on_swap e ≡ true

absent_of : (o : Option ℕ) (access : AccessKind) → may_aligned o access (Some fault.Missing) ≡ true → IsAbsent (or_zero o)
absent_of None access h = cc
absent_of (Some e) access h = let both = and_parts (not (is_valid e)) (is_on_swap e) h in record { absent = not-true (is_valid e) both.0; on_swap = both.1 }

pub absent_entry : (w : View) (rest : Flat) (b at : ℕ) → Stands rest w → b < length w.caches → at < table_start → HasFault w b fault.Missing at → IsAbsent (entry_in w (page_of at))
absent_entry w rest b at st within user f =
    subst IsAbsent (sym (entry_at w at)) (absent_of (walk_of (standing_flat rest w) at) f.access (answer_may w rest b at fault.Missing st within user f))

-- the block of its entry is in the board's cache, with the word that the tables have
pub entry_block_there : (w : View) (b at : ℕ) (kind : FaultKind) → HasFault w b kind at → HasBlock w.caches b (entry_address_of at)
entry_block_there w b at kind f = served-finds w.caches w.memory b at (need_of f.access) kind f.served f.answers

pub block_some : (caches : List (List (Option Line))) (b g : ℕ) → HasBlock caches b g → IsSome (line_of_block caches b g)
block_some caches b g has = some_is (line_of_block caches b g) has.line has.there

pub entry_there : (w : View) (rest : Flat) (b at : ℕ) (kind : FaultKind) → Stands rest w → b < length w.caches → at < table_start → HasFault w b kind at
    → word_in (line_of_block w.caches b (entry_address_of at)) (entry_address_of at) ≡ entry_in w (page_of at)
entry_there w rest b at kind st within user f =
    found-word w.caches w.memory b at st.walk within user (entry_block_there w b at kind f) ∙ sym (entry_at w at)

-- where a frame is free, the page may come in
pub may_come_in : (b : ℕ) (w u : View) (at frame slot : ℕ) → b < length w.caches → at < table_start → IsAbsent (entry_in w (page_of at)) → number_of (entry_in w (page_of at)) ≡ slot → Frees b w u frame → MayComeIn u b frame (page_of at) slot
may_come_in b w u at frame slot within user e number f =
    let small = user_page at user in
    let same = f.absent (page_of at) small e.absent in
    record {
      within = subst (λ (n : ℕ). b < n) (sym f.runs.keeps.boards) within;
      small = small;
      free = f.free;
      absent = ap (λ (n : ℕ). is_valid n) same ∙ e.absent;
      on_swap = ap (λ (n : ℕ). is_on_swap n) same ∙ e.on_swap;
      slot_is = ap (λ (n : ℕ). number_of n) same ∙ number;
    }

pub missing_served : (b : ℕ) (w u v : View) (at frame slot : ℕ) → at < table_start → IsAbsent (entry_in w (page_of at)) → number_of (entry_in w (page_of at)) ≡ slot → Frees b w u frame → ComesIn b frame (page_of at) slot u v
    → ServesAs b w fault.Missing at (Ok (tt {0})) v
missing_served b w u v at frame slot user e number f c =
    let page : ℕ = page_of at in
    let small = user_page at user in
    let same = f.absent page small e.absent in
    let word : entry_in v page ≡ brought_entry (gained b w) (entry_in w page) =
    c.word ∙ ap (λ (n : ℕ). brought_entry frame n) same ∙ ap (λ (n : ℕ). brought_entry n (entry_in w page)) f.is in
    served_as b w v fault.Missing at (Ok (tt {0}))
    (subst (λ (n : ℕ). Runs b ((free_service b w).acts ++ Loads n ∷ page_in_act b page n ∷ []) w v) f.is (runs_then b (free_service b w).acts (Loads frame ∷ page_in_act b page frame ∷ []) w u v f.runs c.runs))
    (sum (free_room w (least_free w.frames)) w.room u.room v.room f.room c.room)
    (c.frames ∙ ap (λ (fs : Frames). take_frame fs frame page slot) f.frames ∙ ap (λ (n : ℕ). take_frame (free_service b w).frames n page slot) f.is
    ∙ ap (λ (n : ℕ). take_frame (free_service b w).frames (gained b w) page n) (sym number))
    (record {
      word = word;
      walk = sym (entry_at v at) ∙ word;
      exclusive = subst (λ (g : ℕ). HasLine v.caches b g is_exclusive) (same_entry_address at) c.exclusive;
      free = λ (h : fault.Missing ≡ fault.Leaving). cc;
    })
  where
    sum : (n x y z : ℕ) → x ≤ y + n → y ≤ z + 5 → x ≤ z + (n + 5)
    sum n x y z first second = omega arith

-- the page cannot be read: a frame is free, and no more
pub missing_not_read : (b : ℕ) (w u v : View) (at frame : ℕ) → at < table_start → IsAbsent (entry_in w (page_of at)) → w.faults ≤ u.faults → Frees b w u frame → HasSwapFailed u v → ServesAs b w fault.Missing at (Err serve.SwapRead) v
missing_not_read b w u v at frame user e later f failed =
    let page : ℕ = page_of at in
    let small = user_page at user in
    served_as b w v fault.Missing at (Err serve.SwapRead)
    (subst (λ (acts : List Act). Runs b acts w v) (append-nil (free_service b w).acts) (runs_then b (free_service b w).acts [] w u v f.runs (failed_runs b u v failed)))
    (unused (free_room w (least_free w.frames)) w.room u.room v.room f.room failed.room)
    (failed.frames ∙ f.frames)
    (record {
      may = tt;
      rose = rises w.faults u.faults v.faults later failed.rose;
      leaves = record {
        word = failed_entry u v page failed ∙ f.absent page small e.absent;
        free = ap (λ (fs : Frames). least_free fs) failed.frames ∙ f.least ∙ ap (λ (n : ℕ). Some n) f.is;
      };
    })
  where
    unused : (n x y z : ℕ) → x ≤ y + n → z ≡ y → x ≤ z + (n + 5)
    unused n x y z used same = omega arith

    rises : (x y z : ℕ) → x ≤ y → y < z → x < z
    rises x y z later rose = omega arith

-- the page that is leaving cannot be written
pub missing_not_freed : (b : ℕ) (w v : View) (at : ℕ) → FailsToFree b w v → ServesAs b w fault.Missing at (Err serve.SwapWrite) v
missing_not_freed b w v at f =
    served_as b w v fault.Missing at (Err serve.SwapWrite) f.runs (more_room (free_room w (least_free w.frames)) w.room v.room f.room) f.frames (record { may = f.full; rose = f.rose; leaves = f.still })
  where
    more_room : (n x y : ℕ) → x ≤ y + n → x ≤ y + (n + 5)
    more_room n x y used = omega arith
