-- The clock runs until a page leaves.
use Rattle.std.proofs.Common.{◌≡◌, ◌≢◌, ◌∙◌, ℕ, suc, ◌+◌, ◌-◌, ◌*◌, ◌<◌, ◌≤◌, ◌==◌, Bool, true, false, if◌then◌else◌, ap, sym, refl, subst, List, [], ◌∷◌, ◌++◌, length, map, Option, Some, None, arith}
use Rattle.std.specs.Prelude.{IfSome, IsSome}
use Rattle.std.proofs.lemmas.Bool.{eqb-false}
use Rattle.std.proofs.lemmas.List.{append-nil, append_assoc, length-append, map-append}
use Rattle.spur_addr.specs.PageEntry.{is_valid, number_of}
use Rattle.spur_flat.specs.declared.flat.Flat.{Flat}
use Rattle.spur_flat.specs.Pager.{word_of}
use Rattle.spur_frames.specs.Frames.{AreFrames, Frames, IsTaken, hand_past, holder_of, looked_at, passed}
use Rattle.spur_frames.specs.Clock.{IsCleared, Turn, clearing_turn, clock, leaving_turn, round, set_count}
use Rattle.spur_frames.specs.Clock as clock
use Rattle.spur_frames.specs.Laws.{HaveOwnPages}
use Rattle.spur_frames.proofs.ClockFacts.{clear-leaves, set-bits-fall, set-is-cleared-and-passed}
use Rattle.spur_frames.proofs.FreeFacts.{none-is-taken}
use Rattle.spur_pager.specs.View.{View}
use Rattle.spur_pager.specs.Stand.{AreFramed, IsServable, Stands, entry_in, standing_flat}
use Rattle.spur_addr.specs.Address.{page_address, user_pages}
use Rattle.spur_pager.specs.Acts.{Act, clear_referenced, leave}
use Rattle.spur_pager.specs.Service.{bits_in, clock_acts, frame_held, turn_of}
use Rattle.spur_pager.specs.Room.{entry_room, page_line_count}
use Rattle.spur_pager.specs.Runs.{Runs}
use Rattle.spur_pager.specs.Looks.{Clears, Clocks, HasNoMoreLines, IsLooked, KeepsAbsent, StartsLeaving, Looks, KeepsDirty}
use Rattle.spur_pager.proofs.JoinFacts.{carried_none, runs_none, runs_then}
use Rattle.spur_pager.proofs.OptionFacts.{none_or_some, some_not_none}

-- no page stands in two frames
own_pages : (F : Flat) (frames : Frames) → AreFramed F frames → HaveOwnPages frames
own_pages F frames ok frame other here there is_here is_there same low high low_other high_other =
    let a = ok.taken frame here.0 here.1 (record { low = low; high = high }) is_here in
    let b = ok.taken other there.0 there.1 (record { low = low_other; high = high_other }) is_there in
    sym a.number ∙ ap (λ (p : ℕ). number_of (word_of F (page_address p))) same ∙ b.number

place_within : (frames : Frames) (frame : ℕ) (last : Bool) → 1 ≤ length frames.held → IsTaken frames frame → (frame + 1 == frames.first + length frames.held) ≡ last → (if last then 0 else frame + 1 - frames.first) < length frames.held
place_within frames frame true some t is = omega arith
place_within frames frame false some t is =
    let apart : frame + 1 ≢ frames.first + length frames.held = eqb-false (frame + 1) (frames.first + length frames.held) is in
    let low : frames.first ≤ frame = t.low in
    let high : frame < frames.first + length frames.held = t.high in
    inside low high apart
  where
    inside : {f l n : ℕ} → f ≤ n → n < f + l → n + 1 ≢ f + l → n + 1 - f < l
    inside {f} {l} {n} low high apart = omega arith

-- the frames after the hand passed one
frames_passed : (frames : Frames) (frame : ℕ) → AreFrames frames → looked_at frames ≡ Some frame → IsTaken frames frame → frames.leaving ≡ None → AreFrames (passed frames)
frames_passed frames frame table looked t none = record {
  some = table.some;
  few = table.few;
  hand = subst (λ (o : Option ℕ). hand_past frames o < length frames.held) (sym looked) (place_within frames frame (frame + 1 == frames.first + length frames.held) table.some t refl);
  leaving = subst (λ (o : Option ℕ). IfSome o (IsTaken (passed frames))) (sym none) tt;
}

still_taken : (frames : Frames) (frame : ℕ) → AreFrames frames → looked_at frames ≡ Some frame → IsTaken frames frame → frames.leaving ≡ None → IsSome (looked_at (passed frames))
still_taken frames frame table looked t none =
    none_or_some (looked_at (passed frames)) (λ (h : looked_at (passed frames) ≡ None).
    some_not_none (holder_of frames frame) t.taken ((none-is-taken (passed frames) (frames_passed frames frame table looked t none)).0 h frame (record { low = t.low; high = t.high })))

-- the clock has cleared some bits, and goes on
pub record IsTurning (b : ℕ) (w u : View) : Type 0 where
  pub cleared : List ℕ
  pub runs : Runs b (map (clear_referenced b) cleared) w u
  pub stands : IsServable u
  pub staying : u.frames.leaving ≡ None
  pub table : AreFrames u.frames
  pub taken : IsSome (looked_at u.frames)
  pub turn : turn_of w ≡ record (turn_of u) { cleared = cleared ++ (turn_of u).cleared }
  pub frames : u.frames ≡ record w.frames { hand = u.frames.hand }
  pub room : entry_room * (length (turn_of u).cleared + 1) ≤ u.room
  pub used : w.room ≤ u.room + entry_room * length cleared
  pub absent : KeepsAbsent w u
  pub dirty : KeepsDirty w u
  pub lines : HasNoMoreLines w u

-- a page that is not valid stays so, and with it its entry
absent_then : (w u v : View) → KeepsAbsent w u → KeepsAbsent u v → KeepsAbsent w v
absent_then w u v first second page small absent =
    let same = first page small absent in
    second page small (ap (λ (n : ℕ). is_valid n) same ∙ absent) ∙ same

lines_then : (w u v : View) → HasNoMoreLines w u → HasNoMoreLines u v → HasNoMoreLines w v
lines_then w u v first second page small =
    let before : page_line_count u.caches page ≤ page_line_count w.caches page = first page small in
    let after : page_line_count v.caches page ≤ page_line_count u.caches page = second page small in
    let r : page_line_count v.caches page ≤ page_line_count w.caches page = omega arith in r

pub nothing_runs : (b : ℕ) (w : View) → Runs b [] w w
nothing_runs b w =
    runs_none b w w refl refl refl (record { boards = refl; lines = refl; memory = refl; slots = refl; tells = refl; ahead = refl })
    (λ (rest : Flat) (st : Stands rest w). record { carried = carried_none rest w w refl; stands = st })

pub turning_none : (b : ℕ) (w : View) → (s : IsServable w) → w.frames.leaving ≡ None → AreFrames w.frames → IsSome (looked_at w.frames) → entry_room * (length (turn_of w).cleared + 1) ≤ w.room → IsTurning b w w
turning_none b w s staying table taken room = record {
  cleared = [];
  runs = nothing_runs b w;
  stands = s;
  staying = staying;
  table = table;
  taken = taken;
  turn = refl;
  frames = refl;
  room = room;
  used = omega arith;
  absent = λ (page : ℕ) (small : page < user_pages) (absent : is_valid (entry_in w page) ≡ false). refl;
  dirty = λ (page : ℕ) (small : page < user_pages). refl;
  lines = λ (page : ℕ) (small : page < user_pages). omega arith;
}

-- how many bits are set: with each look fewer are
abbrev pub left : View → ℕ
left u = set_count (bits_in u) (round u.frames)

record Cleared (b : ℕ) (u v : View) (frame : ℕ) : Type 0 where
  pub bit : bits_in u (clock.page_of_frame u.frames frame) ≡ true
  pub runs : Runs b (clear_referenced b (clock.page_of_frame u.frames frame) ∷ []) u v
  pub frames : v.frames ≡ passed u.frames
  pub bits : IsCleared (bits_in u) (clock.page_of_frame u.frames frame) (bits_in v)

cleared_is : (b : ℕ) (u v : View) (frame : ℕ) → IsLooked b u v frame false → Cleared b u v frame
cleared_is b u v frame (Clears bit run frames bits) = record { bit = bit; runs = run; frames = frames; bits = bits }

record LeftAt (b : ℕ) (u v : View) (frame : ℕ) : Type 0 where
  pub bit : bits_in u (clock.page_of_frame u.frames frame) ≡ false
  pub runs : Runs b (leave b (clock.page_of_frame u.frames frame) ∷ []) u v
  pub frames : v.frames ≡ record (passed u.frames) { leaving = Some frame }

left_is : (b : ℕ) (u v : View) (frame : ℕ) → IsLooked b u v frame true → LeftAt b u v frame
left_is b u v frame (StartsLeaving bit run frames) = record { bit = bit; runs = run; frames = frames }

pub fewer : (b : ℕ) (u v : View) → IsServable u → Looks b u v false → left v < left u
fewer b u v s l =
    let c = cleared_is b u v l.frame l.looked in
    let own = own_pages (standing_flat s.rest u) u.frames s.stands.framed in
    let falls : set_count (bits_in v) (round (passed u.frames)) + 1 ≡ set_count (bits_in u) (round u.frames) = set-bits-fall u.frames (bits_in u) (bits_in v) l.frame own l.found c.bit c.bits in
    subst (λ (fs : Frames). set_count (bits_in v) (round fs) < set_count (bits_in u) (round u.frames)) (sym c.frames) (less falls)
  where
    less : {a m : ℕ} → a + 1 ≡ m → a < m
    less {a} {m} h = omega arith

pub turning_more : (b : ℕ) (w u v : View) → IsTurning b w u → Looks b u v false → IsTurning b w v
turning_more b w u v t l =
    let c = cleared_is b u v l.frame l.looked in
    let page : ℕ = clock.page_of_frame u.frames l.frame in
    let own = own_pages (standing_flat t.stands.rest u) u.frames t.stands.stands.framed in
    let turn : turn_of u ≡ clearing_turn page (turn_of v) =
    set-is-cleared-and-passed u.frames (bits_in u) (bits_in v) l.frame own l.found c.bit c.bits ∙ ap (λ (fs : Frames). clearing_turn page (clock fs (bits_in v))) (sym c.frames) in
    let count : length (turn_of u).cleared ≡ length (page ∷ (turn_of v).cleared) = ap (λ (x : Turn). length x.cleared) turn in
    record {
      cleared = t.cleared ++ page ∷ [];
      runs = subst (λ (acts : List Act). Runs b acts w v) (sym (map-append (clear_referenced b) t.cleared (page ∷ []))) (runs_then b (map (clear_referenced b) t.cleared) (clear_referenced b page ∷ []) w u v t.runs c.runs);
      stands = record { rest = t.stands.rest; stands = (c.runs.carries t.stands.rest t.stands.stands).stands };
      staying = ap (λ (fs : Frames). fs.leaving) c.frames ∙ t.staying;
      table = subst AreFrames (sym c.frames) (frames_passed u.frames l.frame t.table l.found l.taken t.staying);
      taken = subst (λ (fs : Frames). IsSome (looked_at fs)) (sym c.frames) (still_taken u.frames l.frame t.table l.found l.taken t.staying);
      turn = t.turn ∙ ap (λ (x : Turn). record x { cleared = t.cleared ++ x.cleared }) turn
          ∙ ap (λ (ps : List ℕ). record (turn_of v) { cleared = ps }) (sym (append_assoc t.cleared (page ∷ []) (turn_of v).cleared));
      frames = c.frames ∙ ap (λ (fs : Frames). record fs { hand = hand_past u.frames (looked_at u.frames) }) t.frames ∙ ap (λ (n : ℕ). record w.frames { hand = n }) (sym (ap (λ (fs : Frames). fs.hand) c.frames));
      room = room_left (length (turn_of u).cleared) (length (turn_of v).cleared) u.room v.room count t.room l.room;
      used = room_used (length t.cleared) (length (t.cleared ++ page ∷ [])) w.room u.room v.room (length-append t.cleared (page ∷ [])) t.used l.room;
      absent = absent_then w u v t.absent l.absent;
      dirty = λ (page : ℕ) (small : page < user_pages). l.dirty page small ∙ t.dirty page small;
      lines = lines_then w u v t.lines l.lines;
    }
  where
    room_used : (a n x y z : ℕ) → n ≡ a + 1 → x ≤ y + 5 * a → y ≤ z + 5 → x ≤ z + 5 * n
    room_used a n x y z is before now = omega arith

    room_left : (a n x y : ℕ) → a ≡ suc n → 5 * (a + 1) ≤ x → x ≤ y + 5 → 5 * (n + 1) ≤ y
    room_left a n x y is room used = omega arith

pub turned_all : (b : ℕ) (w u v : View) → IsTurning b w u → Looks b u v true → Clocks b w v
turned_all b w u v t l =
    let c = left_is b u v l.frame l.looked in
    let last : turn_of u ≡ leaving_turn u.frames l.frame = clear-leaves u.frames (bits_in u) l.frame l.found c.bit in
    let turn : turn_of w ≡ record (leaving_turn u.frames l.frame) { cleared = t.cleared } =
    t.turn ∙ ap (λ (x : Turn). record x { cleared = t.cleared ++ x.cleared }) last ∙ ap (λ (ps : List ℕ). record (leaving_turn u.frames l.frame) { cleared = ps }) (append-nil t.cleared) in
    let page : clock.page_of_frame u.frames l.frame ≡ clock.page_of_frame w.frames l.frame = ap (λ (fs : Frames). clock.page_of_frame fs l.frame) t.frames in
    let acts : clock_acts b w.frames (turn_of w) ≡ map (clear_referenced b) t.cleared ++ leave b (clock.page_of_frame u.frames l.frame) ∷ [] =
    ap (λ (x : Turn). clock_acts b w.frames x) turn ∙ ap (λ (p : ℕ). map (clear_referenced b) t.cleared ++ leave b p ∷ []) (sym page) in
    record {
      runs = subst (λ (done : List Act). Runs b done w v) (sym acts) (runs_then b (map (clear_referenced b) t.cleared) (leave b (clock.page_of_frame u.frames l.frame) ∷ []) w u v t.runs c.runs);
      frames = c.frames ∙ ap (λ (fs : Frames). record fs { hand = hand_past u.frames (looked_at u.frames); leaving = Some l.frame }) t.frames
          ∙ ap (λ (o : Option ℕ). record w.frames { hand = hand_past u.frames o; leaving = Some l.frame }) l.found
          ∙ ap (λ (x : Turn). record w.frames { hand = x.hand; leaving = Some (frame_held x.leaves) }) (sym turn);
      room = room_all (length t.cleared) (length (turn_of w).cleared) w.room u.room v.room (ap (λ (x : Turn). length x.cleared) turn) t.used l.room;
      absent = absent_then w u v t.absent l.absent;
      dirty = λ (page : ℕ) (small : page < user_pages). l.dirty page small ∙ t.dirty page small;
      lines = lines_then w u v t.lines l.lines;
    }
  where
    room_all : (a n x y z : ℕ) → n ≡ a → x ≤ y + 5 * a → y ≤ z + 5 → x ≤ z + 5 * (n + 1)
    room_all a n x y z is before now = omega arith
