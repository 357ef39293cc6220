-- The clock looks at the page that the hand finds.
use Rattle.std.specs.Prelude.{ℕ, ◌≡◌, ◌+◌, ◌*◌, ◌<◌, ◌≤◌, length, Bool, true, false, [], ◌∷◌, Some}
use Rattle.spur_addr.specs.PageEntry.{is_dirty, is_valid}
use Rattle.spur_frames.specs.Frames.{IsTaken, looked_at, passed}
use Rattle.spur_frames.specs.Clock.{IsCleared}
use Rattle.spur_frames.specs.Clock as clock
use Rattle.spur_pager.specs.View.{View}
use Rattle.spur_pager.specs.Stand.{entry_in}
use Rattle.spur_addr.specs.Address.{user_pages}
use Rattle.spur_pager.specs.Acts.{clear_referenced, leave}
use Rattle.spur_pager.specs.Service.{bits_in, clock_acts, frame_held, turn_of}
use Rattle.spur_pager.specs.Room.{entry_room, page_line_count}
use Rattle.spur_pager.specs.Runs.{Runs}

-- Where its bit is set, the bit is cleared, and where it is clear, the page leaves. The hand passes the frame in both cases.
pub data IsLooked (b : ℕ) (w v : View) (frame : ℕ) : Bool → Type 0 where
  Clears : bits_in w (clock.page_of_frame w.frames frame) ≡ true → Runs b (clear_referenced b (clock.page_of_frame w.frames frame) ∷ []) w v → v.frames ≡ passed w.frames
      → IsCleared (bits_in w) (clock.page_of_frame w.frames frame) (bits_in v) → IsLooked b w v frame false
  StartsLeaving : bits_in w (clock.page_of_frame w.frames frame) ≡ false → Runs b (leave b (clock.page_of_frame w.frames frame) ∷ []) w v → v.frames ≡ record (passed w.frames) { leaving = Some frame }
      → IsLooked b w v frame true

-- the entry of each page that is not valid is as it was
abbrev pub KeepsAbsent : View → View → Type 0
KeepsAbsent w v = (page : ℕ) → page < user_pages → is_valid (entry_in w page) ≡ false → entry_in v page ≡ entry_in w page

-- each page is dirty exactly where it was
abbrev pub KeepsDirty : View → View → Type 0
KeepsDirty w v = (page : ℕ) → page < user_pages → is_dirty (entry_in v page) ≡ is_dirty (entry_in w page)

-- no page has more lines than it had
abbrev pub HasNoMoreLines : View → View → Type 0
HasNoMoreLines w v = (page : ℕ) → page < user_pages → page_line_count v.caches page ≤ page_line_count w.caches page

pub record Looks (b : ℕ) (w v : View) (leaves : Bool) : Type 0 where
  pub frame : ℕ
  pub found : looked_at w.frames ≡ Some frame
  pub taken : IsTaken w.frames frame
  pub room : w.room ≤ v.room + entry_room
  pub looked : IsLooked b w v frame leaves
  pub absent : KeepsAbsent w v
  pub dirty : KeepsDirty w v
  pub lines : HasNoMoreLines w v

-- The clock was run: it cleared what its turn says, and the turn's page leaves.
pub record Clocks (b : ℕ) (w v : View) : Type 0 where
  pub runs : Runs b (clock_acts b w.frames (turn_of w)) w v
  pub frames : v.frames ≡ record w.frames { hand = (turn_of w).hand; leaving = Some (frame_held (turn_of w).leaves) }
  pub room : w.room ≤ v.room + entry_room * (length (turn_of w).cleared + 1)
  pub absent : KeepsAbsent w v
  pub dirty : KeepsDirty w v
  pub lines : HasNoMoreLines w v
