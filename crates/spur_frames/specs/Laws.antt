-- Laws of the frame table and of its clock.
use Rattle.std.specs.Prelude.{ℕ, ◌≡◌, ◌≢◌, ◌+◌, ◌<◌, ◌≤◌, ◌↔◌, Bool, true, false, List, [], ◌∷◌, ◌++◌, length, Some, None, IsSome}
use Rattle.spur_frames.specs.Frames.{Frames, AreFrames, IsFrame, IsFree, holder_of, least_free, looked_at, new_frames, passed, place_after, take_frame, release_frame}
use Rattle.spur_frames.specs.Clock.{AreSet, IsCleared, Resident, cleared_before, clearing_turn, clock, leaving_turn, moving_hand, page_of_frame, pages_of, round, set_count}

-- no free frame has a number below the one that is told
abbrev pub NoneBelowIsFree : Type 0
NoneBelowIsFree = (frames : Frames) (frame other : ℕ) → least_free frames ≡ Some frame → IsFree frames other → frame ≤ other

-- none is told exactly where all are taken
abbrev pub NoneIsFree : Type 0
NoneIsFree = (frames : Frames) → (least_free frames ≡ None) ↔ ((frame : ℕ) → IsFrame frames frame → IsSome (holder_of frames frame))

-- none is found exactly where all are free
abbrev pub NoneIsTaken : Type 0
NoneIsTaken = (frames : Frames) → AreFrames frames → (looked_at frames ≡ None) ↔ ((frame : ℕ) → IsFrame frames frame → holder_of frames frame ≡ None)

-- a new table has as many frames as were asked for, and all are free
pub record IsAllFree (first count : ℕ) : Type 0 where
  pub all : length (new_frames first count).held ≡ count
  pub free : (frame : ℕ) → IsFrame (new_frames first count) frame → holder_of (new_frames first count) frame ≡ None

abbrev pub NewIsFree : Type 0
NewIsFree = (first count : ℕ) → IsAllFree first count

-- a frame that was taken holds the page and slot, every other what it held, and there are as many frames as before
pub record TakesOne (frames : Frames) (frame page slot : ℕ) : Type 0 where
  pub taken : holder_of (take_frame frames frame page slot) frame ≡ Some (page, slot)
  pub others : (other : ℕ) → IsFrame frames other → other ≢ frame → holder_of (take_frame frames frame page slot) other ≡ holder_of frames other
  pub count : length (take_frame frames frame page slot).held ≡ length frames.held

abbrev pub TakingIsOfOne : Type 0
TakingIsOfOne = (frames : Frames) (frame page slot : ℕ) → IsFrame frames frame → TakesOne frames frame page slot

-- a frame that was released holds nothing and is not leaving, every other holds what it held and leaves if it was
-- leaving, and there are as many frames as before
pub record ReleasesOne (frames : Frames) (frame : ℕ) : Type 0 where
  pub free : holder_of (release_frame frames frame) frame ≡ None
  pub others : (other : ℕ) → IsFrame frames other → other ≢ frame → holder_of (release_frame frames frame) other ≡ holder_of frames other
  pub count : length (release_frame frames frame).held ≡ length frames.held
  pub ended : (release_frame frames frame).leaving ≢ Some frame
  pub leaving : (other : ℕ) → other ≢ frame → ((release_frame frames frame).leaving ≡ Some other) ↔ (frames.leaving ≡ Some other)

abbrev pub ReleasingIsOfOne : Type 0
ReleasingIsOfOne = (frames : Frames) (frame : ℕ) → IsFrame frames frame → ReleasesOne frames frame

-- where the first clear bit stands at a position of the list, the pages before it are cleared, and the one there leaves
abbrev pub FirstClearLeaves : Type 0
FirstClearLeaves = (frames : Frames) (bits : ℕ → Bool) (before : List Resident) (r : Resident) (after : List Resident) → round frames ≡ before ++ r ∷ after
    → AreSet bits before → bits r.page ≡ false
    → clock frames bits ≡ record { cleared = pages_of before; leaves = Some r; hand = place_after frames r.frame }

-- where none is clear, all pages are cleared, and the first of the list leaves
abbrev pub FirstLeavesWhereAllAreSet : Type 0
FirstLeavesWhereAllAreSet = (frames : Frames) (bits : ℕ → Bool) (r : Resident) (rest : List Resident) → round frames ≡ r ∷ rest
    → AreSet bits (r ∷ rest)
    → clock frames bits ≡ record { cleared = pages_of (r ∷ rest); leaves = Some r; hand = place_after frames r.frame }

-- no page stands in two frames
abbrev pub HaveOwnPages : Frames → Type 0
HaveOwnPages frames = (frame other : ℕ) (here there : ℕ × ℕ) → holder_of frames frame ≡ Some here → holder_of frames other ≡ Some there → here.0 ≡ there.0
    → frames.first ≤ frame → frame < frames.first + length frames.held → frames.first ≤ other → other < frames.first + length frames.held → frame ≡ other

-- where the page that the hand finds has its bit set, the list's turn is to clear it, and then the list's turn of what is
-- there once the hand has passed it
abbrev pub SetIsClearedAndPassed : Type 0
SetIsClearedAndPassed = (frames : Frames) (bits later : ℕ → Bool) (frame : ℕ) → HaveOwnPages frames
    → looked_at frames ≡ Some frame → bits (page_of_frame frames frame) ≡ true → IsCleared bits (page_of_frame frames frame) later
    → clock frames bits ≡ clearing_turn (page_of_frame frames frame) (clock (passed frames) later)

-- where its bit is clear, the page leaves
abbrev pub ClearLeaves : Type 0
ClearLeaves = (frames : Frames) (bits : ℕ → Bool) (frame : ℕ)
    → looked_at frames ≡ Some frame → bits (page_of_frame frames frame) ≡ false → clock frames bits ≡ leaving_turn frames frame

-- each page that is cleared and passed leaves one set bit fewer
abbrev pub SetBitsFall : Type 0
SetBitsFall = (frames : Frames) (bits later : ℕ → Bool) (frame : ℕ) → HaveOwnPages frames
    → looked_at frames ≡ Some frame → bits (page_of_frame frames frame) ≡ true → IsCleared bits (page_of_frame frames frame) later
    → set_count later (round (passed frames)) + 1 ≡ set_count bits (round frames)

-- there are no more set bits than frames, and no more pages are cleared
abbrev pub SetBitsAreFew : Type 0
SetBitsAreFew = (frames : Frames) (bits : ℕ → Bool) → set_count bits (round frames) ≤ length frames.held

abbrev pub ClearedAreFew : Type 0
ClearedAreFew = (frames : Frames) (bits : ℕ → Bool) → length (clock frames bits).cleared ≤ length frames.held

-- the moving hand does what the list says
abbrev pub HandDoesTheList : Type 0
HandDoesTheList = (n : ℕ) (frames : Frames) (bits : ℕ → Bool) → HaveOwnPages frames → length frames.held < n
    → moving_hand n frames bits ≡ clock frames bits

-- a turn that began with `start` and the bits `first`, and has cleared these pages so far: what is left of it is the turn
-- of the frames and bits that are there now, where only the hand has moved, and each page cleared had its bit set
pub record IsUnderWay (start : Frames) (first : ℕ → Bool) (cleared : List ℕ) (frames : Frames) (bits : ℕ → Bool) : Type 0 where
  pub own : HaveOwnPages frames
  pub rest : clock start first ≡ cleared_before cleared (clock frames bits)
  pub moved : frames ≡ record start { hand = frames.hand }
  pub set : length cleared + set_count bits (round frames) ≡ set_count first (round start)

abbrev pub TurnBegins : Type 0
TurnBegins = (frames : Frames) (bits : ℕ → Bool) → HaveOwnPages frames → IsUnderWay frames bits [] frames bits

-- it goes on where the page that the hand finds has its bit set, is cleared and is passed
abbrev pub TurnGoesOn : Type 0
TurnGoesOn = (start : Frames) (first : ℕ → Bool) (cleared : List ℕ) (frames : Frames) (bits later : ℕ → Bool) (frame : ℕ) → IsUnderWay start first cleared frames bits
    → looked_at frames ≡ Some frame → bits (page_of_frame frames frame) ≡ true → IsCleared bits (page_of_frame frames frame) later
    → IsUnderWay start first (cleared ++ page_of_frame frames frame ∷ []) (passed frames) later

-- a turn that ends with the page of a frame
pub record IsTurnEnd (start : Frames) (first : ℕ → Bool) (cleared : List ℕ) (frames : Frames) (frame : ℕ) : Type 0 where
  pub turn : clock start first ≡ record { cleared = cleared; leaves = Some (record { frame = frame; page = page_of_frame frames frame }); hand = (passed frames).hand }
  pub moved : passed frames ≡ record start { hand = (clock start first).hand }

-- it ends where the page that the hand finds has its bit clear
abbrev pub TurnEnds : Type 0
TurnEnds = (start : Frames) (first : ℕ → Bool) (cleared : List ℕ) (frames : Frames) (bits : ℕ → Bool) (frame : ℕ) → IsUnderWay start first cleared frames bits
    → looked_at frames ≡ Some frame → bits (page_of_frame frames frame) ≡ false → IsTurnEnd start first cleared frames frame
