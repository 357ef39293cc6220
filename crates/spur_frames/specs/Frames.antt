-- Frames that hold a page each or are free, and a hand that goes round them.
use Rattle.std.specs.Prelude.{ℕ, ◌+◌, ◌-◌, ◌<◌, ◌≤◌, ◌==◌, ◌≡◌, if◌then◌else◌, List, [], ◌∷◌, length, take, drop, replicate, get_or, slice_set, Option, Some, None, IsSome, IfSome, count_by, is_none}
use Rattle.std.specs.Option.{option_or}

-- the number of the first frame; what each frame from there on holds: a page and its slot, or nothing; the place of
-- the hand, counted from the first frame; the number of the frame whose page is leaving
pub record Frames : Type 0 where
  pub first : ℕ
  pub held : List (Option (ℕ × ℕ))
  pub hand : ℕ
  pub leaving : Option ℕ

-- what a frame holds, where `held` is what the frames from `first` on hold
abbrev pub held_in : ℕ → List (Option (ℕ × ℕ)) → ℕ → Option (ℕ × ℕ)
held_in first held frame = get_or held (frame - first) None

-- the page and the slot of a frame; None where it is free
abbrev pub holder_of : Frames → ℕ → Option (ℕ × ℕ)
holder_of frames frame = held_in frames.first frames.held frame

-- one of so many frames from `first` on
pub record IsFrameOf (first count frame : ℕ) : Type 0 where
  pub low : first ≤ frame
  pub high : frame < first + count

-- one of them that holds a page
pub record IsTakenOf (first : ℕ) (held : List (Option (ℕ × ℕ))) (frame : ℕ) : Type 0 where
  pub low : first ≤ frame
  pub high : frame < first + length held
  pub taken : IsSome (held_in first held frame)

-- one of them that holds none
pub record IsFreeOf (first : ℕ) (held : List (Option (ℕ × ℕ))) (frame : ℕ) : Type 0 where
  pub low : first ≤ frame
  pub high : frame < first + length held
  pub free : held_in first held frame ≡ None

abbrev pub IsFrame : Frames → ℕ → Type 0
IsFrame frames frame = IsFrameOf frames.first (length frames.held) frame

abbrev pub IsTaken : Frames → ℕ → Type 0
IsTaken frames frame = IsTakenOf frames.first frames.held frame

abbrev pub IsFree : Frames → ℕ → Type 0
IsFree frames frame = IsFreeOf frames.first frames.held frame

-- at least one frame, all of them among 4096, the hand on one of them, and the leaving one taken
pub record AreFrames (frames : Frames) : Type 0 where
  pub some : 1 ≤ length frames.held
  pub few : frames.first + length frames.held ≤ 4096
  pub hand : frames.hand < length frames.held
  pub leaving : IfSome frames.leaving (IsTaken frames)

-- so many frames, all free, the hand on the first
abbrev pub new_frames : ℕ → ℕ → Frames
new_frames first count = record { first = first; held = replicate count None; hand = 0; leaving = None }

-- how many frames are free
abbrev pub free_count : List (Option (ℕ × ℕ)) → ℕ
free_count held = count_by is_none held

-- the first free frame, where the first one has number k
abbrev pub free_from : ℕ → List (Option (ℕ × ℕ)) → Option ℕ
free_from k [] = None
free_from k (None ∷ rest) = Some k
free_from k (Some holder ∷ rest) = free_from (k + 1) rest

-- the free frame with the least number
abbrev pub least_free : Frames → Option ℕ
least_free frames = free_from frames.first frames.held

-- the first taken frame, where the first one has number k
abbrev pub taken_from : ℕ → List (Option (ℕ × ℕ)) → Option ℕ
taken_from k [] = None
taken_from k (None ∷ rest) = taken_from (k + 1) rest
taken_from k (Some holder ∷ rest) = Some k

-- the first taken frame at or after the hand, going round
abbrev pub looked_at : Frames → Option ℕ
looked_at frames =
    option_or (taken_from (frames.first + frames.hand) (drop frames.hand frames.held)) (taken_from frames.first (take frames.hand frames.held))

-- the place of the frame after one, going round
abbrev pub place_after : Frames → ℕ → ℕ
place_after frames frame = if frame + 1 == frames.first + length frames.held then 0 else frame + 1 - frames.first

-- the place of the hand, once it is on the frame after one; where there is none, it stays
abbrev pub hand_past : Frames → Option ℕ → ℕ
hand_past frames None = frames.hand
hand_past frames (Some frame) = place_after frames frame

-- the hand on the frame after the taken one that it finds, and all else as it is
abbrev pub passed : Frames → Frames
passed frames = record frames { hand = hand_past frames (looked_at frames) }

-- a frame taken for a page and its slot, and all else as it is
abbrev pub take_frame : Frames → ℕ → ℕ → ℕ → Frames
take_frame frames frame page slot = record frames { held = slice_set frames.held (frame - frames.first) (Some (page, slot)) }

-- the leaving frame, but none where it is this one
abbrev pub other_than : Option ℕ → ℕ → Option ℕ
other_than None frame = None
other_than (Some other) frame = if other == frame then None else Some other

-- a frame that is free again and leaving no more, and all else as it is
abbrev pub release_frame : Frames → ℕ → Frames
release_frame frames frame =
    record frames { held = slice_set frames.held (frame - frames.first) None; leaving = other_than frames.leaving frame }
