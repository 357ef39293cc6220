-- The clock: which page leaves. It is defined over one list, the taken frames from the hand on; and there is the hand
-- that moves over the frames.
use Rattle.std.specs.Prelude.{⊤, ℕ, zero, suc, ◌≡◌, ◌≢◌, ◌+◌, ◌==◌, Bool, true, false, if◌then◌else◌, List, [], ◌∷◌, ◌++◌, take, drop, Option, Some, None}
use Rattle.std.specs.Option.{option_map, option_or}
use Rattle.spur_frames.specs.Frames.{Frames, holder_of, looked_at, hand_past, passed}

-- a page and the frame that holds it
pub record Resident : Type 0 where
  pub frame : ℕ
  pub page : ℕ

-- the pages of the taken frames, ascending, where the first frame has number k
abbrev pub residents_from : ℕ → List (Option (ℕ × ℕ)) → List Resident
residents_from k [] = []
residents_from k (None ∷ rest) = residents_from (k + 1) rest
residents_from k (Some holder ∷ rest) = record { frame = k; page = holder.0 } ∷ residents_from (k + 1) rest

-- the list: the taken frames in ascending order from the hand, going round
abbrev pub round : Frames → List Resident
round frames = residents_from (frames.first + frames.hand) (drop frames.hand frames.held) ++ residents_from frames.first (take frames.hand frames.held)

-- The bits R are any function from pages.

-- the pages that stand before the first whose bit is clear; all, where none is clear
abbrev pub before_clear : (ℕ → Bool) → List Resident → List ℕ
before_clear bits [] = []
before_clear bits (r ∷ rs) = if bits r.page then r.page ∷ before_clear bits rs else []

-- the first whose bit is clear
abbrev pub first_clear : (ℕ → Bool) → List Resident → Option Resident
first_clear bits [] = None
first_clear bits (r ∷ rs) = if bits r.page then first_clear bits rs else Some r

abbrev pub first_of : List Resident → Option Resident
first_of [] = None
first_of (r ∷ rs) = Some r

-- the one that leaves: the first whose bit is clear, and where none is clear the first of all
abbrev pub leaves_of : (ℕ → Bool) → List Resident → Option Resident
leaves_of bits rs = option_or (first_clear bits rs) (first_of rs)

-- the frame of a resident, if there is one
abbrev pub frame_of : Option Resident → Option ℕ
frame_of o = option_map (λ (r : Resident). r.frame) o

-- a turn of the clock: the pages whose bits it clears, in their order; who leaves; and the place of the hand then
pub record Turn : Type 0 where
  pub cleared : List ℕ
  pub leaves : Option Resident
  pub hand : ℕ

-- the turn, by the list alone
abbrev pub clock : Frames → (ℕ → Bool) → Turn
clock frames bits = record {
  cleared = before_clear bits (round frames);
  leaves = leaves_of bits (round frames);
  hand = hand_past frames (frame_of (leaves_of bits (round frames)));
}

-- the page of a frame, if it holds one
abbrev pub page_held : Option (ℕ × ℕ) → ℕ
page_held None = 0
page_held (Some holder) = holder.0

abbrev pub page_of_frame : Frames → ℕ → ℕ
page_of_frame frames frame = page_held (holder_of frames frame)

-- the page that the hand finds, if there is a taken frame
abbrev pub page_found : Frames → Option ℕ → ℕ
page_found frames None = 0
page_found frames (Some frame) = page_of_frame frames frame

-- the bits with that of one page cleared
abbrev pub without : (ℕ → Bool) → ℕ → ℕ → Bool
without bits page other = if other == page then false else bits other

-- `later` are bits with that of one page cleared
pub record IsCleared (bits : ℕ → Bool) (page : ℕ) (later : ℕ → Bool) : Type 0 where
  pub clear : later page ≡ false
  pub others : (other : ℕ) → other ≢ page → later other ≡ bits other

-- a page cleared, and then a turn
abbrev pub clearing_turn : ℕ → Turn → Turn
clearing_turn page turn = record turn { cleared = page ∷ turn.cleared }

-- pages cleared, and then a turn
abbrev pub cleared_before : List ℕ → Turn → Turn
cleared_before pages turn = record turn { cleared = pages ++ turn.cleared }

-- a turn in which the page of a frame leaves at once
abbrev pub leaving_turn : Frames → ℕ → Turn
leaving_turn frames frame = record { cleared = []; leaves = Some (record { frame = frame; page = page_of_frame frames frame }); hand = hand_past frames (Some frame) }

-- what the hand does with the taken frame that it finds, where `later` is what it does after passing it with the bit cleared
abbrev pub turn_at : Frames → (ℕ → Bool) → Turn → Option ℕ → Turn
turn_at frames bits later None = record { cleared = []; leaves = None; hand = frames.hand }
turn_at frames bits later (Some frame) = if bits (page_of_frame frames frame) then clearing_turn (page_of_frame frames frame) later else leaving_turn frames frame

-- the moving hand, which looks at n frames at most: where the bit of the page that it finds is set, it clears it,
-- passes the frame and looks again; else that page leaves, and the hand passes it
abbrev pub moving_hand : ℕ → Frames → (ℕ → Bool) → Turn
moving_hand zero frames bits = record { cleared = []; leaves = None; hand = frames.hand }
moving_hand (suc n) frames bits =
    turn_at frames bits (moving_hand n (passed frames) (without bits (page_found frames (looked_at frames)))) (looked_at frames)

-- the pages of residents, in their order
abbrev pub pages_of : List Resident → List ℕ
pages_of [] = []
pages_of (r ∷ rs) = r.page ∷ pages_of rs

-- the bits of all of them are set
abbrev pub AreSet : (ℕ → Bool) → List Resident → Type 0
AreSet bits [] = ⊤
AreSet bits (r ∷ rs) = (bits r.page ≡ true) × AreSet bits rs

-- how many of the pages have their bits set
abbrev pub set_count : (ℕ → Bool) → List Resident → ℕ
set_count bits [] = 0
set_count bits (r ∷ rs) = if bits r.page then suc (set_count bits rs) else set_count bits rs
