-- How much room in the history the rest of a turn may still need.
use Rattle.std.specs.Prelude.{ℕ, ◌≡◌, ◌+◌, ◌*◌, ◌<◌, ◌≤◌, Bool, true, false, [], get_or, length, Option, Some, None}
use Rattle.std.specs.Option.{option_map}
use Rattle.spur_addr.specs.Address.{table_start}
use Rattle.spur_addr.specs.PageEntry.{is_leaving, is_valid}
use Rattle.spur_snoop.specs.declared.Need.{Need}
use Rattle.spur_flat.specs.declared.access.FaultKind.{FaultKind}
use Rattle.spur_flat.specs.declared.entry.Entry.{Entry}
use Rattle.spur_flat.specs.Pager.{word_of}
use Rattle.spur_frames.specs.Frames.{AreFrames, least_free}
use Rattle.spur_frames.specs.Clock.{page_of_frame}
use Rattle.spur_walk.specs.declared.step.Walked.TheVariants as walked
use Rattle.spur_walk.specs.Bounds.{steps_left}
use Rattle.spur_walk.specs.Plan.{access_plan}
use Rattle.spur_walk.specs.Steps.{Steps, answer_of}
use Rattle.spur_pager.specs.View.{View}
use Rattle.spur_pager.specs.Stand.{IsServable, flat_in}
use Rattle.spur_pager.specs.Room.{entry_room, page_line_count, room_for}
use Rattle.spur_pager.specs.Served.{HasFault, IsServed}
use Rattle.spur_pager.specs.Again.{HasStepped, SharesSame}
use Rattle.spur_pager.specs.Faults.{faults_left}

-- how many lines the leaving page has, where one is leaving
abbrev pub leaving_lines : View → Option ℕ
leaving_lines w = option_map (λ frame. page_line_count w.caches (page_of_frame w.frames frame)) w.frames.leaving

-- For making a frame free where none is: the lines of the leaving page are flushed, and it goes out; where none is leaving,
-- at most, the clock clears bits and has a page leave, which then goes out.
abbrev pub freeing_room : ℕ → ℕ → Option ℕ → Option ℕ → ℕ
freeing_room frames boards lines (Some frame) = 0
freeing_room frames boards (Some n) None = n + entry_room
freeing_room frames boards None None = entry_room * (frames + 2) + 128 * boards

abbrev pub lines_or_zero : Option ℕ → ℕ
lines_or_zero None = 0
lines_or_zero (Some n) = n

-- for a page to go out, beside the change of its entry, by two bits of the entry of the access's page, valid and
-- leaving: one that is not valid wants a free frame, and of one that is leaving the lines are flushed
abbrev pub out_room_by : ℕ → ℕ → Option ℕ → Option ℕ → Bool → Bool → ℕ
out_room_by frames boards lines free false leaving = freeing_room frames boards lines free
out_room_by frames boards lines free true true = lines_or_zero lines
out_room_by frames boards lines free true false = 0

abbrev pub out_room_of : View → ℕ → ℕ
out_room_of w e = out_room_by (length w.frames.held) (length w.caches) (leaving_lines w) (least_free w.frames) (is_valid e) (is_leaving e)

abbrev pub out_room : View → ℕ → ℕ → ℕ
out_room w b at = out_room_of w (word_of (flat_in w) at)

-- What may be appended in a whole turn so that a page leaves, ahead of need or not: where a page is leaving, for its lines
-- and its entry; where none is, and no frame is free, as above.
abbrev pub leaving_room : ℕ → ℕ → Option ℕ → Option ℕ → ℕ
leaving_room frames boards (Some n) free = n + entry_room
leaving_room frames boards None free = freeing_room frames boards None free

abbrev pub leaving_left : View → ℕ
leaving_left w = leaving_room (length w.frames.held) (length w.caches) (leaving_lines w) (least_free w.frames)

-- What the rest of a turn of board b may still append, whose access is to the word at `at`: for a page that goes out;
-- for each fault that is left its entry, six steps after it, and one change of a page's entry; the steps until then;
-- and the access itself.
abbrev pub turn_room : View → ℕ → ℕ → Need → ℕ
turn_room w b at need =
    out_room w b at + (1 + 6 + entry_room) * faults_left w b at + steps_left (get_or w.caches b []) at need + 1

-- where a fault that is served answers, there is room for its entry and for serving it
abbrev pub FaultHasRoom : Type 0
FaultHasRoom = (w : View) (b : ℕ) (kind : FaultKind) (at : ℕ) (need : Need) → IsServable w → b < length w.caches
    → at < table_start → HasFault w b kind at → 1 + room_for w kind ≤ turn_room w b at need

-- and once it was served, for the rest of the turn
abbrev pub ServedLeavesRoom : Type 0
ServedLeavesRoom = (w v : View) (b : ℕ) (kind : FaultKind) (at : ℕ) (need : Need) → IsServable w → b < length w.caches
    → at < table_start → HasFault w b kind at → IsServed b w kind at v → length v.caches ≡ length w.caches
    → length v.frames.held ≡ length w.frames.held
    → turn_room v b at need + (1 + room_for w kind) ≤ turn_room w b at need

-- a step towards the access uses one entry
abbrev pub MovedLeavesRoom : Type 0
MovedLeavesRoom = (w v : View) (b at : ℕ) (need : Need) (e : Entry) → IsServable w → AreFrames w.frames → b < length w.caches
    → at < table_start → Steps w.caches w.memory b at (access_plan w.caches w.memory b at need) v.caches v.memory
    → SharesSame w v → answer_of b at (access_plan w.caches w.memory b at need) ≡ walked.Moved e
    → turn_room v b at need + 1 ≤ turn_room w b at need

-- and several steps as many as they are, where so many fewer are left
abbrev pub StepsLeaveRoom : Type 0
StepsLeaveRoom = (w v : View) (b at : ℕ) (need : Need) (count : ℕ) → IsServable w → AreFrames w.frames → HasStepped w v
    → count + steps_left (get_or v.caches b []) at need ≤ steps_left (get_or w.caches b []) at need
    → turn_room v b at need + count ≤ turn_room w b at need

-- a whole turn needs no more than this
abbrev pub TurnRoomIsBounded : Type 0
TurnRoomIsBounded = (w : View) (b at : ℕ) (need : Need) → IsServable w
    → turn_room w b at need ≤ entry_room * length w.frames.held + 128 * length w.caches + 55

-- After a step ahead, from w to u, there is room for the rest of the turn, where there was as much as this before it.
abbrev pub AheadLeavesRoom : Type 0
AheadLeavesRoom = (w u : View) (b at : ℕ) (need : Need) → IsServable w
    → leaving_left u + w.room ≤ leaving_left w + u.room
    → entry_room * length w.frames.held + 128 * length w.caches + 65 ≤ w.room
    → turn_room u b at need ≤ u.room
