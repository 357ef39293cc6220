-- What the rest of a turn may still append.
use Rattle.std.proofs.Common.{◌≡◌, ◌∙◌, ℕ, ◌+◌, ◌*◌, ◌<◌, ◌≤◌, ◌&&◌, not, Bool, true, false, ap, sym, refl, subst, [], get_or, length, Option, Some, None, arith}
use Rattle.std.specs.Prelude.{IsSome}
use Rattle.std.specs.Option.{option_map}
use Rattle.spur_addr.specs.Address.{page_of, table_start, user_pages}
use Rattle.spur_addr.specs.PageEntry.{is_dirty, is_leaving, is_referenced, is_valid, number_of}
use Rattle.spur_flat.specs.declared.access.FaultKind.{FaultKind}
use Rattle.spur_flat.specs.declared.access.FaultKind.TheVariants as fault
use Rattle.spur_flat.specs.declared.flat.Flat.{Flat}
use Rattle.spur_flat.specs.Pager.{word_of}
use Rattle.spur_frames.specs.Clock.{page_of_frame}
use Rattle.spur_frames.specs.Frames.{AreFrames, Frames, least_free}
use Rattle.spur_walk.specs.Bounds.{steps_left}
use Rattle.spur_walk.proofs.BoundFacts.{steps-few}
use Rattle.spur_walk.proofs.StepFacts.{same_flat}
use Rattle.spur_pager.specs.View.{View}
use Rattle.spur_pager.specs.Stand.{IsServable, entry_in, flat_in, standing_flat}
use Rattle.spur_pager.specs.Service.{outgoing_by, turn_of}
use Rattle.spur_pager.specs.Room.{clock_room, entry_room, free_room, page_line_count, room_for}
use Rattle.spur_pager.specs.Served.{HasFault}
use Rattle.spur_pager.specs.Again.{HasStepped}
use Rattle.spur_pager.specs.Faults.{faults_by_bits, faults_left, one_if_clear}
use Rattle.spur_pager.specs.Reserve.{AheadLeavesRoom, FaultHasRoom, MovedLeavesRoom, ServedLeavesRoom, StepsLeaveRoom, TurnRoomIsBounded, freeing_room, leaving_left, leaving_lines, leaving_room, lines_or_zero, out_room, out_room_by, out_room_of}
use Rattle.spur_pager.proofs.AgainFacts.{step-has-stepped}
use Rattle.spur_pager.proofs.BitFacts.{After, AfterDirty, AfterLeaving, AfterMissing, AfterReference, Faults, OfDirty, OfLeaving, OfMissing, OfReference, fault_bits, served_bits}
use Rattle.spur_pager.proofs.BoundFacts.{page-lines-are-few, room-is-bounded}
use Rattle.spur_pager.proofs.EntryFacts.{leaving_page, leaving_taken}
use Rattle.spur_bus.proofs.LineFacts.{some_same}
use Rattle.spur_pager.proofs.ServeFacts.{HasLeavingFrame, leaving_at}
use Rattle.spur_pager.proofs.FewerFacts.{moved-falls, one_most, same_faults, stepped-keeps-faults}

-- the room that serving a fault of each kind needs, at most
abbrev most_for : ℕ → ℕ → Option ℕ → Option ℕ → FaultKind → ℕ
most_for frames boards lines free fault.Missing = freeing_room frames boards lines free + 5
most_for frames boards lines free fault.Leaving = lines_or_zero lines + 5
most_for frames boards lines free fault.Reference = 5
most_for frames boards lines free fault.Dirty = 5
most_for frames boards lines free kind = 0

-- the lines of the leaving page, by its frame
abbrev lines_by : View → Option ℕ → Option ℕ
lines_by w o = option_map (λ (frame : ℕ). page_line_count w.caches (page_of_frame w.frames frame)) o

full_most : (w : View) (o : Option ℕ) → IsServable w → w.frames.leaving ≡ o → least_free w.frames ≡ None → room_for w fault.Missing ≤ freeing_room (length w.frames.held) (length w.caches) (lines_by w o) None + 5
full_most w (Some frame) servable is full =
    let r : room_for w fault.Missing ≡ 0 + (page_line_count w.caches (page_of_frame w.frames frame) + 5) + 5 =
    ap (λ (o : Option ℕ). free_room w o + 5) full
    ∙ ap (λ (o : Option ℕ). clock_room w o + (page_line_count w.caches (page_of_frame w.frames (outgoing_by o (turn_of w).leaves)) + 5) + 5) is in
    let s : freeing_room (length w.frames.held) (length w.caches) (lines_by w (Some frame)) None ≡ page_line_count w.caches (page_of_frame w.frames frame) + 5 = refl in
    omega arith
full_most w None servable is full =
    let r : room_for w fault.Missing ≤ 5 * (length w.frames.held + 3) + 128 * length w.caches = room-is-bounded w fault.Missing servable in
    let s : freeing_room (length w.frames.held) (length w.caches) (lines_by w None) None ≡ 5 * (length w.frames.held + 2) + 128 * length w.caches = refl in
    omega arith

missing_most : (w : View) (free : Option ℕ) → IsServable w → least_free w.frames ≡ free → room_for w fault.Missing ≤ freeing_room (length w.frames.held) (length w.caches) (leaving_lines w) free + 5
missing_most w (Some frame) servable is =
    let r : room_for w fault.Missing ≡ 5 = ap (λ (o : Option ℕ). free_room w o + entry_room) is in
    omega arith
missing_most w None servable is = full_most w w.frames.leaving servable refl is

leaving_most : (w : View) (at frame : ℕ) → HasLeavingFrame w at frame → room_for w fault.Leaving ≤ lines_or_zero (leaving_lines w) + 5
leaving_most w at frame l =
    let r : room_for w fault.Leaving ≡ page_line_count w.caches (page_of_frame w.frames frame) + 5 =
    ap (λ (n : ℕ). page_line_count w.caches (page_of_frame w.frames n) + 5) l.victim in
    let s : lines_or_zero (leaving_lines w) ≡ page_line_count w.caches (page_of_frame w.frames frame) = ap (λ (o : Option ℕ). lines_or_zero (lines_by w o)) l.leaving in
    omega arith

room_most : (w : View) (b at : ℕ) (kind : FaultKind) → IsServable w → b < length w.caches → at < table_start → HasFault w b kind at
    → room_for w kind ≤ most_for (length w.frames.held) (length w.caches) (leaving_lines w) (least_free w.frames) kind
room_most w b at fault.Missing servable within user f = missing_most w (least_free w.frames) servable refl
room_most w b at fault.Leaving servable within user f =
    leaving_most w at (number_of (entry_in w (page_of at))) (leaving_at w servable.rest b at servable.stands within user f)
room_most w b at fault.Reference servable within user f = omega arith
room_most w b at fault.Dirty servable within user f = omega arith
room_most w b at fault.Align servable within user f = omega arith
room_most w b at fault.Unmapped servable within user f = omega arith
room_most w b at fault.Protection servable within user f = omega arith

same_out : (frames boards : ℕ) (lines free : Option ℕ) (v l v1 l1 : Bool) → v ≡ v1 → l ≡ l1 → out_room_by frames boards lines free v l ≡ out_room_by frames boards lines free v1 l1
same_out frames boards lines free v l v1 l1 hv hl = ap (λ (x : Bool). out_room_by frames boards lines free x l) hv ∙ ap (λ (x : Bool). out_room_by frames boards lines free v1 x) hl

free_none : (frames boards : ℕ) (lines free : Option ℕ) → IsSome free → freeing_room frames boards lines free ≡ 0
free_none frames boards lines None some = cc
free_none frames boards lines (Some frame) some = refl

-- what serving a fault uses and leaves is not more than was left before it
leaves : (frames boards used : ℕ) (lines free lines1 free1 : Option ℕ) (v l r d v1 l1 r1 d1 : Bool) (kind : FaultKind) → Faults v l r d kind → After v l r d v1 l1 r1 d1 kind
    → used ≤ most_for frames boards lines free kind → (kind ≡ fault.Leaving → IsSome free1)
    → used + 7 + (out_room_by frames boards lines1 free1 v1 l1 + 12 * faults_by_bits v1 l1 r1 d1) ≤ out_room_by frames boards lines free v l + 12 * faults_by_bits v l r d
leaves frames boards used lines free lines1 free1 v l r d v1 l1 r1 d1 fault.Missing (OfMissing hv) (AfterMissing av al) few some =
    let was : faults_by_bits v l r d ≡ 3 = same_faults v l r d false l r d hv refl refl refl in
    let now : faults_by_bits v1 l1 r1 d1 ≡ one_if_clear r1 + one_if_clear d1 = same_faults v1 l1 r1 d1 true false r1 d1 av al refl refl in
    let out : out_room_by frames boards lines free v l ≡ freeing_room frames boards lines free = same_out frames boards lines free v l false l hv refl in
    let out1 : out_room_by frames boards lines1 free1 v1 l1 ≡ 0 = same_out frames boards lines1 free1 v1 l1 true false av al in
    let r_most : one_if_clear r1 ≤ 1 = one_most r1 in
    let d_most : one_if_clear d1 ≤ 1 = one_most d1 in
    omega arith
leaves frames boards used lines free lines1 free1 v l r d v1 l1 r1 d1 fault.Leaving (OfLeaving hv hl) (AfterLeaving av) few some =
    let was : faults_by_bits v l r d ≡ 4 = same_faults v l r d true true r d hv hl refl refl in
    let now : faults_by_bits v1 l1 r1 d1 ≡ 3 = same_faults v1 l1 r1 d1 false l1 r1 d1 av refl refl refl in
    let out : out_room_by frames boards lines free v l ≡ lines_or_zero lines = same_out frames boards lines free v l true true hv hl in
    let out1 : out_room_by frames boards lines1 free1 v1 l1 ≡ freeing_room frames boards lines1 free1 = same_out frames boards lines1 free1 v1 l1 false l1 av refl in
    let none : freeing_room frames boards lines1 free1 ≡ 0 = free_none frames boards lines1 free1 (some refl) in
    omega arith
leaves frames boards used lines free lines1 free1 v l r d v1 l1 r1 d1 fault.Reference (OfReference hv hl hr) (AfterReference av al ad ar) few some =
    let was : faults_by_bits v l r d ≡ 1 + one_if_clear d = same_faults v l r d true false false d hv hl hr refl in
    let now : faults_by_bits v1 l1 r1 d1 ≡ 0 + one_if_clear d = same_faults v1 l1 r1 d1 true false true d (av ∙ hv) (al ∙ hl) ar ad in
    let out1 : out_room_by frames boards lines1 free1 v1 l1 ≡ 0 = same_out frames boards lines1 free1 v1 l1 true false (av ∙ hv) (al ∙ hl) in
    omega arith
leaves frames boards used lines free lines1 free1 v l r d v1 l1 r1 d1 fault.Dirty (OfDirty hv hl hd) (AfterDirty av al ar ad) few some =
    let was : faults_by_bits v l r d ≡ one_if_clear r + 1 = same_faults v l r d true false r false hv hl refl hd in
    let now : faults_by_bits v1 l1 r1 d1 ≡ one_if_clear r + 0 = same_faults v1 l1 r1 d1 true false r true (av ∙ hv) (al ∙ hl) ar ad in
    let out1 : out_room_by frames boards lines1 free1 v1 l1 ≡ 0 = same_out frames boards lines1 free1 v1 l1 true false (av ∙ hv) (al ∙ hl) in
    omega arith
leaves frames boards used lines free lines1 free1 v l r d v1 l1 r1 d1 fault.Align h k few some = elim h [ ]
leaves frames boards used lines free lines1 free1 v l r d v1 l1 r1 d1 fault.Unmapped h k few some = elim h [ ]
leaves frames boards used lines free lines1 free1 v l r d v1 l1 r1 d1 fault.Protection h k few some = elim h [ ]

-- and so before it there is room for it
fits : (frames boards used : ℕ) (lines free : Option ℕ) (v l r d : Bool) (kind : FaultKind) → Faults v l r d kind → used ≤ most_for frames boards lines free kind
    → used + 7 ≤ out_room_by frames boards lines free v l + 12 * faults_by_bits v l r d
fits frames boards used lines free v l r d fault.Missing (OfMissing hv) few =
    let was : faults_by_bits v l r d ≡ 3 = same_faults v l r d false l r d hv refl refl refl in
    let out : out_room_by frames boards lines free v l ≡ freeing_room frames boards lines free = same_out frames boards lines free v l false l hv refl in
    omega arith
fits frames boards used lines free v l r d fault.Leaving (OfLeaving hv hl) few =
    let was : faults_by_bits v l r d ≡ 4 = same_faults v l r d true true r d hv hl refl refl in
    let out : out_room_by frames boards lines free v l ≡ lines_or_zero lines = same_out frames boards lines free v l true true hv hl in
    omega arith
fits frames boards used lines free v l r d fault.Reference (OfReference hv hl hr) few =
    let was : faults_by_bits v l r d ≡ 1 + one_if_clear d = same_faults v l r d true false false d hv hl hr refl in
    omega arith
fits frames boards used lines free v l r d fault.Dirty (OfDirty hv hl hd) few =
    let was : faults_by_bits v l r d ≡ one_if_clear r + 1 = same_faults v l r d true false r false hv hl refl hd in
    omega arith
fits frames boards used lines free v l r d fault.Align h few = elim h [ ]
fits frames boards used lines free v l r d fault.Unmapped h few = elim h [ ]
fits frames boards used lines free v l r d fault.Protection h few = elim h [ ]

pub fault-has-room : FaultHasRoom
fault-has-room w b kind at need servable within user f =
    let e : ℕ = word_of (flat_in w) at in
    let r : room_for w kind + 7 ≤ out_room w b at + 12 * faults_left w b at =
    fits (length w.frames.held) (length w.caches) (room_for w kind) (leaving_lines w) (least_free w.frames) (is_valid e) (is_leaving e) (is_referenced e) (is_dirty e) kind
    (fault_bits w b at kind servable within user f) (room_most w b at kind servable within user f) in
    omega arith

pub served-leaves-room : ServedLeavesRoom
served-leaves-room w v b kind at need servable within user f served boards frames =
    let e : ℕ = word_of (flat_in w) at in
    let n : ℕ = word_of (flat_in v) at in
    let was = fault_bits w b at kind servable within user f in
    let r : room_for w kind + 7 + (out_room_by (length w.frames.held) (length w.caches) (leaving_lines v) (least_free v.frames) (is_valid n) (is_leaving n) + 12 * faults_left v b at) ≤ out_room w b at + 12 * faults_left w b at =
    leaves (length w.frames.held) (length w.caches) (room_for w kind) (leaving_lines w) (least_free w.frames) (leaving_lines v) (least_free v.frames) (is_valid e) (is_leaving e) (is_referenced e) (is_dirty e)
    (is_valid n) (is_leaving n) (is_referenced n) (is_dirty n) kind was (served_bits w v b at kind served was) (room_most w b at kind servable within user f) served.free in
    let out : out_room v b at ≡ out_room_by (length w.frames.held) (length w.caches) (leaving_lines v) (least_free v.frames) (is_valid n) (is_leaving n) =
    ap (λ (k : ℕ). out_room_by k (length v.caches) (leaving_lines v) (least_free v.frames) (is_valid n) (is_leaving n)) frames
    ∙ ap (λ (k : ℕ). out_room_by (length w.frames.held) k (leaving_lines v) (least_free v.frames) (is_valid n) (is_leaving n)) boards in
    let few : steps_left (get_or v.caches b []) at need ≤ 6 = (steps-few (get_or v.caches b []) at need).steps in
    omega arith

-- the lines of the leaving page are not more

data IsFewer : Option ℕ → Option ℕ → Type 0 where
  NoneLeaves : IsFewer None None
  HasFewer : (m n : ℕ) → m ≤ n → IsFewer (Some m) (Some n)

fewer_out : (frames boards : ℕ) (now lines free : Option ℕ) (v l : Bool) → IsFewer now lines → out_room_by frames boards now free v l ≤ out_room_by frames boards lines free v l
fewer_out frames boards now lines free true false f = omega arith
fewer_out frames boards now lines (Some frame) false l f = omega arith
fewer_out frames boards None None None false l (NoneLeaves) = same_most (5 * (frames + 2) + 128 * boards)
  where
    same_most : (n : ℕ) → n ≤ n
    same_most n = omega arith
fewer_out frames boards (Some m) (Some n) None false l (HasFewer m1 n1 less) = let few : m ≤ n = less in let r : m + 5 ≤ n + 5 = omega arith in r
fewer_out frames boards None (Some n) None false l f = elim f [ ]
fewer_out frames boards (Some m) None None false l f = elim f [ ]
fewer_out frames boards None (Some n) free true true f = elim f [ ]
fewer_out frames boards (Some m) None free true true f = elim f [ ]
fewer_out frames boards None None free true true (NoneLeaves) = omega arith
fewer_out frames boards (Some m) (Some n) free true true (HasFewer m1 n1 less) = less

fewer_by : (w v : View) (o : Option ℕ) → ((frame : ℕ) → o ≡ Some frame → page_line_count v.caches (page_of_frame w.frames frame) ≤ page_line_count w.caches (page_of_frame w.frames frame))
    → IsFewer (option_map (λ (frame : ℕ). page_line_count v.caches (page_of_frame w.frames frame)) o) (lines_by w o)
fewer_by w v None few = NoneLeaves
fewer_by w v (Some frame) few = HasFewer (page_line_count v.caches (page_of_frame w.frames frame)) (page_line_count w.caches (page_of_frame w.frames frame)) (few frame refl)

and_not : (t : Bool) → (t && not true) ≡ false
and_not true = refl
and_not false = refl

lines_stay : (w v : View) (frame : ℕ) → IsServable w → AreFrames w.frames → HasStepped w v → w.frames.leaving ≡ Some frame
    → page_line_count v.caches (page_of_frame w.frames frame) ≤ page_line_count w.caches (page_of_frame w.frames frame)
lines_stay w v frame servable table s is =
    let page : ℕ = page_of_frame w.frames frame in
    let taken = leaving_taken w.frames frame table is in
    let st = servable.stands in
    let small : page < user_pages = leaving_page (standing_flat servable.rest w) w.frames frame st.framed (record { low = taken.low; high = taken.high }) taken.taken in
    let leaving : is_leaving (entry_in w page) ≡ true = st.framed.leaving frame is in
    s.leaving page small (ap (λ (t : Bool). is_valid (entry_in w page) && not t) leaving ∙ and_not (is_valid (entry_in w page)))

lines_fewer : (w v : View) → IsServable w → AreFrames w.frames → HasStepped w v → IsFewer (leaving_lines v) (leaving_lines w)
lines_fewer w v servable table s =
    subst (λ (fs : Frames). IsFewer (option_map (λ (frame : ℕ). page_line_count v.caches (page_of_frame fs frame)) fs.leaving) (leaving_lines w)) (sym s.shares.frames)
    (fewer_by w v w.frames.leaving (λ (frame : ℕ) (is : w.frames.leaving ≡ Some frame). lines_stay w v frame servable table s is))

pub steps-leave-room : StepsLeaveRoom
steps-leave-room w v b at need count servable table s fewer =
    let e : ℕ = word_of (flat_in w) at in
    let same : faults_left v b at ≡ faults_left w b at = (stepped-keeps-faults w v b at s).faults in
    let out : out_room v b at ≡ out_room_by (length w.frames.held) (length w.caches) (leaving_lines v) (least_free w.frames) (is_valid e) (is_leaving e) =
    ap (λ (F : Flat). out_room_of v (word_of F at)) (same_flat w.caches v.caches w.memory v.memory s.logical)
    ∙ ap (λ (f : Frames). out_room_by (length f.held) (length v.caches) (leaving_lines v) (least_free f) (is_valid e) (is_leaving e)) s.shares.frames
    ∙ ap (λ (n : ℕ). out_room_by (length w.frames.held) n (leaving_lines v) (least_free w.frames) (is_valid e) (is_leaving e)) s.boards in
    let less : out_room_by (length w.frames.held) (length w.caches) (leaving_lines v) (least_free w.frames) (is_valid e) (is_leaving e) ≤ out_room w b at =
    fewer_out (length w.frames.held) (length w.caches) (leaving_lines v) (leaving_lines w) (least_free w.frames) (is_valid e) (is_leaving e) (lines_fewer w v servable table s) in
    omega arith

pub moved-leaves-room : MovedLeavesRoom
moved-leaves-room w v b at need e servable table within user s shares moved =
    let falls = moved-falls w v b at need e servable within user s shares moved in
    let less = falls.steps in
    steps-leave-room w v b at need 1 servable table (step-has-stepped w v b at need servable.stands.walk within user s shares) (omega arith)

-- what a whole turn needs
record AreFew (boards : ℕ) (lines : Option ℕ) : Type 0 where
  pub few : (n : ℕ) → lines ≡ Some n → n ≤ 128 * boards

lines_few : (w : View) (o : Option ℕ) → IsServable w → AreFew (length w.caches) (lines_by w o)
lines_few w None servable = record { few = λ (n : ℕ) (is : None ≡ Some n). cc }
lines_few w (Some frame) servable = record {
  few = λ (n : ℕ) (is : Some (page_line_count w.caches (page_of_frame w.frames frame)) ≡ Some n).
      subst (λ (m : ℕ). m ≤ 128 * length w.caches) (some_same (page_line_count w.caches (page_of_frame w.frames frame)) n is) (page-lines-are-few w (page_of_frame w.frames frame) servable);
}

freeing_few : (frames boards : ℕ) (lines free : Option ℕ) → AreFew boards lines → freeing_room frames boards lines free ≤ 5 * frames + 10 + 128 * boards
freeing_few frames boards lines (Some frame) f = omega arith
freeing_few frames boards (Some n) None f = let few : n ≤ 128 * boards = f.few n refl in let r : n + 5 ≤ 5 * frames + 10 + 128 * boards = omega arith in r
freeing_few frames boards None None f = omega arith

zero_few : (boards : ℕ) (lines : Option ℕ) → AreFew boards lines → lines_or_zero lines ≤ 128 * boards
zero_few boards None f = omega arith
zero_few boards (Some n) f = f.few n refl

few_by : (frames boards : ℕ) (lines free : Option ℕ) (v l r d : Bool) → AreFew boards lines → out_room_by frames boards lines free v l + 12 * faults_by_bits v l r d ≤ 5 * frames + 128 * boards + 48
few_by frames boards lines free false l r d f = let few : freeing_room frames boards lines free ≤ 5 * frames + 10 + 128 * boards = freeing_few frames boards lines free f in omega arith
few_by frames boards lines free true true r d f = let few : lines_or_zero lines ≤ 128 * boards = zero_few boards lines f in omega arith
few_by frames boards lines free true false r d f =
    let r_most : one_if_clear r ≤ 1 = one_most r in
    let d_most : one_if_clear d ≤ 1 = one_most d in
    omega arith

pub turn-room-is-bounded : TurnRoomIsBounded
turn-room-is-bounded w b at need servable =
    let e : ℕ = word_of (flat_in w) at in
    let most : out_room w b at + 12 * faults_left w b at ≤ 5 * length w.frames.held + 128 * length w.caches + 48 =
    few_by (length w.frames.held) (length w.caches) (leaving_lines w) (least_free w.frames) (is_valid e) (is_leaving e) (is_referenced e) (is_dirty e) (lines_few w w.frames.leaving servable) in
    let few : steps_left (get_or w.caches b []) at need ≤ 6 = (steps-few (get_or w.caches b []) at need).steps in
    omega arith

-- the rest of a turn needs little more than what may be appended so that a page leaves
freeing_within : (frames boards : ℕ) (lines free : Option ℕ) → freeing_room frames boards lines free ≤ leaving_room frames boards lines free
freeing_within frames boards lines (Some frame) = omega arith
freeing_within frames boards (Some n) None = same_most (n + 5)
  where
    same_most : (n : ℕ) → n ≤ n
    same_most n = omega arith
freeing_within frames boards None None = same_most (5 * (frames + 2) + 128 * boards)
  where
    same_most : (n : ℕ) → n ≤ n
    same_most n = omega arith

zero_within : (frames boards : ℕ) (lines free : Option ℕ) → lines_or_zero lines ≤ leaving_room frames boards lines free
zero_within frames boards None free = omega arith
zero_within frames boards (Some n) free = let r : n ≤ n + 5 = omega arith in r

within_by : (frames boards : ℕ) (lines free : Option ℕ) (v l r d : Bool) → out_room_by frames boards lines free v l + 12 * faults_by_bits v l r d ≤ leaving_room frames boards lines free + 48
within_by frames boards lines free false l r d = let few : freeing_room frames boards lines free ≤ leaving_room frames boards lines free = freeing_within frames boards lines free in omega arith
within_by frames boards lines free true true r d = let few : lines_or_zero lines ≤ leaving_room frames boards lines free = zero_within frames boards lines free in omega arith
within_by frames boards lines free true false r d =
    let r_most : one_if_clear r ≤ 1 = one_most r in
    let d_most : one_if_clear d ≤ 1 = one_most d in
    omega arith

leaving_few : (frames boards : ℕ) (lines free : Option ℕ) → AreFew boards lines → leaving_room frames boards lines free ≤ 5 * frames + 10 + 128 * boards
leaving_few frames boards (Some n) free f = let few : n ≤ 128 * boards = f.few n refl in let r : n + 5 ≤ 5 * frames + 10 + 128 * boards = omega arith in r
leaving_few frames boards None free f = freeing_few frames boards None free f

pub leaving-is-bounded : (w : View) → IsServable w → leaving_left w ≤ 5 * length w.frames.held + 10 + 128 * length w.caches
leaving-is-bounded w servable = leaving_few (length w.frames.held) (length w.caches) (leaving_lines w) (least_free w.frames) (lines_few w w.frames.leaving servable)

pub ahead-leaves-room : AheadLeavesRoom
ahead-leaves-room w u b at need servable falls enough =
    let e : ℕ = word_of (flat_in u) at in
    let most : out_room u b at + 12 * faults_left u b at ≤ leaving_left u + 48 =
    within_by (length u.frames.held) (length u.caches) (leaving_lines u) (least_free u.frames) (is_valid e) (is_leaving e) (is_referenced e) (is_dirty e) in
    let few : steps_left (get_or u.caches b []) at need ≤ 6 = (steps-few (get_or u.caches b []) at need).steps in
    let all : leaving_left w ≤ 5 * length w.frames.held + 10 + 128 * length w.caches = leaving-is-bounded w servable in
    let less : leaving_left u + w.room ≤ leaving_left w + u.room = falls in
    let spare : 5 * length w.frames.held + 128 * length w.caches + 65 ≤ w.room = enough in
    omega arith
