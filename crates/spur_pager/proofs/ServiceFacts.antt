-- The acts of a course were done: that is all that is asked of serving a fault.
use Rattle.std.proofs.Common.{◌≡◌, ◌∙◌, ℕ, ◌+◌, ◌-◌, ◌*◌, ◌≤◌, ap, sym, refl, subst, List, ◌++◌, drop, length, Option, Some, None, arith}
use Rattle.std.specs.Prelude.{IfErr, OnOk, Result, Ok, Err}
use Rattle.std.specs.List.{AllByRecursion}
use Rattle.std.proofs.Math.Seq.{drop-append_seam}
use Rattle.std.proofs.lemmas.List.{length-set}
use Rattle.spur_addr.specs.Address.{entry_address_of, page_of, table_start, page_address}
use Rattle.spur_addr.specs.PageEntry.{number_of}
use Rattle.spur_flat.specs.declared.access.FaultKind.{FaultKind}
use Rattle.spur_flat.specs.declared.access.FaultKind.TheVariants as fault
use Rattle.spur_flat.specs.declared.entry.Entry.{Entry}
use Rattle.spur_flat.specs.declared.flat.Flat.{Flat}
use Rattle.spur_flat.specs.Pager.{word_of}
use Rattle.spur_frames.specs.Frames.{Frames, least_free}
use Rattle.spur_pager.specs.declared.fault.ServeFault.{ServeFault}
use Rattle.spur_pager.specs.declared.fault.ServeFault.TheVariants as serve
use Rattle.spur_flat.specs.Formed.{IsMade}
use Rattle.spur_pager.specs.View.{View}
use Rattle.spur_pager.specs.Stand.{AreCarried, Stands, entry_in, flat_in}
use Rattle.spur_pager.specs.Acts.{Act, IsDone}
use Rattle.spur_pager.specs.Service.{service_of, free_service, freeing, gained, leaving_service, until_leaving, outgoing_frame}
use Rattle.spur_pager.specs.Room.{room_for}
use Rattle.spur_pager.specs.Runs.{Runs}
use Rattle.spur_pager.specs.Served.{HasFailed, IsServed, Leaves, ServesAs, appended, hold_of}
use Rattle.spur_pager.proofs.EntryFacts.{page_again}
use Rattle.spur_flat.proofs.FormedFacts.{own_of_made}
use Rattle.spur_pager.proofs.PlaceFacts.{word_page}

-- what was appended is the piece
pub piece_is : (b : ℕ) (acts : List Act) (w v : View) (r : Runs b acts w v) → r.piece ≡ appended w v
piece_is b acts w v r = sym (ap (drop (length w.history)) r.history ∙ drop-append_seam w.history r.piece)

pub same_entry_address : (at : ℕ) → entry_address_of (page_address (page_of at)) ≡ entry_address_of at
same_entry_address at = ap (λ (n : ℕ). table_start + 4 * n) (page_again (page_of at))

-- the entry of the page of an address
pub entry_at : (w : View) (at : ℕ) → entry_in w (page_of at) ≡ word_of (flat_in w) at
entry_at w at = word_page (flat_in w) (page_address (page_of at)) at (page_again (page_of at))

-- the frame table has the same frames after each course
pub record HasSameFrames (before after : Frames) : Type 0 where
  pub first : after.first ≡ before.first
  pub count : length after.held ≡ length before.held

until_same : (b : ℕ) (w : View) (o : Option ℕ) → HasSameFrames w.frames (until_leaving b w o).frames
until_same b w None = record { first = refl; count = refl }
until_same b w (Some frame) = record { first = refl; count = refl }

freeing_same : (b : ℕ) (w : View) (o : Option ℕ) → HasSameFrames w.frames (freeing b w o).frames
freeing_same b w None =
    let before = until_same b w w.frames.leaving in
    record { first = before.first; count = length-set (leaving_service b w).frames.held (outgoing_frame w - (leaving_service b w).frames.first) None ∙ before.count }
freeing_same b w (Some frame) = record { first = refl; count = refl }

same_frames : (b : ℕ) (w : View) (kind : FaultKind) (at : ℕ) (answer : Result (Unit {0}) ServeFault) → HasSameFrames w.frames (service_of b w kind at answer).frames
same_frames b w fault.Reference at answer = record { first = refl; count = refl }
same_frames b w fault.Dirty at answer = record { first = refl; count = refl }
same_frames b w fault.Leaving at (Ok done) = record { first = refl; count = length-set w.frames.held (outgoing_frame w - w.frames.first) None }
same_frames b w fault.Leaving at (Err why) = record { first = refl; count = refl }
same_frames b w fault.Missing at (Ok done) =
    let before = freeing_same b w (least_free w.frames) in
    record { first = before.first; count = length-set (free_service b w).frames.held (gained b w - (free_service b w).frames.first) (Some (page_of at, number_of (entry_in w (page_of at)))) ∙ before.count }
same_frames b w fault.Missing at (Err serve.SwapRead) = freeing_same b w (least_free w.frames)
same_frames b w fault.Missing at (Err serve.SwapWrite) = until_same b w w.frames.leaving
same_frames b w fault.Align at answer = record { first = refl; count = refl }
same_frames b w fault.Unmapped at answer = record { first = refl; count = refl }
same_frames b w fault.Protection at answer = record { first = refl; count = refl }

few_used : (long x y n : ℕ) → y + long ≡ x → x ≤ y + n → long ≤ n
few_used long x y n is used = omega arith

-- acts that were done are all that is asked of a course
pub served_as : (b : ℕ) (w v : View) (kind : FaultKind) (at : ℕ) (answer : Result (Unit {0}) ServeFault) → Runs b (service_of b w kind at answer).acts w v → w.room ≤ v.room + room_for w kind
    → v.frames ≡ (service_of b w kind at answer).frames → Leaves b w kind at answer v → ServesAs b w kind at answer v
served_as b w v kind at answer r used frames leaves =
    let acts : List Act = (service_of b w kind at answer).acts in
    let is : r.piece ≡ appended w v = piece_is b acts w v r in
    let room : v.room + length (appended w v) ≡ w.room = ap (λ (es : List Entry). v.room + length es) (sym is) ∙ r.room in
    let same = same_frames b w kind at answer in
    let made = subst (AllByRecursion (IsMade b (length w.caches))) is r.made in
    record {
      does = record {
        history = r.history ∙ ap (λ (es : List Entry). w.history ++ es) is;
        room = room;
        used = few_used (length (appended w v)) w.room v.room (room_for w kind) room used;
        made = made;
        own = own_of_made b (length w.caches) (appended w v) made;
        done = subst (λ (es : List Entry). IsDone b acts (hold_of w) es (hold_of v)) is r.done;
        frames = frames;
        first = ap (λ (fs : Frames). fs.first) frames ∙ same.first;
        count = ap (λ (fs : Frames). length fs.held) frames ∙ same.count;
      };
      carried = λ (rest : Flat) (st : Stands rest w). let c = r.carries rest st in record { carried = subst (AreCarried rest w v) is c.carried; stands = c.stands };
      leaves = leaves;
      keeps = r.keeps;
    }

-- what an answer leaves, where it is Ok and where it is a fault of the swap
pub leaves_ok : (b : ℕ) (w v : View) (kind : FaultKind) (at : ℕ) (answer : Result (Unit {0}) ServeFault) → Leaves b w kind at answer v → OnOk answer (IsServed b w kind at v)
leaves_ok b w v kind at (Ok done) leaves = leaves
leaves_ok b w v kind at (Err why) leaves = tt

pub leaves_err : (b : ℕ) (w v : View) (kind : FaultKind) (at : ℕ) (answer : Result (Unit {0}) ServeFault) → Leaves b w kind at answer v → IfErr answer (λ why. HasFailed b w kind at v why)
leaves_err b w v kind at (Ok done) leaves = tt
leaves_err b w v kind at (Err why) leaves = leaves
