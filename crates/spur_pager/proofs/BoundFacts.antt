-- How many lines of a page there may be, and how much room serving a fault may need.
use Rattle.std.proofs.Common.{◌≡◌, ℕ, zero, suc, ◌+◌, ◌*◌, ◌/◌, ◌%◌, ◌<◌, ◌≤◌, ⊎_elim, Bool, true, false, if◌then◌else◌, ap, refl, List, [], ◌∷◌, length, slice_get, Option, Some, None, arith}
use Rattle.std.proofs.lemmas.Bool.{cases_lt, eqb-true}
use Rattle.spur_cache.specs.declared.line.Line.{Line}
use Rattle.spur_cache.specs.Lines.{IsCache, is_of_page, line_at}
use Rattle.spur_cache.proofs.SpanFacts.{wide_span}
use Rattle.spur_flat.specs.declared.access.FaultKind.TheVariants as fault
use Rattle.spur_frames.specs.Clock.{page_of_frame}
use Rattle.spur_frames.specs.Frames.{least_free}
use Rattle.spur_frames.proofs.ClockFacts.{cleared-are-few}
use Rattle.spur_pager.specs.Acts.{flushes_from, flushes_in}
use Rattle.spur_pager.specs.Service.{bits_in, turn_of, outgoing_frame}
use Rattle.spur_pager.specs.Laws.{PageLinesAreFew, RoomIsBounded}
use Rattle.spur_pager.specs.Room.{clock_room, finish_room, free_room, page_line_count}
use Rattle.spur_pager.specs.Stand.{IsServable}
use Rattle.spur_pager.specs.View.{View}
use Rattle.spur_pager.proofs.LineFacts.{counts, from_more, one_more}

if_small : (b : Bool) → (if b then 1 else 0) ≤ 1
if_small true = omega arith
if_small false = omega arith

counts_one : (page : ℕ) (o : Option Line) → counts page o ≤ 1
counts_one page None = omega arith
counts_one page (Some line) = if_small (is_of_page page line)

counts_none : (page : ℕ) (o : Option Line) → ((line : Line) → o ≡ Some line → line.tag / 128 ≡ page → ⊥) → counts page o ≡ 0
counts_none page None out = refl
counts_none page (Some line) out = choose (is_of_page page line) refl
  where
    choose : (b : Bool) → is_of_page page line ≡ b → counts page (Some line) ≡ 0
    choose true is = absurd (out line refl (eqb-true (line.tag / 128) page is))
    choose false is = ap (λ (x : Bool). if x then 1 else 0) is

-- not more than places
in_all : (b i page : ℕ) (lines : List (Option Line)) → length (flushes_in b i page lines) ≤ length lines
in_all b i page [] = omega arith
in_all b i page (o ∷ rest) =
    let one : length (flushes_in b i page (o ∷ rest)) ≡ counts page o + length (flushes_in b i page rest) = one_more b i page o rest in
    let here : counts page o ≤ 1 = counts_one page o in
    let more : length (flushes_in b i page rest) ≤ length rest = in_all b i page rest in
    let r : length (flushes_in b i page (o ∷ rest)) ≤ suc (length rest) = omega arith in r

-- and not more than places between which all of them stand
abbrev AreWithin : ℕ → ℕ → ℕ → List (Option Line) → Type 0
AreWithin page start m lines = (s : ℕ) (line : Line) → line_at lines s ≡ Some line → line.tag / 128 ≡ page → (start ≤ s) × (s < start + m)

in_span : (b i page start m : ℕ) (lines : List (Option Line)) → AreWithin page start m lines → length (flushes_in b i page lines) ≤ m
in_span b i page start m [] within = omega arith
in_span b i page zero zero (o ∷ rest) within =
    let one : length (flushes_in b i page (o ∷ rest)) ≡ counts page o + length (flushes_in b i page rest) = one_more b i page o rest in
    let here : counts page o ≡ 0 = counts_none page o (λ (line : Line) (is : o ≡ Some line) (of_page : line.tag / 128 ≡ page). let w : 0 < 0 + 0 = (within 0 line is of_page).1 in omega arith) in
    let more : length (flushes_in b i page rest) ≤ 0 = in_span b i page 0 0 rest (λ (s : ℕ) (line : Line) (is : line_at rest s ≡ Some line) (of_page : line.tag / 128 ≡ page).
    let w : suc s < 0 + 0 = (within (suc s) line is of_page).1 in (omega arith, omega arith)) in
    let r : length (flushes_in b i page (o ∷ rest)) ≤ 0 = omega arith in r
in_span b i page zero (suc m) (o ∷ rest) within =
    let one : length (flushes_in b i page (o ∷ rest)) ≡ counts page o + length (flushes_in b i page rest) = one_more b i page o rest in
    let here : counts page o ≤ 1 = counts_one page o in
    let more : length (flushes_in b i page rest) ≤ m = in_span b i page 0 m rest (λ (s : ℕ) (line : Line) (is : line_at rest s ≡ Some line) (of_page : line.tag / 128 ≡ page).
    let w : suc s < 0 + suc m = (within (suc s) line is of_page).1 in (omega arith, omega arith)) in
    let r : length (flushes_in b i page (o ∷ rest)) ≤ suc m = omega arith in r
in_span b i page (suc start) m (o ∷ rest) within =
    let one : length (flushes_in b i page (o ∷ rest)) ≡ counts page o + length (flushes_in b i page rest) = one_more b i page o rest in
    let here : counts page o ≡ 0 = counts_none page o (λ (line : Line) (is : o ≡ Some line) (of_page : line.tag / 128 ≡ page). let w : suc start ≤ 0 = (within 0 line is of_page).0 in omega arith) in
    let more : length (flushes_in b i page rest) ≤ m = in_span b i page start m rest (λ (s : ℕ) (line : Line) (is : line_at rest s ≡ Some line) (of_page : line.tag / 128 ≡ page).
    let low : suc start ≤ suc s = (within (suc s) line is of_page).0 in
    let high : suc s < suc start + m = (within (suc s) line is of_page).1 in
    (omega arith, omega arith)) in
    let r : length (flushes_in b i page (o ∷ rest)) ≤ m = omega arith in r

-- a cache has at most 128 lines of a page
in_cache : (b i page : ℕ) (lines : List (Option Line)) → IsCache lines → length (flushes_in b i page lines) ≤ 128
in_cache b i page lines cache =
    ⊎_elim
    (λ (more : 128 < length lines). in_span b i page (page * 128 % length lines) 128 lines (wide_span lines page (page * 128 % length lines) cache more refl).inside)
    (λ (few : length lines ≤ 128). let all : length (flushes_in b i page lines) ≤ length lines = in_all b i page lines in let r : length (flushes_in b i page lines) ≤ 128 = omega arith in r)
    (cases_lt 128 (length lines))

in_caches : (b k page : ℕ) (caches : List (List (Option Line))) → ((i : ℕ) (lines : List (Option Line)) → slice_get caches i ≡ Some lines → IsCache lines)
    → length (flushes_from b k page caches) ≤ 128 * length caches
in_caches b k page [] each = omega arith
in_caches b k page (lines ∷ rest) each =
    let one : length (flushes_from b k page (lines ∷ rest)) ≡ length (flushes_in b k page lines) + length (flushes_from b (k + 1) page rest) = from_more b k page lines rest in
    let here : length (flushes_in b k page lines) ≤ 128 = in_cache b k page lines (each 0 lines refl) in
    let more : length (flushes_from b (k + 1) page rest) ≤ 128 * length rest = in_caches b (k + 1) page rest (λ (i : ℕ) (ls : List (Option Line)) (is : slice_get rest i ≡ Some ls). each (suc i) ls is) in
    let r : length (flushes_from b k page (lines ∷ rest)) ≤ 128 * suc (length rest) = omega arith in r

pub page-lines-are-few : PageLinesAreFew
page-lines-are-few w page servable = in_caches 0 0 page w.caches servable.stands.walk.agree.each

finish_bound : (w : View) → IsServable w → finish_room w ≤ 128 * length w.caches + 5
finish_bound w servable =
    let few : page_line_count w.caches (page_of_frame w.frames (outgoing_frame w)) ≤ 128 * length w.caches = page-lines-are-few w (page_of_frame w.frames (outgoing_frame w)) servable in
    let r : page_line_count w.caches (page_of_frame w.frames (outgoing_frame w)) + 5 ≤ 128 * length w.caches + 5 = omega arith in r

clock_bound : (w : View) (o : Option ℕ) → clock_room w o ≤ 5 * (length w.frames.held + 1)
clock_bound w (Some frame) = omega arith
clock_bound w None =
    let few : length (turn_of w).cleared ≤ length w.frames.held = cleared-are-few w.frames (bits_in w) in
    let r : 5 * (length (turn_of w).cleared + 1) ≤ 5 * (length w.frames.held + 1) = omega arith in r

free_bound : (w : View) (o : Option ℕ) → IsServable w → free_room w o ≤ 5 * (length w.frames.held + 2) + 128 * length w.caches
free_bound w (Some frame) servable = omega arith
free_bound w None servable =
    let turn : clock_room w w.frames.leaving ≤ 5 * (length w.frames.held + 1) = clock_bound w w.frames.leaving in
    let rest : finish_room w ≤ 128 * length w.caches + 5 = finish_bound w servable in
    let r : clock_room w w.frames.leaving + finish_room w ≤ 5 * (length w.frames.held + 2) + 128 * length w.caches = omega arith in r

pub room-is-bounded : RoomIsBounded
room-is-bounded w fault.Reference servable = omega arith
room-is-bounded w fault.Dirty servable = omega arith
room-is-bounded w fault.Leaving servable =
    let rest : finish_room w ≤ 128 * length w.caches + 5 = finish_bound w servable in
    let r : finish_room w ≤ 5 * (length w.frames.held + 3) + 128 * length w.caches = omega arith in r
room-is-bounded w fault.Missing servable =
    let free : free_room w (least_free w.frames) ≤ 5 * (length w.frames.held + 2) + 128 * length w.caches = free_bound w (least_free w.frames) servable in
    let r : free_room w (least_free w.frames) + 5 ≤ 5 * (length w.frames.held + 3) + 128 * length w.caches = omega arith in r
room-is-bounded w fault.Align servable = omega arith
room-is-bounded w fault.Unmapped servable = omega arith
room-is-bounded w fault.Protection servable = omega arith
