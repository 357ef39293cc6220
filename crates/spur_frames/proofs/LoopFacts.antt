-- A turn of the clock as a loop has it.
use Rattle.std.proofs.Common.{◌≡◌, ◌∙◌, ℕ, ◌+◌, List, [], ◌∷◌, ◌++◌, length, Some, refl, sym, ap, arith}
use Rattle.std.proofs.lemmas.List.{append-nil, append_assoc, length-append}
use Rattle.spur_frames.specs.Frames.{Frames, hand_past, looked_at, passed}
use Rattle.spur_frames.specs.Clock.{Turn, cleared_before, clock, page_of_frame, round, set_count}
use Rattle.spur_frames.specs.Laws.{TurnBegins, TurnEnds, TurnGoesOn}
use Rattle.spur_frames.proofs.ClockFacts.{clear-leaves, set-bits-fall, set-is-cleared-and-passed}

pub turn-begins : TurnBegins
turn-begins frames bits own = record { own = own; rest = refl; moved = refl; set = omega arith }

pub turn-goes-on : TurnGoesOn
turn-goes-on start first cleared frames bits later frame way is set clear =
    let page : ℕ = page_of_frame frames frame in
    let next : Turn = clock (passed frames) later in
    let hand : ℕ = hand_past frames (looked_at frames) in
    let before : length cleared + set_count bits (round frames) ≡ set_count first (round start) = way.set in
    let falls : set_count later (round (passed frames)) + 1 ≡ set_count bits (round frames) = set-bits-fall frames bits later frame way.own is set clear in
    let longer : length (cleared ++ page ∷ []) ≡ length cleared + 1 = length-append cleared (page ∷ []) in
    record {
      own = way.own;
      rest =
          way.rest
          ∙ ap (cleared_before cleared) (set-is-cleared-and-passed frames bits later frame way.own is set clear)
          ∙ sym (ap (λ (pages : List ℕ). record next { cleared = pages }) (append_assoc cleared (page ∷ []) next.cleared));
      moved = ap (λ (f : Frames). record f { hand = hand }) way.moved;
      set = omega arith;
    }

pub turn-ends : TurnEnds
turn-ends start first cleared frames bits frame way is clear =
    let page : ℕ = page_of_frame frames frame in
    let hand : ℕ = hand_past frames (looked_at frames) in
    let found : hand_past frames (looked_at frames) ≡ hand_past frames (Some frame) = ap (hand_past frames) is in
    let turn : clock start first ≡ record { cleared = cleared; leaves = Some (record { frame = frame; page = page }); hand = hand } =
    way.rest
    ∙ ap (cleared_before cleared) (clear-leaves frames bits frame is clear)
    ∙ ap (λ (pages : List ℕ). record { cleared = pages; leaves = Some (record { frame = frame; page = page }); hand = hand_past frames (Some frame) }) (append-nil cleared)
    ∙ sym (ap (λ (n : ℕ). record { cleared = cleared; leaves = Some (record { frame = frame; page = page }); hand = n }) found) in
    record {
      turn = turn;
      moved =
          ap (λ (f : Frames). record f { hand = hand }) way.moved
          ∙ sym (ap (λ (t : Turn). record start { hand = t.hand }) turn);
    }
