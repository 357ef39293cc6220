-- Boards are run to their ends, one after another.
use Rattle.std.proofs.Common.{◌≡◌, ◌≢◌, ◌∙◌, ℕ, ◌+◌, ◌-◌, ◌<◌, ap, refl, sym, subst, List, length, map, get_or, Option, Some, None, arith, ⊎_elim}
use Rattle.std.specs.Prelude.{IsSome, slice_get}
use Rattle.std.specs.List.{All}
use Rattle.std.proofs.lemmas.Bool.{cases_eq}
use Rattle.std.proofs.lemmas.Option.{slice_get-get_or, get_or_from_slice_get, slice_get_within}
use Rattle.spur_board.specs.declared.board.Board.{Board}
use Rattle.spur_board.specs.declared.ending.Ending.{Ending}
use Rattle.spur_core.specs.Boards.{emptied}
use Rattle.spur_core.proofs.AskFacts.{some_at}
use Rattle.spur_core.proofs.SameFacts.{got_map}
use Rattle.spur_threads.specs.Turns.{HasEndedAt, IsGoingAt, MovesOn, OthersRest}
use Rattle.spur_threads.proofs.TurnFacts.{as_in_then}

-- how many turns a board may still take, where so many instructions are more than it can complete: none where it has
-- ended
abbrev pub left_if : ℕ → Option Ending → ℕ → ℕ
left_if most None n = most - n
left_if most (Some e) n = 0

abbrev pub left_of : {C : Type 0} → ℕ → Option (Board C) → ℕ
left_of most None = 0
left_of most (Some x) = left_if most x.ended x.retired

abbrev pub left_at : {C : Type 0} → ℕ → List (Board C) → ℕ → ℕ
left_at most boards b = left_of most (slice_get boards b)

pub left_less : {C : Type 0} (most b n : ℕ) (olds news : List (Board C)) → n < most → IsGoingAt olds b n → MovesOn b olds news → left_at most news b < left_at most olds b
left_less {C} most b n olds news few at moves = by_now (slice_get news b) refl
  where
    was : left_at most olds b ≡ most - n
    was = ap (left_of most) at.there ∙ ap (λ (e : Option Ending). left_if most e at.board.retired) at.going ∙ ap (λ (k : ℕ). most - k) at.completed

    by_end : (y : Board C) (e : Option Ending) → slice_get news b ≡ Some y → y.ended ≡ e → left_if most e y.retired < left_at most olds b
    by_end y None here left =
        let more : at.board.retired < y.retired = moves.moved at.board y at.there here at.going left in
        let same : at.board.retired ≡ n = at.completed in
        let old : left_at most olds b ≡ most - n = was in
        let r : most - y.retired < most - n = omega arith in
        subst (λ (k : ℕ). most - y.retired < k) (sym old) r
    by_end y (Some e) here left =
        let old : left_at most olds b ≡ most - n = was in
        let r : 0 < most - n = omega arith in
        subst (λ (k : ℕ). 0 < k) (sym old) r

    by_now : (o : Option (Board C)) → slice_get news b ≡ o → left_of most o < left_at most olds b
    by_now None here =
        let old : left_at most olds b ≡ most - n = was in
        let r : 0 < most - n = omega arith in
        subst (λ (k : ℕ). 0 < k) (sym old) r
    by_now (Some y) here = by_end y y.ended here refl

-- the other boards rest over turns of one board
pub others_then : {C : Type 0} (b : ℕ) (olds mids news : List (Board C)) → length mids ≡ length olds → OthersRest b olds mids → OthersRest b mids news → OthersRest b olds news
others_then b olds mids news count first second = record {
  each = λ i x y apart at here.
      let within : i < length olds = slice_get_within olds i x at in
      let mid = some_at mids i (omega arith) in
      as_in_then x mid.x y (first.each i x mid.x apart at mid.there) (second.each i mid.x y apart mid.there here);
}

-- the boards below this number have ended
pub record HaveEndedBelow {C : Type 0} (boards : List (Board C)) (to : ℕ) : Type 0 where
  pub each : (i : ℕ) (x : Board C) → i < to → slice_get boards i ≡ Some x → IsSome x.ended

pub ended_next : {C : Type 0} (b : ℕ) (olds news : List (Board C)) → length news ≡ length olds → HaveEndedBelow olds b → OthersRest b olds news → HasEndedAt news b → HaveEndedBelow news (b + 1)
ended_next {C} b olds news count was others now = record {
  each = λ i y low here. ⊎_elim
      (λ (e : i ≡ b). now.ended y (subst (λ (k : ℕ). slice_get news k ≡ Some y) e here))
      (λ (apart : i ≢ b).
      let within : i < length news = slice_get_within news i y here in
      let old = some_at olds i (omega arith) in
      subst IsSome (sym (others.each i old.x y apart old.there here).ended) (was.each i old.x (omega arith) old.there))
      (cases_eq i b);
}

-- a merge leaves all endings
pub ended_emptied : {C : Type 0} (olds news : List (Board C)) → news ≡ map emptied olds → All (λ (b : Board C). IsSome b.ended) olds → All (λ (b : Board C). IsSome b.ended) news
ended_emptied {C} olds news is all k d low =
    let y : Board C = get_or news k d in
    let there : slice_get (map emptied olds) k ≡ Some y = ap (λ (bs : List (Board C)). slice_get bs k) (sym is) ∙ slice_get-get_or news k d low in
    let r = got_map emptied olds k y there in
    let old : IsSome r.old.ended = subst (λ (z : Board C). IsSome z.ended) (get_or_from_slice_get olds k r.old r.old r.there) (all k r.old (slice_get_within olds k r.old r.there)) in
    subst (λ (z : Board C). IsSome z.ended) r.is old
