-- No board of a good world is torn.
use Rattle.std.proofs.Common.{◌≡◌, ℕ, zero, suc, ◌<◌, ap, sym, subst, List, [], ◌∷◌, length, Some, arith}
use Rattle.std.specs.Prelude.{slice_get}
use Rattle.std.proofs.lemmas.Option.{slice_get_within}
use Rattle.spur_cache.specs.Lens.{caches}
use Rattle.spur_flat.specs.History.{own_entries}
use Rattle.spur_cpu.specs.Meaning.{Meaning}
use Rattle.spur_cpu.proofs.Going.{going-on}
use Rattle.spur_swap.specs.Meaning.{Swap}
use Rattle.spur_board.specs.declared.board.Board.{Board}
use Rattle.spur_board.specs.Boards.{course_ending, course_now}
use Rattle.spur_board.proofs.BudgetFacts.{completes-within-budget}
use Rattle.spur_board.proofs.StepFacts.{standing-is-a-step}
use Rattle.spur_core.specs.Boards.{board_lens, whole}
use Rattle.spur_core.specs.Own.{GoodBoardsAreSound, GoodRests}
use Rattle.spur_core.proofs.AskFacts.{some_at}

caches_there : {C : Type 0} (bs : List (Board C)) (b : ℕ) (x : Board C) → slice_get bs b ≡ Some x → slice_get (caches board_lens bs) b ≡ Some x.cache
caches_there [] b x e = absurd cc
caches_there {C} (y ∷ ys) zero x e = let same : y ≡ x = cc in ap (λ (z : Board C). Some z.cache) same
caches_there (y ∷ ys) (suc b) x e = caches_there ys b x e

module _ {C S : Type 0} (m : Meaning S) (state : C → S) (spare : C → ℕ) {B : Type 0} (meaning : B → Swap) where
  pub good-boards-are-sound : GoodBoardsAreSound m state spare meaning
  good-boards-are-sound start store boards i x good there =
      let it = good.programs.each i x there in
      let log = good.logs.each i x there in
      let within : i < length boards = slice_get_within boards i x there in
      let count = good.begins.firsts in
      let first = some_at start.firsts i (omega arith) in
      let some_budget : 0 < x.budget = subst (λ (n : ℕ). 0 < n) (sym it.budget) good.begins.budget in
      let led = it.led first.x first.there in
      let own = own_entries (whole store boards) i in
      let way = going-on m good.begins.lawful x.segs x.budget first.x (course_now m state x) own x.retired some_budget (good.begins.wants i first.x first.there) led in
      record {
        few = log.few;
        log_room = log.room;
        room = it.room;
        lines = good.stands.walk.agree.each i x.cache (caches_there boards i x there);
        most = completes-within-budget m x.segs x.budget first.x (course_now m state x) own x.retired some_budget led;
        left = λ none. way.left (ap course_ending none);
        running = λ none. way.wants (ap course_ending none);
      }

  pub good-rests : GoodRests m state spare meaning
  good-rests start store boards i x good there =
      standing-is-a-step m state spare i x (good.programs.each i x there).number (good-boards-are-sound start store boards i x good there)
