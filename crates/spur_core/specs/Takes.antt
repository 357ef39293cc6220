-- A board takes its access.
use Rattle.std.specs.Prelude.{ℕ, ◌≡◌, ◌≢◌, ◌+◌, ◌<◌, ◌≤◌, false, List, [], ◌∷◌, slice_get, Option, Some, None}
use Rattle.spur_cache.specs.declared.line.Line.{Line}
use Rattle.spur_flat.specs.declared.access.AccessKind.{AccessKind}
use Rattle.spur_flat.specs.declared.access.AccessKind.TheVariants as access
use Rattle.spur_flat.specs.declared.entry.Entry.{Entry}
use Rattle.spur_cpu.specs.Meaning.{Meaning}
use Rattle.spur_cpu.specs.After.{carry_entry}
use Rattle.spur_walk.specs.Stores.{with_word_in}
use Rattle.spur_pager.specs.View.{View}
use Rattle.spur_board.specs.declared.board.Board.{Board}
use Rattle.spur_board.specs.declared.ending.Ending.TheVariants as ending
use Rattle.spur_board.specs.Boards.{Asks, course_now}
use Rattle.spur_core.specs.Boards.{is_swapped, swap_count}
use Rattle.spur_core.specs.Comes.{Comes}
use Rattle.spur_core.specs.Programs.{EndsInSwap}
use Rattle.spur_core.specs.Step.{EndsWithAnswer}
use Rattle.spur_core.specs.Tally.{IsFrugal}

-- the caches after an access of board b that is done: a store writes its value, and a test-and-set writes 1
abbrev pub done_caches : AccessKind → List (List (Option Line)) → ℕ → ℕ → ℕ → List (List (Option Line))
done_caches access.Load caches b at value = caches
done_caches access.Store caches b at value = with_word_in caches b at value
done_caches access.Tas caches b at value = with_word_in caches b at 1

-- nothing of board i has changed but the lines of its cache
pub record OnlyItsLines {C : Type 0} (olds : List (Board C)) (i : ℕ) (new : Board C) : Type 0 where
  pub old : Board C
  pub there : slice_get olds i ≡ Some old
  pub is : new ≡ record old { cache = new.cache }

module _ {C S : Type 0} (m : Meaning S) (state : C → S) (spare : C → ℕ) where
  -- board b wants this access, and may take it
  pub record IsAsking (boards : List (Board C)) (b : ℕ) (kind : AccessKind) (at value : ℕ) : Type 0 where
    pub asks : (x : Board C) → slice_get boards b ≡ Some x → Asks m state spare b kind at value x

  -- the board after its access, of which this is the last entry
  pub record HasTaken (olds : List (Board C)) (b : ℕ) (e : Entry) (new : Board C) : Type 0 where
    pub old : Board C
    pub there : slice_get olds b ≡ Some old
    pub number : new.number ≡ old.number
    pub segs : new.segs ≡ old.segs
    pub budget : new.budget ≡ old.budget
    pub room : new.budget ≤ new.retired + spare new.cpu
    pub moved : new.ended ≡ None → new.retired ≡ old.retired + 1
    pub carried : carry_entry m old.segs old.budget (course_now m state old) e ≡ Some (course_now m state new)
    pub swapped : new.ended ≡ Some ending.SwapFault → EndsInSwap m state spare new (e ∷ [])

  -- what an access of board b comes to, wherever its entries are put: they end with its answer, unless the swap has ended
  -- the board
  pub record Acts (b at : ℕ) (kind : AccessKind) (w v : View) (olds news : List (Board C)) : Type 0 where
    pub entries : List Entry
    pub faults : List Entry
    pub last : Entry
    pub comes : Comes b at kind w v entries faults (last ∷ [])
    pub others : (i : ℕ) (x : Board C) → i ≢ b → slice_get news i ≡ Some x → OnlyItsLines olds i x
    pub mine : (x : Board C) → slice_get news b ≡ Some x → HasTaken olds b last x
    pub reaches : (x : Board C) → slice_get news b ≡ Some x → is_swapped x.ended ≡ false → EndsWithAnswer b entries
    pub swaps : swap_count news + w.faults ≤ swap_count olds + v.faults

  -- On the bus the entries go into the history, so that no log changes; they are frugal; and where the swap has ended
  -- the board, it has failed.
  pub record TakesAccess (b at : ℕ) (kind : AccessKind) (w v : View) (olds news : List (Board C)) : Type 0 where
    pub acts : Acts b at kind w v olds news
    pub log : (x y : Board C) → slice_get olds b ≡ Some x → slice_get news b ≡ Some y → y.log ≡ x.log
    pub frugal : IsFrugal acts.entries
    pub rose : (y : Board C) → slice_get news b ≡ Some y → y.ended ≡ Some ending.SwapFault → w.faults < v.faults
