-- A turn of a board on the bus.
use Rattle.std.specs.Prelude.{ℕ, ◌≡◌, ◌≢◌, ◌⊎◌, ◌+◌, ◌<◌, ◌≤◌, IsSome, Bool, false, List, ◌++◌, drop, length, map, slice_get, Some, None}
use Rattle.std.specs.List.{AllByRecursion}
use Rattle.spur_cache.specs.Lens.{OnlyLines}
use Rattle.spur_snoop.specs.declared.Need.{Need}
use Rattle.spur_flat.specs.declared.access.AccessKind.{AccessKind}
use Rattle.spur_flat.specs.declared.entry.Entry.{Entry}
use Rattle.spur_flat.specs.History.{own_entries}
use Rattle.spur_cpu.specs.Meaning.{Meaning, WantsAccess}
use Rattle.spur_swap.specs.Meaning.{Swap}
use Rattle.spur_pager.specs.Ahead.{DoesAhead, entries_ahead, goes_ahead, leaving_entries}
use Rattle.spur_pager.specs.Reserve.{turn_room}
use Rattle.spur_pager.specs.Served.{IsCarriedOn, Keeps}
use Rattle.spur_board.specs.declared.board.Board.{Board}
use Rattle.spur_board.specs.declared.ending.Ending.TheVariants as ending
use Rattle.spur_core.specs.declared.world.World.{World}
use Rattle.spur_core.specs.Boards.{board_lens, emptied, view_in, whole}
use Rattle.spur_core.specs.Comes.{IsOfTurn}
use Rattle.spur_core.specs.Programs.{EndsInSwap}
use Rattle.spur_core.specs.Quiet.{before_fault}
use Rattle.spur_core.specs.Takes.{IsAsking, OnlyItsLines, TakesAccess}
use Rattle.spur_core.specs.World.{IsMerged}

-- what a turn appended behind the logs
abbrev pub behind_logs : {C B : Type 0} → World C B → World C B → List Entry
behind_logs old new = drop (length (whole old.store old.boards.items)) new.store.history.entries

-- the history has grown by the logs in board order, and then by well-formed entries of board b alone
pub record GrowsByTurn {C B : Type 0} (b : ℕ) (old new : World C B) : Type 0 where
  pub history : new.store.history.entries ≡ whole old.store old.boards.items ++ behind_logs old new
  pub turns : AllByRecursion (IsOfTurn b (length old.boards.items)) (behind_logs old new)

-- of no board but b anything has changed but its lines; its log is emptied
pub record OthersStay {C : Type 0} (b : ℕ) (olds news : List (Board C)) : Type 0 where
  pub each : (i : ℕ) (x : Board C) → i ≢ b → slice_get news i ≡ Some x → OnlyItsLines (map emptied olds) i x

-- A step ahead of board b was done. Nothing of any board has changed but its lines, and where nothing goes ahead, all is as
-- it was.
pub record StepsAhead {C B : Type 0} (meaning : B → Swap) (b : ℕ) (old new : World C B) : Type 0 where
  pub does : DoesAhead b (view_in meaning old.store old.boards.items) (view_in meaning new.store new.boards.items)
  pub carried : IsCarriedOn (view_in meaning old.store old.boards.items) (view_in meaning new.store new.boards.items)
  pub keeps : Keeps (view_in meaning old.store old.boards.items) (view_in meaning new.store new.boards.items)
  pub lens : OnlyLines board_lens old.boards.items new.boards.items
  pub later : (meaning old.store.backing).faults ≤ (meaning new.store.backing).faults
  pub still : goes_ahead old.store.ahead old.store.frames ≡ false → new ≡ old

-- the logs were merged, and a step ahead was done; nothing else has happened
pub record MergesAhead {C B : Type 0} (meaning : B → Swap) (b : ℕ) (old new : World C B) : Type 0 where
  pub mid : World C B
  pub merged : IsMerged old mid
  pub ahead : StepsAhead meaning b mid new

-- Of these entries of a turn, those by which a page leaves and that stand before the turn's first fault are exactly those of
-- a step ahead: with the page's last one, unless the swap object's count of faults rose in the turn.
pub record TurnsAhead {C B : Type 0} (meaning : B → Swap) (b : ℕ) (old new : World C B) (entries : List Entry) : Type 0 where
  pub written : Bool
  pub rose : written ≡ false → (meaning old.store.backing).faults < (meaning new.store.backing).faults
  pub is : leaving_entries (before_fault entries) ≡ entries_ahead b (view_in meaning old.store old.boards.items) written

-- the history has room for the rest of a turn of board b, whatever its access is
abbrev pub HasTurnRoom : {C B : Type 0} → (B → Swap) → ℕ → World C B → Type 0
HasTurnRoom meaning b w = (at : ℕ) (need : Need)
    → turn_room (view_in meaning w.store w.boards.items) b at need ≤ w.store.history.room

module _ {C S : Type 0} (m : Meaning S) (state : C → S) where
  -- a board that has ended, or wants no access; and one that has not ended and wants one
  abbrev pub IsIdle : Board C → Type 0
  IsIdle x = IsSome x.ended ⊎ (WantsAccess (m.wants (state x.cpu)) → ⊥)

  pub record IsWanting (x : Board C) : Type 0 where
    pub going : x.ended ≡ None
    pub wants : WantsAccess (m.wants (state x.cpu))

  -- the same of board b
  pub record IsIdleAt (boards : List (Board C)) (b : ℕ) : Type 0 where
    pub idle : (x : Board C) → slice_get boards b ≡ Some x → IsIdle x

  pub record IsWantingAt (boards : List (Board C)) (b : ℕ) : Type 0 where
    pub board : Board C
    pub there : slice_get boards b ≡ Some board
    pub wanting : IsWanting board

  -- a board that wanted an access has completed exactly one instruction, or has ended
  pub record GoesOnOrEnds (b : ℕ) (olds news : List (Board C)) : Type 0 where
    pub moved : (x y : Board C) → slice_get olds b ≡ Some x → slice_get news b ≡ Some y → IsWanting x
        → y.ended ≡ None → y.retired ≡ x.retired + 1

  module _ (spare : C → ℕ) where
    -- where the swap has ended the board in this turn, it has failed in this turn, and the board's last entry is the
    -- fault for which it was asked
    pub record SwapFailed {B : Type 0} (meaning : B → Swap) (b : ℕ) (old new : World C B) (y : Board C) : Type 0 where
      pub rose : (meaning old.store.backing).faults < (meaning new.store.backing).faults
      pub last : EndsInSwap m state spare y (own_entries (behind_logs old new) b)

    pub record SwapEndsByFailing {B : Type 0} (meaning : B → Swap) (b : ℕ) (old new : World C B) : Type 0 where
      pub cause : (x y : Board C) → slice_get old.boards.items b ≡ Some x → slice_get new.boards.items b ≡ Some y
          → x.ended ≡ None → y.ended ≡ Some ending.SwapFault → SwapFailed meaning b old new y

    -- a turn where all logs are empty: nothing happens to an idle board, and another one takes its access
    pub data HasActed {B : Type 0} (meaning : B → Swap) (b : ℕ) (old new : World C B) : Type 0 where
      Idles : IsIdleAt old.boards.items b → new ≡ old → HasActed meaning b old new
      TakesIt : (at value : ℕ) (kind : AccessKind) → IsAsking m state spare old.boards.items b kind at value
          → TakesAccess m state spare b at kind (view_in meaning old.store old.boards.items)
          (view_in meaning new.store new.boards.items) old.boards.items new.boards.items
          → HasActed meaning b old new
