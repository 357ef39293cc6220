-- Boards follow their programs.
use Rattle.std.specs.Prelude.{ℕ, ◌≡◌, ◌⊎◌, ◌+◌, ◌≤◌, List, [], ◌∷◌, ◌++◌, slice_get, Some}
use Rattle.spur_addr.specs.Address.{global_of}
use Rattle.spur_flat.specs.declared.access.AccessKind.{AccessKind}
use Rattle.spur_flat.specs.declared.access.FaultKind.{FaultKind}
use Rattle.spur_flat.specs.declared.access.FaultKind.TheVariants as fault
use Rattle.spur_flat.specs.declared.entry.Entry.{Entry}
use Rattle.spur_flat.specs.declared.entry.Entry.TheVariants as entry
use Rattle.spur_flat.specs.History.{own_entries}
use Rattle.spur_cpu.specs.declared.cpu.Want.TheVariants.{Access}
use Rattle.spur_cpu.specs.Meaning.{Meaning}
use Rattle.spur_cpu.specs.After.{IsLed, begun}
use Rattle.spur_board.specs.declared.board.Board.{Board}
use Rattle.spur_board.specs.declared.ending.Ending.TheVariants as ending
use Rattle.spur_board.specs.Boards.{course_now}
use Rattle.spur_core.specs.Start.{Start}

module _ {C S : Type 0} (m : Meaning S) (state : C → S) (spare : C → ℕ) where
  -- the last of a board's own entries is a fault of the access that stands, for which the swap was asked
  pub record EndsInSwap (b : Board C) (own : List Entry) : Type 0 where
    pub before : List Entry
    pub kind : FaultKind
    pub access : AccessKind
    pub va : ℕ
    pub value : ℕ
    pub last : own ≡ before ++ entry.Fault b.number kind access (global_of b.segs va) ∷ []
    pub asked : (kind ≡ fault.Missing) ⊎ (kind ≡ fault.Leaving)
    pub wants : m.wants (state b.cpu) ≡ Access access va value

  -- Board i follows its program: it has the opening's registers and budget, room for what it may still show, and is
  -- where its own entries have led it from its first state. One that the swap ended still stands at its access.
  pub record FollowsProgram (start : Start S) (history : List Entry) (i : ℕ) (b : Board C) : Type 0 where
    pub number : b.number ≡ i
    pub segs : slice_get start.segs i ≡ Some b.segs
    pub budget : b.budget ≡ start.options.budget
    pub room : b.budget ≤ b.retired + spare b.cpu
    pub led : (first : S) → slice_get start.firsts i ≡ Some first
        → IsLed m b.segs b.budget (begun first) (own_entries history i) (course_now m state b)
    pub swapped : b.ended ≡ Some ending.SwapFault → EndsInSwap b (own_entries history i)

  pub record FollowPrograms (start : Start S) (history : List Entry) (boards : List (Board C)) : Type 0 where
    pub each : (i : ℕ) (b : Board C) → slice_get boards i ≡ Some b → FollowsProgram start history i b
