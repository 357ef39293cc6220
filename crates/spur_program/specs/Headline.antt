-- The headline of a run, over any kind of processor and its beginning: the opening's flat state, registers and options,
-- the first state of each board's processor, and how many faults the swap had counted.
--
-- Whatever order the boards' steps take, the run gives one history: each board's loads, stores and test-and-sets stand
-- in it once and in program order, each answered or faulted as one machine over flat memory and its page table then
-- may; its bus entries obey the ownership rules; and the registers, the final memory and the swap are that history's.
--
-- And paging is invisible: what is left of the history without bus, pager and faults that are served is one of a machine
-- with plain memory.
use Rattle.std.specs.Prelude.{◌≡◌, ◌⊎◌, ◌+◌, ◌≤◌, ℕ, true, ◌∷◌, [], ◌++◌, IfNone, List, length, take, Option, Some, None, slice_get, filter}
use Rattle.std.specs.List.{AllByRecursion}
use Rattle.spur_addr.specs.Address.{global_of}
use Rattle.spur_flat.specs.declared.flat.Flat.{Flat}
use Rattle.spur_flat.specs.declared.access.AccessKind.{AccessKind}
use Rattle.spur_flat.specs.declared.access.FaultKind.{FaultKind}
use Rattle.spur_flat.specs.declared.access.FaultKind.TheVariants as fault
use Rattle.spur_flat.specs.declared.entry.Entry.{Entry}
use Rattle.spur_flat.specs.declared.entry.Entry.TheVariants as entry
use Rattle.spur_flat.specs.Formed.{IsFormed}
use Rattle.spur_flat.specs.History.{flat_after, own_entries}
use Rattle.spur_flat.specs.State.{IsNeeded, IsTagged, State}
use Rattle.spur_flat.specs.StateLaws.{IsEach}
use Rattle.spur_flat.specs.Table.{table_words}
use Rattle.spur_flat.specs.Untold.{IsLegalButValues}
use Rattle.spur_cpu.specs.declared.cpu.Want.TheVariants.{Access}
use Rattle.spur_cpu.specs.Meaning.{Meaning}
use Rattle.spur_cpu.specs.After.{IsLed, begun}
use Rattle.spur_plain.specs.Invisible.{IsInvisible, IsInvisibleButValues}
use Rattle.spur_plain.specs.PlainMemory.{PlainMemory}
use Rattle.spur_plain.specs.Runs.{IsPlainBoard}
use Rattle.spur_plain.specs.Virtual.{virtual}
use Rattle.spur_core.specs.Start.{Start, opened_state}
use Rattle.spur_core.specs.Step.{Runner, is_out}

-- what came of a run: the history, how each board came out, the words of memory at the end, the pages of the swap at
-- the end where it tells them, how many faults the swap has counted then, and, where a probe stopped the run, the
-- number of the entry at which it did
pub record Run (S : Type 0) : Type 0 where
  pub history : List Entry
  pub boards : List (Runner S)
  pub memory : List ℕ
  pub swap : Option (List ℕ)
  pub faults : ℕ
  pub stop : Option ℕ

-- ---- one machine

-- Each entry of the history is allowed in the flat state after those before it: an access is answered or faulted as one
-- machine over flat memory and its page table then may. It obeys the ownership rules, and no bus entry is idle. The
-- final memory and the swap are those of the flat state after it.
pub record IsOneMachine (from : State) (history : List Entry) (memory swap : List ℕ) : Type 0 where
  pub entries : IsEach from history
  pub final_memory : memory ≡ (flat_after from.flat history).words
  pub final_swap : swap ≡ (flat_after from.flat history).swap

-- The same where the swap does not tell its pages: all but the values that were read, the data words of memory, and the
-- swap. Of the final memory it is said how many words it has, and that the root and the page table are the history's.
pub record IsOneMachineUntold (from : State) (history : List Entry) (memory : List ℕ) : Type 0 where
  pub legal : IsLegalButValues from.flat history
  pub tagged : IsTagged from.flat from.tags history
  pub needed : IsNeeded from.lines from.opened history
  pub size : length memory ≡ length (flat_after from.flat history).words
  pub table : take (table_words from.flat.tables) memory ≡ take (table_words from.flat.tables) (flat_after from.flat history).words

abbrev pub IsOfOneMachine : State → List Entry → List ℕ → Option (List ℕ) → Type 0
IsOfOneMachine from history memory (Some swap) = IsOneMachine from history memory swap
IsOfOneMachine from history memory None = IsOneMachineUntold from history memory

-- ---- plain memory

-- Paging is invisible. Without the entries of the bus and of the pager, and without the faults that are served, a history is
-- one of the plain machine, and leads from the plain memory of its beginning to that of the flat state after it. Where the
-- swap does not tell its pages, this is so but for the values that were read.
abbrev pub IsOnPlainMemory : Flat → List Entry → Option (List ℕ) → Type 0
IsOnPlainMemory F history (Some swap) = IsInvisible F history
IsOnPlainMemory F history None = IsInvisibleButValues F history

-- ---- each board's program

-- every board has ended, by its program or by the swap
abbrev pub AllAreOut : {S : Type 0} → List (Runner S) → Type 0
AllAreOut {S} boards = (i : ℕ) (board : Runner S) → slice_get boards i ≡ Some board → is_out board ≡ true

module _ {S : Type 0} (m : Meaning S) where
  -- A board has the segment registers and the budget of the beginning. The own entries are the accesses of its program,
  -- each once and in order, from its first state up to where the program has come.
  pub record HasFollowedProgram (start : Start S) (i : ℕ) (first : S) (own : List Entry) (board : Runner S) : Type 0 where
    pub registers : slice_get start.segs i ≡ Some board.segs
    pub limit : board.budget ≡ start.options.budget
    pub led : IsLed m board.segs board.budget (begun first) own board.course

  -- program order: each entry is well formed and of boards that are there, and each board has followed its program
  pub record IsInProgramOrder (start : Start S) (history : List Entry) (boards : List (Runner S)) : Type 0 where
    pub count : length boards ≡ length start.segs
    pub formed : AllByRecursion (IsFormed (length start.segs)) history
    pub each : (i : ℕ) (first : S) (board : Runner S) → slice_get start.firsts i ≡ Some first
        → slice_get boards i ≡ Some board
        → HasFollowedProgram start i first (own_entries history i) board

  -- the swap failed where a page that the next access needs was to be brought in: the last own entry is the fault of
  -- it, which is Missing or Leaving, and the program still wants that access
  pub record IsStoppedBySwap (i : ℕ) (own : List Entry) (board : Runner S) : Type 0 where
    pub before : List Entry
    pub kind : FaultKind
    pub access : AccessKind
    pub va : ℕ
    pub value : ℕ
    pub last : own ≡ before ++ entry.Fault i kind access (global_of board.segs va) ∷ []
    pub asked : (kind ≡ fault.Missing) ⊎ (kind ≡ fault.Leaving)
    pub wants : m.wants board.course.cpu ≡ Access access va value
    pub standing : board.course.ending ≡ None

  -- endings: every board has ended where no probe stopped the run, and the swap has ended at most as many as its faults
  -- were counted
  pub record HaveEndings (start : Start S) (run : Run S) : Type 0 where
    pub all : IfNone run.stop (AllAreOut run.boards)
    pub swapped : (i : ℕ) (board : Runner S) → slice_get run.boards i ≡ Some board → board.swapped ≡ true
        → IsStoppedBySwap i (own_entries run.history i) board
    pub few : length (filter (λ board. board.swapped) run.boards) + start.faults ≤ run.faults

  -- ---- all together

  -- what came of a run of processors of this meaning from this beginning
  pub record IsRunOf (start : Start S) (run : Run S) : Type 0 where
    pub machine : IsOfOneMachine (opened_state start) run.history run.memory run.swap
    pub order : IsInProgramOrder start run.history run.boards
    pub endings : HaveEndings start run

  -- ---- each board's program on plain memory

  -- Each board is where its program comes on plain memory: by its accesses that are done, and, where a fault has ended it, by
  -- that one fault, which is the plain machine's answer.
  abbrev pub AreBoardsOnPlainMemory : Start S → List Entry → List (Runner S) → Type 0
  AreBoardsOnPlainMemory start history boards = (i : ℕ) (first : S) (board : Runner S)
      → slice_get start.firsts i ≡ Some first → slice_get boards i ≡ Some board
      → IsPlainBoard m (virtual start.flat) history i board.segs board.budget first board.course board.course.retired

  -- a run as one that begins with this plain memory, whatever frames and lines there are
  pub record IsRunOnPlainMemory (memory : PlainMemory) (start : Start S) (run : Run S) : Type 0 where
    pub begins : virtual start.flat ≡ memory
    pub history : IsOnPlainMemory start.flat run.history run.swap
    pub boards : AreBoardsOnPlainMemory start run.history run.boards
