-- The ten parts of a good world, each by itself.
use Rattle.std.specs.Prelude.{ℕ, ◌≡◌, ⊤, ◌+◌, ◌≤◌, false, List, [], ◌∷◌, ◌++◌, length, replicate, slice_get, Option, Some}
use Rattle.std.specs.List.{AllByRecursion}
use Rattle.spur_cache.specs.declared.line.Line.{Line}
use Rattle.spur_snoop.specs.Protocol.{is_alive, is_exclusive}
use Rattle.spur_flat.specs.declared.flat.Flat.{Flat}
use Rattle.spur_flat.specs.declared.entry.Entry.{Entry}
use Rattle.spur_flat.specs.declared.entry.Entry.TheVariants as entry
use Rattle.spur_flat.specs.Clean.{AreClean}
use Rattle.spur_flat.specs.History.{flat_after}
use Rattle.spur_flat.specs.State.{IsNeeded, IsTagged, State, open_after, tags_after}
use Rattle.spur_flat.specs.StateLaws.{IsEach}
use Rattle.spur_flat.specs.Untold.{IsLegalButValues, IsLike}
use Rattle.spur_bus.specs.Agrees.{Agrees, AgreesWithMemory}
use Rattle.spur_bus.specs.Calls.{HasLine, tags_of}
use Rattle.spur_bus.specs.Logical.{logical_words}
use Rattle.spur_cpu.specs.After.{is_done}
use Rattle.spur_cpu.specs.Meaning.{Meaning}
use Rattle.spur_frames.specs.Frames.{AreFrames}
use Rattle.spur_swap.specs.Meaning.{Swap}
use Rattle.spur_walk.specs.Present.{AreMapped, ArePresent}
use Rattle.spur_pager.specs.declared.store.Store.{Store}
use Rattle.spur_pager.specs.Stand.{AreFramed, flat_in, standing_flat}
use Rattle.spur_pager.specs.View.{View}
use Rattle.spur_board.specs.declared.board.Board.{Board}
use Rattle.spur_core.specs.Boards.{IsBoardLog, swap_count, view_in, whole}
use Rattle.spur_core.specs.Good.{IsGood}
use Rattle.spur_core.specs.Programs.{FollowPrograms}
use Rattle.spur_core.specs.Start.{Start, opened_state}

-- History, where the swap tells these words: it is legal, tagged and needed from the opening, and the flat state after
-- it has the words of caches and memory together, and the swap's.
pub record IsRightHistory (from : State) (w : View) (words : List ℕ) (history : List Entry) : Type 0 where
  pub each : IsEach from history
  pub memory : (flat_after from.flat history).words ≡ logical_words w.caches w.memory
  pub swap : (flat_after from.flat history).swap ≡ words

-- Where it does not: the same but for the values that were read, and the flat state after it has as many words, and the
-- same ones in the root and the page table.
pub record IsRightButValues (from : State) (w : View) (history : List Entry) : Type 0 where
  pub legal : IsLegalButValues from.flat history
  pub tagged : IsTagged from.flat from.tags history
  pub needed : IsNeeded from.lines from.opened history
  pub like : IsLike (flat_after from.flat history) (standing_flat from.flat w)

pub record HistoryIsRight (from : State) (w : View) (history : List Entry) : Type 0 where
  pub told : (words : List ℕ) → w.pages ≡ Some words → IsRightHistory from w words history
  pub untold : IsRightButValues from w history

-- Tags agree: those after the history are the caches'.
abbrev pub TagsAgree : State → View → List Entry → Type 0
TagsAgree from w history = tags_after from.flat from.tags history ≡ tags_of w.caches

-- Words and owners agree: each valid line has the words of caches and memory together, a block has one owner at most,
-- and one that is exclusive in a cache is valid in no other.
pub record WordsAndOwnersAgree (w : View) : Type 0 where
  pub owners : Agrees w.caches
  pub words : AgreesWithMemory w.caches w.memory

-- Lines of present pages.
pub record LinesArePresent (w : View) : Type 0 where
  pub mapped : AreMapped (flat_in w) w.caches
  pub present : ArePresent (flat_in w) w.caches

-- The frame table is the page table's, and the swap has a slot for each declared page.
pub record FramesAgree (rest : Flat) (w : View) : Type 0 where
  pub table : AreFrames w.frames
  pub framed : AreFramed (standing_flat rest w) w.frames
  pub slots : w.slots ≡ length rest.pages

-- Clean pages match their slots, where the swap tells them.
abbrev pub CleanPagesMatch : Flat → View → Type 0
CleanPagesMatch rest w = (words : List ℕ) → w.pages ≡ Some words → AreClean (standing_flat rest w)

-- Local logs: each has at most 1024 entries of its board, and room for so many. What it has loaded is of a block that
-- the board's cache has now, and what it has written of one that it has for itself now. A fault is its last entry.
abbrev pub IsHitNow : List (List (Option Line)) → Entry → Type 0
IsHitNow caches (entry.Load board at value) = HasLine caches board at is_alive
IsHitNow caches (entry.Store board at value) = HasLine caches board at is_exclusive
IsHitNow caches (entry.Tas board at old) = HasLine caches board at is_exclusive
IsHitNow caches _ = ⊤

pub record IsLocalLog {C : Type 0} (caches : List (List (Option Line))) (i : ℕ) (b : Board C) : Type 0 where
  pub log : IsBoardLog i b
  pub hits : AllByRecursion (IsHitNow caches) b.log.entries
  pub last : (before : List Entry) (e : Entry) (behind : List Entry) → b.log.entries ≡ before ++ e ∷ behind
      → is_done e ≡ false → behind ≡ []

pub record LogsAreLocal {C : Type 0} (w : View) (boards : List (Board C)) : Type 0 where
  pub each : (i : ℕ) (b : Board C) → slice_get boards i ≡ Some b → IsLocalLog w.caches i b

-- Open lists are empty.
abbrev pub NothingIsLeftOpen : State → View → List Entry → Type 0
NothingIsLeftOpen from w history = open_after from.opened history ≡ replicate (length w.caches) []

-- Swap faults are counted: no more boards were ended by the swap than it has failed since the beginning.
abbrev pub SwapFaultsAreCounted : {C S : Type 0} → Start S → View → List (Board C) → Type 0
SwapFaultsAreCounted start w boards = swap_count boards + start.faults ≤ w.faults

module _ {C S : Type 0} (m : Meaning S) (state : C → S) (spare : C → ℕ) where
  pub record HasParts (start : Start S) (w : View) (history : List Entry) (boards : List (Board C)) : Type 0 where
    pub history_is_right : HistoryIsRight (opened_state start) w history
    pub tags_agree : TagsAgree (opened_state start) w history
    pub words_and_owners_agree : WordsAndOwnersAgree w
    pub lines_are_present : LinesArePresent w
    pub frames_agree : FramesAgree start.flat w
    pub clean_pages_match : CleanPagesMatch start.flat w
    pub logs_are_local : LogsAreLocal w boards
    pub programs_are_followed : FollowPrograms m state spare start history boards
    pub nothing_is_open : NothingIsLeftOpen (opened_state start) w history
    pub swap_faults_are_counted : SwapFaultsAreCounted start w boards

  abbrev pub GoodHasItsParts : {B : Type 0} → (B → Swap) → Type 0
  GoodHasItsParts {B} meaning = (start : Start S) (store : Store B) (boards : List (Board C))
      → IsGood m state spare meaning start store boards
      → HasParts start (view_in meaning store boards) (whole store boards) boards
