-- A schedule is followed: over boards on their ways and lists of entries, with no machine in it.
use Rattle.std.specs.Prelude.{ℕ, ◌≡◌, ◌<◌, ◌≤◌, Bool, false, IfNone, IfSome, List, [], ◌∷◌, ◌++◌, length, map, set, slice_get, Option, Some, if◌then◌else◌, ◌==◌}
use Rattle.std.specs.List.{AllByRecursion}
use Rattle.spur_flat.specs.declared.entry.Entry.{Entry}
use Rattle.spur_flat.specs.Blocks.{board_of}
use Rattle.spur_flat.specs.History.{own_entries}
use Rattle.spur_cpu.specs.Meaning.{Meaning}
use Rattle.spur_board.specs.declared.board.Board.{Board}
use Rattle.spur_core.specs.Step.{EndsWithAnswer, Runner, TakesInstruction, is_out, runners_of}
use Rattle.spur_sched.specs.Picks.{next_number, picked_board, running_boards}

-- one pick: a board, the entries of its own by which it goes on, and whether the swap ends it then
pub record Pick : Type 0 where
  pub board : ℕ
  pub own : List Entry
  pub swapped : Bool

-- the numbers of the boards that have not ended
abbrev pub still_running : {S : Type 0} → List (Runner S) → List ℕ
still_running runners = running_boards (map is_out runners)

-- the entries of board b in these picks
abbrev pub own_in : ℕ → List Pick → List Entry
own_in b [] = []
own_in b (p ∷ ps) = if p.board == b then p.own ++ own_in b ps else own_in b ps

module _ {S : Type 0} (m : Meaning S) where
  -- a number picks a board of those that have not ended, and by the pick's entries it takes one whole instruction
  pub record IsPick (x : ℕ) (olds : List (Runner S)) (p : Pick) (news : List (Runner S)) : Type 0 where
    pub picked : picked_board x (still_running olds) ≡ Some p.board
    pub old : Runner S
    pub there : slice_get olds p.board ≡ Some old
    pub new : Runner S
    pub takes : TakesInstruction m old p.own new
    pub swapped : new.swapped ≡ p.swapped
    pub boards : news ≡ set olds p.board new

  -- two stretches, with the boards as they stand in between
  pub record Through (front back : List (Runner S) → Type 0) : Type 0 where
    pub mid : List (Runner S)
    pub first : front mid
    pub rest : back mid

  -- picks one after the other, by the numbers that follow x; the last of these is y
  abbrev pub ArePicks : ℕ → List (Runner S) → List Pick → ℕ → List (Runner S) → Type 0
  ArePicks x olds [] y news = (y ≡ x) × (news ≡ olds)
  ArePicks x olds (p ∷ ps) y news = Through (IsPick (next_number x) olds p) (λ mid. ArePicks (next_number x) mid ps y news)

  -- From a start number the picks lead the boards from where they stood to where they stand, and use up each board's
  -- own entries. Where no probe stopped the schedule, all boards have come to their ends.
  pub record IsFollowed (start : ℕ) (stop : Option ℕ) (olds : List (Runner S)) (own : ℕ → List Entry)
      (news : List (Runner S)) : Type 0 where
    pub picks : List Pick
    pub last : ℕ
    pub are : ArePicks start olds picks last news
    pub ended : IfNone stop (still_running news ≡ [])
    pub used : (b : ℕ) → own_in b picks ≡ own b

-- A pick's entries are the next ones, and all of its board: those of its own, and between them those of the bus and of
-- the pager. They reach to the answer of its instruction, so a local one has none; only where the swap ends the board
-- may some of the pager's stand behind the fault that it was asked for.
pub record IsNext (entries : List Entry) (p : Pick) (onward : List Entry → Type 0) : Type 0 where
  pub piece : List Entry
  pub rest : List Entry
  pub is : entries ≡ piece ++ rest
  pub turns : AllByRecursion (λ e. board_of e ≡ p.board) piece
  pub own : own_entries piece p.board ≡ p.own
  pub reaches : p.swapped ≡ false → EndsWithAnswer p.board piece
  pub goes_on : onward rest

-- the entries of the picks stand one behind the other
abbrev pub AreInOrder : List Entry → List Pick → Type 0
AreInOrder entries [] = entries ≡ []
AreInOrder entries (p ∷ ps) = IsNext entries p (λ rest. AreInOrder rest ps)

-- The entry with this number, from 1, is one of the last pick's: the picks before that have fewer entries.
pub record IsInLast (number : ℕ) (entries : List Entry) (picks : List Pick) : Type 0 where
  pub front : List Pick
  pub last : Pick
  pub are : picks ≡ front ++ last ∷ []
  pub earlier : List Entry
  pub piece : List Entry
  pub is : entries ≡ earlier ++ piece
  pub of_front : AreInOrder earlier front
  pub of_last : AreInOrder piece (last ∷ [])
  pub behind : length earlier < number
  pub within : number ≤ length entries

-- The entries stand in the order of the picks. Where a probe stopped the schedule, at the entry with this number among
-- them, the last pick is the one whose entry that is.
pub record StandInOrder (stop : Option ℕ) (entries : List Entry) (picks : List Pick) : Type 0 where
  pub order : AreInOrder entries picks
  pub stopped : IfSome stop (λ number. IsInLast number entries picks)

-- What a schedule adds to a history: it is followed, from the boards as they stood to the boards as they stand, by the
-- boards' own entries among those that are added; and there are at most so many picks. Where the logs are joined after
-- each step, the entries stand in the order of the picks. Where they are joined late, nothing is said of the order
-- between boards.
pub record IsScheduled {C S : Type 0} (m : Meaning S) (state : C → S) (start : ℕ) (late : Bool) (most : ℕ)
    (stop : Option ℕ) (before after : List Entry) (olds news : List (Board C)) : Type 0 where
  pub entries : List Entry
  pub history : after ≡ before ++ entries
  pub followed : IsFollowed m start stop (runners_of m state olds) (own_entries entries) (runners_of m state news)
  pub in_order : late ≡ false → StandInOrder stop entries followed.picks
  pub few : length followed.picks ≤ most
