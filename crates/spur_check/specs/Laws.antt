-- What a verdict means.
use Rattle.std.specs.Prelude.{◌≡◌, ⊤, ℕ, zero, suc, ◌+◌, ◌↔◌, List, ◌++◌, Option, Some, None, length, map, take, slice_get}
use Rattle.std.specs.List.{All, AllByRecursion}
use Rattle.spur_isa.specs.declared.instr.Instr.{Instr}
use Rattle.spur_object.specs.Limits.{IsUnit}
use Rattle.spur_object.specs.declared.unit.Unit.{Unit as Program}
use Rattle.spur_flat.specs.declared.entry.Entry.{Entry}
use Rattle.spur_flat.specs.Blocks.{IsOfBoards}
use Rattle.spur_flat.specs.Formed.{IsFormed}
use Rattle.spur_flat.specs.History.{own_entries}
use Rattle.spur_flat.specs.Needed.{numbers_at, open_at}
use Rattle.spur_flat.specs.StateLaws.{IsEach}
use Rattle.spur_cpu.specs.Meaning.{Meaning}
use Rattle.spur_cpu.specs.After.{Course, HasBudgetLeft, IsLed, begun}
use Rattle.spur_cpu.specs.Onward.{EntriesFit}
use Rattle.spur_cpu.specs.Plain.{Plain, opened, plain}
use Rattle.spur_loader.specs.declared.opening.Opening.{Opening}
use Rattle.spur_loader.specs.declared.opening.Options.{Options}
use Rattle.spur_loader.specs.Faults.{load_fault_of}
use Rattle.spur_loader.specs.Limits.{IsOptions}
use Rattle.spur_loader.specs.Opening.{board_count, first_state, opening_of}
use Rattle.spur_check.specs.declared.verdict.Verdict.{Verdict}
use Rattle.spur_check.specs.declared.verdict.Verdict.TheVariants.{Good, Bad}
use Rattle.spur_check.specs.Replays.{Replayed}
use Rattle.spur_check.specs.Judged.{MayBeJudged, Progress, first_progress, judged, judged_from, progress_after}

abbrev pub IsGood : Verdict → Type 0
IsGood (Good entries) = ⊤
IsGood (Bad at clause wanted found) = ⊥

-- the verdict is Bad at the entry with this number
abbrev pub IsBadAt : ℕ → Verdict → Type 0
IsBadAt n (Good entries) = ⊥
IsBadAt n (Bad at clause wanted found) = at ≡ n

-- a verdict, or where that is good the next one
abbrev pub and_then : Verdict → Verdict → Verdict
and_then (Good entries) next = next
and_then (Bad at clause wanted found) next = Bad at clause wanted found

-- ---- from an opening

-- for each board there is a number of completed instructions to which its own entries lead its program
abbrev pub ProgramsFit : Opening → List Entry → Type 0
ProgramsFit opening history = (b : ℕ) (segs : List ℕ) (code : List Instr)
    → slice_get opening.segs b ≡ Some segs → slice_get opening.code b ≡ Some code
    → EntriesFit plain segs opening.options.budget (begun (opened code)) (own_entries history b)

-- a history that is legal, tagged and needed, and in which each board's entries are the first ones of its program
pub record IsRightful (opening : Opening) (history : List Entry) : Type 0 where
  pub entries : IsEach (first_state opening) history
  pub programs : ProgramsFit opening history

abbrev pub GoodMeans : Type 0
GoodMeans = (opening : Opening) (history : List Entry)
    → MayBeJudged opening → All (IsOfBoards (board_count opening)) history
    → (judged opening history ≡ Good (length history)) ↔ IsRightful opening history

-- Bad at the entry behind the first n exactly where those are judged good and one more is not
pub record TurnsBad (opening : Opening) (history : List Entry) (n : ℕ) : Type 0 where
  pub before : IsGood (judged opening (take n history))
  pub with_it : IsGood (judged opening (take (suc n) history)) → ⊥

abbrev pub BadMeans : Type 0
BadMeans = (opening : Opening) (history : List Entry) (n : ℕ)
    → IsBadAt (suc n) (judged opening history) ↔ TurnsBad opening history n

-- What is said of the history of a run: it is legal, tagged and needed; each entry is well formed; and each board's own
-- entries lead its program from its beginning, within the budget, to where the run left it
pub record HasFollowed (opening : Opening) (own : List Entry) (segs : List ℕ) (code : List Instr) : Type 0 where
  pub course : Course Plain
  pub led : IsLed plain segs opening.options.budget (begun (opened code)) own course

pub record IsTraced (opening : Opening) (history : List Entry) : Type 0 where
  pub entries : IsEach (first_state opening) history
  pub formed : AllByRecursion (IsFormed (board_count opening)) history
  pub order : (b : ℕ) (segs : List ℕ) (code : List Instr)
      → slice_get opening.segs b ≡ Some segs → slice_get opening.code b ≡ Some code
      → HasFollowed opening (own_entries history b) segs code

-- such a history is judged good
abbrev pub TracedIsGood : Type 0
TracedIsGood = (opening : Opening) (history : List Entry) → MayBeJudged opening → IsTraced opening history
    → judged opening history ≡ Good (length history)

-- of the opening of a loaded program a history may be judged
abbrev pub LoadedMayBeJudged : Type 0
LoadedMayBeJudged = (unit : Program) (options : Options)
    → IsUnit unit → IsOptions options → load_fault_of unit options ≡ None → MayBeJudged (opening_of unit options)

-- how far the judging of a history of an opening comes
abbrev pub progress_through : Opening → List Entry → Progress Plain
progress_through opening history = progress_after plain (first_progress opening) history

-- the entry of a history with a number, counted from 1
abbrev pub entry_numbered : List Entry → ℕ → Option Entry
entry_numbered history zero = None
entry_numbered history (suc k) = slice_get history k

-- the numbers of a board's open entries are those of these entries in the history, one by one
abbrev pub NumbersAreTheirs : Type 0
NumbersAreTheirs = (opening : Opening) (history : List Entry) (b : ℕ)
    → map (entry_numbered history) (numbers_at (progress_through opening history).numbers b)
    ≡ map Some (open_at (progress_through opening history).state.opened b)

-- ---- over any kind of processor, from wherever the judging has come

module _ {S : Type 0} (m : Meaning S) where
  -- two pieces are judged one after the other
  abbrev pub InPieces : Type 0
  InPieces = (p : Progress S) (first second : List Entry)
      → judged_from m p (first ++ second)
      ≡ and_then (judged_from m p first) (judged_from m (progress_after m p first) second)

  -- the own entries of each board are the next ones of its program
  abbrev pub ReplaysFit : List (Replayed S) → List Entry → Type 0
  ReplaysFit replays history = (b : ℕ) (r : Replayed S) → slice_get replays b ≡ Some r
      → EntriesFit m r.segs r.budget r.course (own_entries history b)

  -- each board without an ending has some of its budget left
  abbrev pub HaveBudgetLeft : List (Replayed S) → Type 0
  HaveBudgetLeft replays = (b : ℕ) (r : Replayed S) → slice_get replays b ≡ Some r → HasBudgetLeft r.budget r.course

  pub record MayStand (p : Progress S) (history : List Entry) : Type 0 where
    pub entries : IsEach p.state history
    pub programs : ReplaysFit p.replays history

  abbrev pub GoodWhereItFits : Type 0
  GoodWhereItFits = (p : Progress S) (history : List Entry)
      → HaveBudgetLeft p.replays → All (IsOfBoards (length p.replays)) history
      → IsGood (judged_from m p history) ↔ MayStand p history

  abbrev pub GoodHasLength : Type 0
  GoodHasLength = (p : Progress S) (history : List Entry) (n : ℕ)
      → judged_from m p history ≡ Good n → n ≡ p.count + length history

  pub record TurnsBadFrom (p : Progress S) (history : List Entry) (n : ℕ) : Type 0 where
    pub before : IsGood (judged_from m p (take n history))
    pub with_it : IsGood (judged_from m p (take (suc n) history)) → ⊥

  abbrev pub BadWhereItTurns : Type 0
  BadWhereItTurns = (p : Progress S) (history : List Entry) (n : ℕ)
      → IsBadAt (p.count + suc n) (judged_from m p history) ↔ TurnsBadFrom p history n
