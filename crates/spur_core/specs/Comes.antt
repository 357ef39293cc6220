-- What comes of a board's turn on the bus, towards its access.
use Rattle.std.specs.Prelude.{ℕ, ◌≡◌, ◌⊎◌, ◌+◌, ◌≤◌, ◌<◌, true, false, List, [], ◌∷◌, ◌++◌, length}
use Rattle.std.specs.List.{AllByRecursion}
use Rattle.spur_flat.specs.declared.flat.Flat.{Flat}
use Rattle.spur_flat.specs.declared.access.AccessKind.{AccessKind}
use Rattle.spur_flat.specs.declared.access.FaultKind.{FaultKind}
use Rattle.spur_flat.specs.declared.access.FaultKind.TheVariants as fault
use Rattle.spur_flat.specs.declared.entry.Entry.{Entry}
use Rattle.spur_flat.specs.declared.entry.Entry.TheVariants as entry
use Rattle.spur_flat.specs.Blocks.{board_of}
use Rattle.spur_flat.specs.Formed.{IsFormed}
use Rattle.spur_flat.specs.History.{own_entries}
use Rattle.spur_cpu.specs.After.{is_done}
use Rattle.spur_cpu.specs.Meaning.{is_ending}
use Rattle.spur_walk.specs.declared.step.Walked.TheVariants as walked
use Rattle.spur_walk.specs.Laws.{need_of}
use Rattle.spur_pager.specs.Served.{Keeps}
use Rattle.spur_pager.specs.Stand.{CarriesOn, Stands}
use Rattle.spur_pager.specs.View.{View}
use Rattle.spur_core.specs.declared.reach.Reached.{Reached}
use Rattle.spur_core.specs.declared.reach.Reached.TheVariants as reached
use Rattle.spur_core.specs.Approach.{OnWay, answer_in}
use Rattle.spur_core.specs.Quiet.{IsQuiet}
use Rattle.spur_core.specs.Step.{EndsWithAnswer}
use Rattle.spur_core.specs.Tally.{IsFrugal}

-- an entry of board b's turn, well formed
pub record IsOfTurn (b boards : ℕ) (e : Entry) : Type 0 where
  pub board : board_of e ≡ b
  pub formed : IsFormed boards e

-- the entry of a fault of the access that is served
pub record IsServedFault (b at : ℕ) (access : AccessKind) (e : Entry) : Type 0 where
  pub kind : FaultKind
  pub is : e ≡ entry.Fault b kind access at
  pub served : is_ending kind ≡ false

-- Board b's turn has come from w to v by these entries, and nothing is open: they are carried and the state stands
-- again. The board's own among them are faults of the access that were served, and then the last ones. Before the first
-- fault no page leaves.
pub record Comes (b at : ℕ) (access : AccessKind) (w v : View) (entries faults last : List Entry) : Type 0 where
  pub history : v.history ≡ w.history ++ entries
  pub room : v.room + length entries ≡ w.room
  pub turns : AllByRecursion (IsOfTurn b (length w.caches)) entries
  pub own : own_entries entries b ≡ faults ++ last
  pub served : AllByRecursion (IsServedFault b at access) faults
  pub keeps : Keeps w v
  pub carries : (rest : Flat) → Stands rest w → CarriesOn rest w v entries
  pub later : w.faults ≤ v.faults
  pub quiet : IsQuiet entries

-- the access is ready, after faults that were served and the steps behind them; with its own entry the turn is frugal
pub record BecomesReady (b at : ℕ) (access : AccessKind) (w v : View) : Type 0 where
  pub entries : List Entry
  pub faults : List Entry
  pub mid : View
  pub comes : Comes b at access w mid entries faults []
  pub way : OnWay b at (need_of access) mid v
  pub ready : answer_in v b at (need_of access) ≡ walked.Ready
  pub room : 1 ≤ v.room
  pub frugal : (e : Entry) → is_done e ≡ true → IsFrugal (entries ++ (way.entries ++ e ∷ []))

-- a fault ends the board, and is the last entry
pub record EndsByFault (b at : ℕ) (access : AccessKind) (w v : View) (kind : FaultKind) : Type 0 where
  pub entries : List Entry
  pub faults : List Entry
  pub ending : is_ending kind ≡ true
  pub comes : Comes b at access w v entries faults (entry.Fault b kind access at ∷ [])
  pub reaches : EndsWithAnswer b entries
  pub frugal : IsFrugal entries

-- the swap failed
pub record EndsBySwap (b at : ℕ) (access : AccessKind) (w v : View) : Type 0 where
  pub entries : List Entry
  pub faults : List Entry
  pub kind : FaultKind
  pub asked : (kind ≡ fault.Missing) ⊎ (kind ≡ fault.Leaving)
  pub comes : Comes b at access w v entries faults (entry.Fault b kind access at ∷ [])
  pub rose : w.faults < v.faults
  pub frugal : IsFrugal entries

abbrev pub Reaches : ℕ → ℕ → AccessKind → View → View → Reached → Type 0
Reaches b at access w v reached.Ready = BecomesReady b at access w v
Reaches b at access w v (reached.Ends kind) = EndsByFault b at access w v kind
Reaches b at access w v reached.SwapFault = EndsBySwap b at access w v
