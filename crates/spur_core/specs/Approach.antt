-- The way of a board towards the answer of its access.
use Rattle.std.specs.Prelude.{ℕ, ◌≡◌, ◌+◌, ◌≤◌, ◌⊎◌, true, false, List, [], ◌++◌, get_or, length, replicate, slice_set, Option, Some, None}
use Rattle.std.specs.List.{AllByRecursion}
use Rattle.spur_cache.specs.declared.line.Line.{Line}
use Rattle.spur_snoop.specs.declared.Need.{Need}
use Rattle.spur_flat.specs.declared.flat.Flat.{Flat}
use Rattle.spur_flat.specs.declared.access.FaultKind.{FaultKind}
use Rattle.spur_flat.specs.declared.entry.Entry.{Entry}
use Rattle.spur_flat.specs.Blocks.{access_blocks}
use Rattle.spur_flat.specs.Formed.{IsMade}
use Rattle.spur_flat.specs.Needed.{is_modest}
use Rattle.spur_flat.specs.State.{Beside, nothing_beside}
use Rattle.spur_bus.specs.Boards.{line_of_block}
use Rattle.spur_bus.specs.Calls.{line_count}
use Rattle.spur_walk.specs.declared.looked.Looked.TheVariants.{Hit}
use Rattle.spur_walk.specs.declared.step.Walked.{Walked}
use Rattle.spur_walk.specs.declared.step.Walked.TheVariants as walked
use Rattle.spur_walk.specs.Bounds.{fills_left, steps_left}
use Rattle.spur_walk.specs.Laws.{IsServing, owned_for}
use Rattle.spur_walk.specs.Look.{look_of}
use Rattle.spur_walk.specs.Plan.{access_plan}
use Rattle.spur_walk.specs.Steps.{answer_of}
use Rattle.spur_pager.specs.Ahead.{is_of_leaving}
use Rattle.spur_pager.specs.Again.{HasStepped}
use Rattle.spur_pager.specs.Opened.{AreCarriedIn}
use Rattle.spur_pager.specs.Served.{Keeps}
use Rattle.spur_pager.specs.Stand.{Stands}
use Rattle.spur_pager.specs.View.{View}
use Rattle.spur_core.specs.Tally.{fetch_count, is_serving}

-- the answer to a board's access, as things stand
abbrev pub answer_in : View → ℕ → ℕ → Need → Walked
answer_in w b at need = answer_of b at (access_plan w.caches w.memory b at need)

-- of so many boards b alone has open entries, these
abbrev pub open_only : ℕ → ℕ → List Entry → Beside
open_only boards b opened = record { opened = slice_set (replicate boards []) b opened }

-- What is open for an access of board b: each entry serves it; none of them asks to own a block, unless the access
-- hits; and there is room for the steps that are left.
pub record IsOpenFor (caches : List (List (Option Line))) (b at : ℕ) (need : Need) (opened : List Entry) : Type 0 where
  pub serving : AllByRecursion (IsServing b (line_count caches) (access_blocks at) (owned_for need at)) opened
  pub modest : (look_of (line_of_block caches b at) need ≡ Hit) ⊎ AllByRecursion (λ e. is_modest None e ≡ true) opened
  pub few : length opened + steps_left (get_or caches b []) at need ≤ 6

-- entries are carried from the state with nothing open to the one where board b alone has these open, and the state
-- stands again
pub record CarriesOpen (rest : Flat) (w v : View) (b : ℕ) (opened entries : List Entry) : Type 0 where
  pub carried : AreCarriedIn rest w (nothing_beside (length w.caches)) v (open_only (length w.caches) b opened) entries
  pub stands : Stands rest v

-- Steps were done towards an access of board b, and their entries appended. None of these serves, or is one by which a page
-- leaves, and there are no more of them, and no more fills and claims, than were left. The swap object was not called.
pub record OnWay (b at : ℕ) (need : Need) (w v : View) : Type 0 where
  pub entries : List Entry
  pub opened : List Entry
  pub history : v.history ≡ w.history ++ entries
  pub room : v.room + length entries ≡ w.room
  pub made : AllByRecursion (IsMade b (length w.caches)) entries
  pub idle : AllByRecursion (λ e. is_serving e ≡ false) entries
  pub quiet : AllByRecursion (λ e. is_of_leaving e ≡ false) entries
  pub opens : IsOpenFor v.caches b at need opened
  pub stepped : HasStepped w v
  pub keeps : Keeps w v
  pub faults : v.faults ≡ w.faults
  pub few : length entries + steps_left (get_or v.caches b []) at need ≤ steps_left (get_or w.caches b []) at need
  pub fetches : fetch_count entries + fills_left (get_or v.caches b []) at need
      ≤ fills_left (get_or w.caches b []) at need
  pub carries : (rest : Flat) → Stands rest w → CarriesOpen rest w v b opened entries

-- the answer for which there are no more steps
abbrev pub ending_of : Option FaultKind → Walked
ending_of None = walked.Ready
ending_of (Some kind) = walked.Fault kind

-- such steps were done until the access is ready or has a fault
pub record Approaches (b at : ℕ) (need : Need) (w v : View) (result : Option FaultKind) : Type 0 where
  pub way : OnWay b at need w v
  pub answered : answer_in v b at need ≡ ending_of result
