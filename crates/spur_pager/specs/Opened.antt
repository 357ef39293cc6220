-- The state that stands with anything beside memory and lines: while boards have open entries.
use Rattle.std.specs.Prelude.{ℕ, ◌≡◌, ◌^◌, ◌<◌, [], ◌∷◌, length, List, Some, None}
use Rattle.spur_addr.specs.Address.{table_start}
use Rattle.spur_snoop.specs.declared.Need.{Need}
use Rattle.spur_flat.specs.declared.flat.Flat.{Flat}
use Rattle.spur_flat.specs.declared.entry.Entry.{Entry}
use Rattle.spur_flat.specs.Blocks.{board_of}
use Rattle.spur_flat.specs.Laws.{address_of}
use Rattle.spur_flat.specs.Needed.{lack_of}
use Rattle.spur_flat.specs.State.{Beside, State, IsCarried, beside_on, nothing_beside, served_beside}
use Rattle.spur_flat.specs.StateLaws.{IsAccess}
use Rattle.spur_flat.specs.Untold.{IsCarriedUntold}
use Rattle.spur_bus.specs.Calls.{line_count}
use Rattle.spur_bus.specs.Stand.{state_of}
use Rattle.spur_walk.specs.declared.step.Walked.TheVariants as walked
use Rattle.spur_walk.specs.Answered.{LeavesBy}
use Rattle.spur_walk.specs.Laws.{MayStand}
use Rattle.spur_walk.specs.Plan.{access_plan}
use Rattle.spur_walk.specs.Steps.{Steps, answer_of}
use Rattle.spur_pager.specs.View.{View}
use Rattle.spur_pager.specs.Stand.{Stands, standing_state, with_told}
use Rattle.spur_pager.specs.Again.{SharesSame}

-- what stands, with this beside memory and lines
abbrev pub state_in : Flat → View → Beside → State
state_in rest w beside = state_of (with_told rest w.pages) w.caches w.memory beside

-- where no board has an open entry, it is the state that stands
abbrev pub NothingIsOpen : Type 0
NothingIsOpen = (rest : Flat) (w : View) → state_in rest w (nothing_beside (length w.caches)) ≡ standing_state rest w

-- A piece of a history is carried from the state with one such record to the state with another: where the swap object
-- tells its pages, with all values; and, whether or not it tells them, but for the values that were read.
pub record AreCarriedIn (rest : Flat) (before : View) (beside : Beside) (after : View)
    (now : Beside) (piece : List Entry) : Type 0 where
  pub told : (words : List ℕ) → before.pages ≡ Some words
      → IsCarried (state_in rest before beside) (state_in rest after now) piece
  pub untold : IsCarriedUntold (state_in rest before beside) (state_in rest after now) piece

-- the entry of a step towards an access is carried so, where the open entries need it: it is then open itself
abbrev pub StepIsCarriedIn : Type 0
StepIsCarriedIn = (rest : Flat) (w v : View) (b at : ℕ) (need : Need) (beside : Beside) (e : Entry)
    → Stands rest w → b < length w.caches → at < table_start
    → Steps w.caches w.memory b at (access_plan w.caches w.memory b at need) v.caches v.memory → SharesSame w v
    → answer_of b at (access_plan w.caches w.memory b at need) ≡ walked.Moved e
    → lack_of (line_count w.caches) beside.opened e ≡ None → AreCarriedIn rest w beside v (beside_on beside e) (e ∷ [])

-- and so is the entry of an access or of a fault that may stand and is needed, to the state where its board is served,
-- by what it leaves in the caches
abbrev pub AccessIsCarriedIn : Type 0
AccessIsCarriedIn = (rest : Flat) (w v : View) (beside : Beside) (e : Entry) → Stands rest w → IsAccess e
    → address_of e < 2 ^ 38 → MayStand w.caches w.memory e → lack_of (line_count w.caches) beside.opened e ≡ None
    → LeavesBy w.caches v.caches w.memory e → v.memory ≡ w.memory → SharesSame w v
    → AreCarriedIn rest w beside v (served_beside beside (board_of e)) (e ∷ [])
