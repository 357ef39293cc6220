-- The state stands again after steps of the walk, and in a view that shows the same.
use Rattle.std.specs.Prelude.{ℕ, ◌≡◌, ◌<◌, ◌≤◌, ◌&&◌, not, false, length}
use Rattle.spur_addr.specs.Address.{table_start, user_pages}
use Rattle.spur_addr.specs.PageEntry.{is_leaving, is_valid}
use Rattle.spur_snoop.specs.declared.Need.{Need}
use Rattle.spur_flat.specs.declared.flat.Flat.{Flat}
use Rattle.spur_bus.specs.Logical.{logical_words}
use Rattle.spur_walk.specs.declared.plan.Plan.{Plan}
use Rattle.spur_walk.specs.Plan.{access_plan}
use Rattle.spur_walk.specs.Present.{ArePresent, MayWalk}
use Rattle.spur_walk.specs.Steps.{Steps}
use Rattle.spur_pager.specs.View.{View}
use Rattle.spur_pager.specs.Stand.{Stands, entry_in, flat_in, standing_flat}
use Rattle.spur_pager.specs.Room.{page_line_count}

-- what is shared is as it was, but for memory and history: the frame table, the told pages and the number of slots
pub record SharesSame (w v : View) : Type 0 where
  pub frames : v.frames ≡ w.frames
  pub pages : v.pages ≡ w.pages
  pub slots : v.slots ≡ w.slots

-- and so are caches and memory
pub record ShowsSame (w v : View) : Type 0 where
  pub caches : v.caches ≡ w.caches
  pub memory : v.memory ≡ w.memory
  pub shares : SharesSame w v

-- of a page that is leaving, or not valid, there are not more lines
abbrev pub BringsNoLeaving : View → View → Type 0
BringsNoLeaving w v = (page : ℕ) → page < user_pages
    → (is_valid (entry_in w page) && not (is_leaving (entry_in w page))) ≡ false
    → page_line_count v.caches page ≤ page_line_count w.caches page

-- Steps of the walk led from w to v, however many: what they need is there again, the logical memory is as it was, and
-- so are lines of present pages, the number of caches, and what is shared. No line of a leaving page came in.
pub record HasStepped (w v : View) : Type 0 where
  pub walk : MayWalk v.caches v.memory
  pub logical : logical_words v.caches v.memory ≡ logical_words w.caches w.memory
  pub present : ArePresent (flat_in w) w.caches → ArePresent (flat_in v) v.caches
  pub boards : length v.caches ≡ length w.caches
  pub shares : SharesSame w v
  pub leaving : BringsNoLeaving w v

-- one step of `advance` is such a case, none is one, and so are steps after steps
abbrev pub StepHasStepped : Type 0
StepHasStepped = (w v : View) (b at : ℕ) (need : Need) → MayWalk w.caches w.memory → b < length w.caches
    → at < table_start → Steps w.caches w.memory b at (access_plan w.caches w.memory b at need) v.caches v.memory
    → SharesSame w v → HasStepped w v

abbrev pub SameHasStepped : Type 0
SameHasStepped = (w v : View) → MayWalk w.caches w.memory → ShowsSame w v → HasStepped w v

abbrev pub StepsAddUp : Type 0
StepsAddUp = (u w v : View) → HasStepped u w → HasStepped w v → HasStepped u v

-- the state stands again, and its flat state is the same
pub record StandsSame (rest : Flat) (w v : View) : Type 0 where
  pub stands : Stands rest v
  pub flat : standing_flat rest v ≡ standing_flat rest w

-- so it is after one step, after several, and in a view that shows the same
abbrev pub StepStandsAgain : Type 0
StepStandsAgain = (rest : Flat) (w v : View) (b g : ℕ) (plan : Plan) → Stands rest w
    → Steps w.caches w.memory b g plan v.caches v.memory → SharesSame w v → StandsSame rest w v

abbrev pub StepsStandAgain : Type 0
StepsStandAgain = (rest : Flat) (w v : View) → Stands rest w → HasStepped w v → StandsSame rest w v

abbrev pub SameStandsAgain : Type 0
SameStandsAgain = (rest : Flat) (w v : View) → Stands rest w → ShowsSame w v → StandsSame rest w v
