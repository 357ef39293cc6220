-- What the walk asks of the bus is what the protocol's table says.
use Rattle.std.specs.Prelude.{ℕ, ◌≡◌, ◌<◌, ◌&&◌, ◌||◌, Bool, true, List, length, Option, Some, None}
use Rattle.spur_addr.specs.Address.{block_of, entry_address_of}
use Rattle.spur_cache.specs.declared.line.Line.{Line}
use Rattle.spur_snoop.specs.declared.BlockState.{BlockState}
use Rattle.spur_snoop.specs.declared.BlockState.TheVariants.{Invalid, OwnedExclusive, UnOwned}
use Rattle.spur_snoop.specs.declared.BusKind.{BusKind}
use Rattle.spur_snoop.specs.declared.BusKind.TheVariants as bus
use Rattle.spur_snoop.specs.declared.BusWant.{BusWant}
use Rattle.spur_snoop.specs.declared.BusWant.TheVariants as want
use Rattle.spur_snoop.specs.declared.Need.{Need}
use Rattle.spur_snoop.specs.declared.Need.TheVariants.{Read, Write}
use Rattle.spur_snoop.specs.Protocol.{asked_of, is_alive}
use Rattle.spur_flat.specs.declared.entry.Layer.{Layer}
use Rattle.spur_flat.specs.declared.entry.Layer.TheVariants.{PteBlock, UserBlock}
use Rattle.spur_flat.specs.Access.{grants}
use Rattle.spur_flat.specs.TagRules.{access_of, is_read}
use Rattle.spur_bus.specs.Agrees.{Agrees}
use Rattle.spur_bus.specs.Boards.{line_of_block, turned}
use Rattle.spur_walk.specs.declared.looked.Looked.{Looked}
use Rattle.spur_walk.specs.declared.looked.Looked.TheVariants.{Hit, NeedsClaim, Miss}
use Rattle.spur_walk.specs.declared.plan.Plan.{Plan}
use Rattle.spur_walk.specs.declared.plan.Plan.TheVariants as plan
use Rattle.spur_walk.specs.Look.{look_of}
use Rattle.spur_walk.specs.Plan.{access_plan, page_plan}
use Rattle.spur_walk.specs.Steps.{stepped}

-- the state that a cache has a block in, by its line of the block: Invalid where it has none
abbrev pub line_state : Option Line → BlockState
line_state None = Invalid
line_state (Some line) = line.state

-- nothing but the block's state is in the way of an access: a line of the block is valid, its protection allows the
-- access, and its dirty copy is set for a write
abbrev pub state_decides : Option Line → Need → Bool
state_decides None need = true
state_decides (Some line) need = is_alive line.state && grants line.prot (access_of need) && (line.dirty || is_read need)

-- what a cache says of an access where nothing else is in its way, by what the table asks of the bus
abbrev pub looked_for : BusWant → Looked
looked_for want.Nothing = Hit
looked_for want.ReadShared = Miss
looked_for want.ReadOwned = Miss
looked_for want.Claim = NeedsClaim

-- the transaction that a board makes for what it asks of the bus
abbrev pub asked_kind : BusWant → Option BusKind
asked_kind want.Nothing = None
asked_kind want.ReadShared = Some bus.ReadShared
asked_kind want.ReadOwned = Some bus.ReadOwned
asked_kind want.Claim = Some bus.Claim

-- the state in which a transaction leaves its maker's own block
abbrev pub made_state : BusKind → BlockState
made_state bus.ReadShared = UnOwned
made_state bus.ReadOwned = OwnedExclusive
made_state bus.Claim = OwnedExclusive
made_state bus.WriteBack = UnOwned

-- what a block is filled for, as it is asked of the bus
abbrev pub filled_for : Need → BusWant
filled_for Read = want.ReadShared
filled_for Write = want.ReadOwned

-- What a plan asks of the bus for the block that it is made for, which is of this layer. A fault asks nothing of it, and
-- nor do the steps on the way there: a refresh, a write-back, and the fill of a block of another layer.
abbrev pub asked_by : Layer → Plan → Option BusWant
asked_by layer plan.Ready = Some want.Nothing
asked_by layer (plan.Fault kind) = None
asked_by layer plan.Refresh = None
asked_by layer plan.Claim = Some want.Claim
asked_by layer (plan.WriteBack at) = None
asked_by UserBlock (plan.Fill UserBlock need at place) = Some (filled_for need)
asked_by PteBlock (plan.Fill PteBlock need at place) = Some (filled_for need)
asked_by layer (plan.Fill other need at place) = None

-- the caches after a transaction of board b on the block of g: its own line of the block is in the state in which that
-- transaction leaves it, for which the table asks nothing more
pub record IsCalled (caches after : List (List (Option Line))) (b g : ℕ) (need : Need) (kind : BusKind) : Type 0 where
  pub line : Line
  pub block : line.tag ≡ block_of g
  pub state : line.state ≡ made_state kind
  pub enough : asked_of line.state need ≡ want.Nothing
  pub turns : after ≡ turned caches b g kind line

-- what a plan of board b asks of the bus for the block of g: it is what the table says for the state that the board's
-- cache has the block in, and the step makes that transaction, or changes no cache where nothing is asked
pub record AsksAsTheTable (caches after : List (List (Option Line))) (b g : ℕ) (need : Need) (asked : BusWant) : Type 0 where
  pub table : asked_of (line_state (line_of_block caches b g)) need ≡ asked
  pub calls : (kind : BusKind) → asked_kind asked ≡ Some kind → IsCalled caches after b g need kind
  pub still : asked_kind asked ≡ None → after ≡ caches

-- what a cache says of an access is by the table, where the block's state decides
abbrev pub LookIsTheTables : Type 0
LookIsTheTables = (own : Option Line) (need : Need) → state_decides own need ≡ true
    → look_of own need ≡ looked_for (asked_of (line_state own) need)

-- So are the plans of `advance`, for the access's own block: where one of them asks something of the bus for it, the table
-- does.
abbrev pub PlanIsTheTables : Type 0
PlanIsTheTables = (caches : List (List (Option Line))) (memory : List ℕ) (b at : ℕ) (need : Need) (asked : BusWant)
    → Agrees caches → b < length caches → asked_by UserBlock (access_plan caches memory b at need) ≡ Some asked
    → AsksAsTheTable caches (stepped caches memory b at (access_plan caches memory b at need)) b at need asked

-- and where the board has a line of it, and its state decides, the plan asks what the table does
abbrev pub FoundPlanIsTheTables : Type 0
FoundPlanIsTheTables = (caches : List (List (Option Line))) (memory : List ℕ) (b at : ℕ) (need : Need) (line : Line)
    → line_of_block caches b at ≡ Some line → state_decides (Some line) need ≡ true
    → asked_by UserBlock (access_plan caches memory b at need) ≡ Some (asked_of line.state need)

-- The same of the plans of `advance_entry`, for the block of the page's entry, which is to be written
abbrev pub PagePlanIsTheTables : Type 0
PagePlanIsTheTables = (caches : List (List (Option Line))) (memory : List ℕ) (b page : ℕ) (asked : BusWant)
    → Agrees caches → b < length caches → asked_by PteBlock (page_plan caches memory b page) ≡ Some asked
    → AsksAsTheTable caches (stepped caches memory b (entry_address_of page) (page_plan caches memory b page)) b
    (entry_address_of page) Write asked
