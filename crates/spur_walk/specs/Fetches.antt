-- The fills and claims of an access: what they leave, and how many of them are left.
use Rattle.std.specs.Prelude.{ℕ, ◌≡◌, ◌<◌, ◌≤◌, ◌⊎◌, true, List, [], get_or, length, Option, Some, None}
use Rattle.spur_addr.specs.Address.{entry_address_of, table_start}
use Rattle.spur_cache.specs.declared.line.Line.{Line}
use Rattle.spur_cache.specs.Lines.{found}
use Rattle.spur_snoop.specs.declared.Need.{Need}
use Rattle.spur_flat.specs.declared.access.FaultKind.{FaultKind}
use Rattle.spur_flat.specs.declared.entry.Entry.{Entry}
use Rattle.spur_flat.specs.Needed.{is_modest}
use Rattle.spur_bus.specs.Boards.{line_of_block}
use Rattle.spur_walk.specs.declared.looked.Looked.TheVariants.{Hit}
use Rattle.spur_walk.specs.declared.step.Walked.TheVariants as walked
use Rattle.spur_walk.specs.Bounds.{fills_left, steps_left}
use Rattle.spur_walk.specs.Laws.{is_served}
use Rattle.spur_walk.specs.Look.{look_of}
use Rattle.spur_walk.specs.Plan.{access_plan}
use Rattle.spur_walk.specs.Present.{MayWalk}
use Rattle.spur_walk.specs.Steps.{answer_of, stepped}

-- an entry of a step asks to own no block, or the access hits after it
abbrev pub MovedIsModest : Type 0
MovedIsModest = (caches : List (List (Option Line))) (memory : List ℕ) (b at : ℕ) (need : Need) (e : Entry)
    → MayWalk caches memory → b < length caches → at < table_start
    → answer_of b at (access_plan caches memory b at need) ≡ walked.Moved e
    → (is_modest None e ≡ true)
    ⊎ (look_of (line_of_block (stepped caches memory b at (access_plan caches memory b at need)) b at) need ≡ Hit)

-- where a fault that is served answers, a fill or a claim of the access's own is left
abbrev pub ServedFaultLeavesFetch : Type 0
ServedFaultLeavesFetch = (caches : List (List (Option Line))) (memory : List ℕ) (b at : ℕ) (need : Need)
    (kind : FaultKind) → is_served kind ≡ true → answer_of b at (access_plan caches memory b at need) ≡ walked.Fault kind
    → 1 ≤ fills_left (get_or caches b []) at need

-- where the block of the page's entry is found, at most two steps are left
abbrev pub FoundStepsAreFew : Type 0
FoundStepsAreFew = (own : List (Option Line)) (at : ℕ) (need : Need) (line : Line)
    → found own (entry_address_of at) ≡ Some line → steps_left own at need ≤ 2
