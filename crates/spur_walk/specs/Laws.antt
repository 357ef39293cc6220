-- Laws of the walk, over the plans and steps by which its calls are stated.
use Rattle.std.specs.Prelude.{ℕ, ◌≡◌, ◌<◌, ◌≤◌, ◌==◌, ◌↔◌, Bool, true, false, List, [], get_or, length, Option, Some, None, ◌^◌, ◌∷◌, replicate}
use Rattle.std.specs.List.{list_any}
use Rattle.spur_addr.specs.Address.{block_of, entry_address_of, is_aligned, table_start}
use Rattle.spur_addr.specs.PageEntry.{is_valid}
use Rattle.spur_cache.specs.declared.line.Line.{Line}
use Rattle.spur_cache.specs.Lines.{found, word_in}
use Rattle.spur_snoop.specs.declared.Need.{Need}
use Rattle.spur_snoop.specs.declared.Need.TheVariants.{Read, Write}
use Rattle.spur_snoop.specs.Size.{IsLineCount}
use Rattle.spur_flat.specs.declared.flat.Flat.{Flat}
use Rattle.spur_flat.specs.declared.access.AccessKind.{AccessKind}
use Rattle.spur_flat.specs.declared.access.AccessKind.TheVariants as access
use Rattle.spur_flat.specs.declared.access.FaultKind.{FaultKind}
use Rattle.spur_flat.specs.declared.access.FaultKind.TheVariants as fault
use Rattle.spur_flat.specs.declared.entry.Entry.{Entry}
use Rattle.spur_flat.specs.declared.entry.Entry.TheVariants as entry
use Rattle.spur_flat.specs.declared.entry.Layer.TheVariants.{UserBlock}
use Rattle.spur_flat.specs.Blocks.{access_blocks, board_of, entry_block, pager_blocks}
use Rattle.spur_flat.specs.History.{IsAllowed}
use Rattle.spur_flat.specs.Needed.{is_modest, is_of_use, lack_of}
use Rattle.spur_flat.specs.Laws.{address_of}
use Rattle.spur_flat.specs.State.{Beside, IsCarried, beside_on}
use Rattle.spur_flat.specs.Pager.{word_of}
use Rattle.spur_flat.specs.Table.{data_word}
use Rattle.spur_snoop.specs.Protocol.{is_exclusive}
use Rattle.spur_flat.specs.TagRules.{tags_refusal}
use Rattle.spur_flat.specs.Untold.{IsAllowedButValue, IsCarriedUntold, IsLike}
use Rattle.spur_flat.specs.Validity.{IsValidFlat}
use Rattle.spur_bus.specs.Boards.{line_of_block}
use Rattle.spur_bus.specs.Logical.{logical_words}
use Rattle.spur_bus.specs.Calls.{line_count, tags_of}
use Rattle.spur_bus.specs.Stand.{IsOfBus, flat_of, state_of}
use Rattle.spur_walk.specs.declared.looked.Looked.TheVariants.{Hit}
use Rattle.spur_walk.specs.declared.plan.Plan.{Plan}
use Rattle.spur_walk.specs.declared.step.Walked.TheVariants as walked
use Rattle.spur_walk.specs.Look.{look_of}
use Rattle.spur_walk.specs.Tables.{HasTables, HasTablesOf, logical_flat, root_at}
use Rattle.spur_walk.specs.Present.{ArePresent, MayWalk}
use Rattle.spur_walk.specs.Plan.{access_plan, page_plan, page_plan_of, plan_of}
use Rattle.spur_walk.specs.Steps.{HasBlock, Steps, answer_of, stepped, stepped_memory}
use Rattle.spur_walk.specs.Bounds.{fills_left, page_steps_left, steps_left}

-- an answer without an entry changes nothing
pub record IsStill (caches : List (List (Option Line))) (memory : List ℕ) (b g : ℕ) (step : Plan) : Type 0 where
  pub caches_stay : stepped caches memory b g step ≡ caches
  pub memory_stays : stepped_memory caches memory b step ≡ memory

abbrev pub ReadyIsStill : Type 0
ReadyIsStill = (caches : List (List (Option Line))) (memory : List ℕ) (b g : ℕ) (step : Plan) → answer_of b g step ≡ walked.Ready → IsStill caches memory b g step

abbrev pub FaultIsStill : Type 0
FaultIsStill = (caches : List (List (Option Line))) (memory : List ℕ) (b g : ℕ) (step : Plan) (kind : FaultKind) → answer_of b g step ≡ walked.Fault kind → IsStill caches memory b g step

-- an access is ready exactly where its cache says that it hits
abbrev pub ReadyIsHit : Type 0
ReadyIsHit = (own : List (Option Line)) (F : Flat) (b at : ℕ) (need : Need) → (answer_of b at (plan_of own F at need) ≡ walked.Ready) ↔ (look_of (found own at) need ≡ Hit)

-- the block of a page's entry is ready exactly where it is exclusive there
abbrev pub is_alone : Option Line → Bool
is_alone None = false
is_alone (Some line) = is_exclusive line.state

abbrev pub PageReadyIsExclusive : Type 0
PageReadyIsExclusive = (own : List (Option Line)) (F : Flat) (b page : ℕ)
    → (answer_of b (entry_address_of page) (page_plan_of own F page) ≡ walked.Ready) ↔ (is_alone (found own (entry_address_of page)) ≡ true)

-- and it has no fault
abbrev pub PageHasNoFault : Type 0
PageHasNoFault = (own : List (Option Line)) (F : Flat) (b page : ℕ) (kind : FaultKind) → answer_of b (entry_address_of page) (page_plan_of own F page) ≡ walked.Fault kind → ⊥

-- What an access needs of the caches and of the memory for its answer to be right: that the walk may be done, and that the
-- lines are of present pages.
pub record IsStanding (caches : List (List (Option Line))) (memory : List ℕ) (b at : ℕ) : Type 0 where
  pub walk : MayWalk caches memory
  pub present : ArePresent (logical_flat caches memory) caches
  pub own : b < length caches
  pub user : at < table_start

-- An entry may follow: the flat state that stands allows it, whatever the swap; each flat state with its root and table
-- words allows it but for the value that it read; and the tags do.
pub record MayStand (caches : List (List (Option Line))) (memory : List ℕ) (e : Entry) : Type 0 where
  pub told : (rest : Flat) → IsAllowed (flat_of rest caches memory) e
  pub untold : (F : Flat) → HasTablesOf F (logical_words caches memory) → IsAllowedButValue F e
  pub tagged : (F : Flat) → tags_refusal F (tags_of caches) e ≡ None

-- what an access needs of its block
abbrev pub need_of : AccessKind → Need
need_of access.Load = Read
need_of access.Store = Write
need_of access.Tas = Write

-- the entry of an access that was done, where the word was `word` and a store writes `value`
abbrev pub done_entry : AccessKind → ℕ → ℕ → ℕ → ℕ → Entry
done_entry access.Load b at word value = entry.Load b at word
done_entry access.Store b at word value = entry.Store b at value
done_entry access.Tas b at word value = entry.Tas b at word

-- the fault that answers an aligned access may stand in the history
abbrev pub FaultMayStand : Type 0
FaultMayStand = (caches : List (List (Option Line))) (memory : List ℕ) (b at : ℕ) (kind : AccessKind) (why : FaultKind) → IsStanding caches memory b at → is_aligned at ≡ true
    → answer_of b at (access_plan caches memory b at (need_of kind)) ≡ walked.Fault why → MayStand caches memory (entry.Fault b why kind at)

-- and so may the aligned access itself where it is ready, with the logical memory's word
abbrev pub ReadyMayStand : Type 0
ReadyMayStand = (caches : List (List (Option Line))) (memory : List ℕ) (b at value : ℕ) (kind : AccessKind) → IsStanding caches memory b at → is_aligned at ≡ true
    → answer_of b at (access_plan caches memory b at (need_of kind)) ≡ walked.Ready → MayStand caches memory (done_entry kind b at (data_word (logical_flat caches memory) at) value)

-- which is the word that the line has
abbrev pub ReadyHasTheWord : Type 0
ReadyHasTheWord = (caches : List (List (Option Line))) (memory : List ℕ) (b at : ℕ) (need : Need) → MayWalk caches memory → b < length caches → at < table_start
    → answer_of b at (access_plan caches memory b at need) ≡ walked.Ready → word_in (line_of_block caches b at) at ≡ data_word (logical_flat caches memory) at

-- after the block of an access was claimed, or filled for a write, the access hits
pub record HitsAfter (caches : List (List (Option Line))) (memory : List ℕ) (b at : ℕ) (need : Need) : Type 0 where
  pub claim : (x : ℕ) → answer_of b at (access_plan caches memory b at need) ≡ walked.Moved (entry.Claim b x)
      → look_of (line_of_block (stepped caches memory b at (access_plan caches memory b at need)) b at) need ≡ Hit
  pub fill : (x : ℕ) → answer_of b at (access_plan caches memory b at need) ≡ walked.Moved (entry.Fill b UserBlock Write x)
      → look_of (line_of_block (stepped caches memory b at (access_plan caches memory b at need)) b at) need ≡ Hit

abbrev pub OwnBlockHits : Type 0
OwnBlockHits = (caches : List (List (Option Line))) (memory : List ℕ) (b at : ℕ) (need : Need) → MayWalk caches memory → b < length caches → at < table_start → HitsAfter caches memory b at need

-- whether an entry, where it is a Refresh, is of one of these blocks
abbrev pub is_refreshed : List ℕ → Entry → Bool
is_refreshed blocks (entry.Refresh b at) = list_any (λ block. block == block_of at) blocks
is_refreshed blocks _ = true

-- An entry that a step of board b made is the bus's. It serves: it is of one of these blocks or, as a write-back, of one
-- on the line of one; and a claim, or a fill for a write, is of the one block that may be owned.
pub record IsServing (b lines : ℕ) (blocks : List ℕ) (owned : Option ℕ) (e : Entry) : Type 0 where
  pub board : board_of e ≡ b
  pub bus : IsOfBus e
  pub useful : is_of_use lines blocks e ≡ true
  pub refreshed : is_refreshed blocks e ≡ true
  pub modest : is_modest owned e ≡ true

abbrev pub owned_for : Need → ℕ → Option ℕ
owned_for Read at = None
owned_for Write at = Some (block_of at)

abbrev pub AccessIsServed : Type 0
AccessIsServed = (caches : List (List (Option Line))) (memory : List ℕ) (b at : ℕ) (need : Need) (e : Entry) → MayWalk caches memory → b < length caches → at < table_start
    → answer_of b at (access_plan caches memory b at need) ≡ walked.Moved e → IsServing b (line_count caches) (access_blocks at) (owned_for need at) e

abbrev pub PageIsServed : Type 0
PageIsServed = (caches : List (List (Option Line))) (memory : List ℕ) (b page : ℕ) (e : Entry) → MayWalk caches memory → b < length caches → page < table_start
    → is_valid (root_at (logical_flat caches memory) page) ≡ true
    → answer_of b (entry_address_of page) (page_plan caches memory b page) ≡ walked.Moved e → IsServing b (line_count caches) (pager_blocks page) (Some (entry_block page)) e

-- Bounds for a caller who repeats a step. At most six steps are left, and at most three fills and claims; where the block
-- of the page's entry is there, at most one of these.
pub record AreFew (own : List (Option Line)) (at : ℕ) (need : Need) : Type 0 where
  pub steps : steps_left own at need ≤ 6
  pub fills : fills_left own at need ≤ 3
  pub found_fills : (line : Line) → found own (entry_address_of at) ≡ Some line → fills_left own at need ≤ 1

abbrev pub StepsAreFew : Type 0
StepsAreFew = (own : List (Option Line)) (at : ℕ) (need : Need) → AreFew own at need

-- whether an entry is a fill or a claim
abbrev pub is_fetch : Entry → Bool
is_fetch (entry.Fill b layer need at) = true
is_fetch (entry.Claim b at) = true
is_fetch _ = false

-- with each step fewer steps are left, with each fill or claim fewer of these, and with other steps not more of these
pub record FallsBy (before after : List (Option Line)) (at : ℕ) (need : Need) (e : Entry) : Type 0 where
  pub steps : steps_left after at need < steps_left before at need
  pub fills : fills_left after at need ≤ fills_left before at need
  pub fetches : is_fetch e ≡ true → fills_left after at need < fills_left before at need

abbrev pub StepsFall : Type 0
StepsFall = (caches : List (List (Option Line))) (memory : List ℕ) (b at : ℕ) (need : Need) (e : Entry) → MayWalk caches memory → b < length caches → at < table_start
    → answer_of b at (access_plan caches memory b at need) ≡ walked.Moved e
    → FallsBy (get_or caches b []) (get_or (stepped caches memory b at (access_plan caches memory b at need)) b []) at need e

-- and for a page's entry at most four, and at most one where its block is there
pub record PageAreFew (own : List (Option Line)) (page : ℕ) : Type 0 where
  pub steps : page_steps_left own page ≤ 4
  pub found_steps : (line : Line) → found own (entry_address_of page) ≡ Some line → page_steps_left own page ≤ 1

abbrev pub PageStepsAreFew : Type 0
PageStepsAreFew = (own : List (Option Line)) (page : ℕ) → PageAreFew own page

abbrev pub PageStepsFall : Type 0
PageStepsFall = (caches : List (List (Option Line))) (memory : List ℕ) (b page : ℕ) (e : Entry) → MayWalk caches memory → b < length caches → page < table_start
    → answer_of b (entry_address_of page) (page_plan caches memory b page) ≡ walked.Moved e
    → page_steps_left (get_or (stepped caches memory b (entry_address_of page) (page_plan caches memory b page)) b []) page < page_steps_left (get_or caches b []) page

-- the tables of a flat state that stands and is valid can be walked, and each flat state that is like it has them
abbrev pub ValidHasTables : Type 0
ValidHasTables = (rest : Flat) (caches : List (List (Option Line))) (memory : List ℕ) → IsValidFlat (flat_of rest caches memory) → HasTables (logical_flat caches memory)

abbrev pub LikeHasTables : Type 0
LikeHasTables = (rest F : Flat) (caches : List (List (Option Line))) (memory : List ℕ) → IsValidFlat (flat_of rest caches memory) → IsLike F (flat_of rest caches memory) → HasTablesOf F (logical_words caches memory)

-- The entry of a step is carried, from the state that stands before the step to the one that stands after it, where the
-- open entries need it. So it is where the swap does not tell its pages, from a valid state.
abbrev pub StepIsCarried : Type 0
StepIsCarried = (rest : Flat) (before after : List (List (Option Line))) (old new : List ℕ) (b g : ℕ) (step : Plan)
    (beside : Beside) (e : Entry) → Steps before old b g step after new → answer_of b g step ≡ walked.Moved e
    → lack_of (line_count before) beside.opened e ≡ None
    → IsCarried (state_of rest before old beside) (state_of rest after new (beside_on beside e)) (e ∷ [])

abbrev pub StepIsCarriedUntold : Type 0
StepIsCarriedUntold = (rest : Flat) (before after : List (List (Option Line))) (old new : List ℕ) (b g : ℕ) (step : Plan)
    (beside : Beside) (e : Entry) → Steps before old b g step after new → answer_of b g step ≡ walked.Moved e
    → lack_of (line_count before) beside.opened e ≡ None
    → IsValidFlat (flat_of rest before old) → address_of e < 2 ^ 38
    → IsCarriedUntold (state_of rest before old beside) (state_of rest after new (beside_on beside e)) (e ∷ [])

-- Empty caches and a memory with the words of a valid flat state: the walk may begin.
pub record CanBegin (caches : List (List (Option Line))) (memory : List ℕ) : Type 0 where
  pub walk : MayWalk caches memory
  pub present : ArePresent (logical_flat caches memory) caches
  pub logical : logical_words caches memory ≡ memory

abbrev pub EmptyMayWalk : Type 0
EmptyMayWalk = (rest : Flat) (n k : ℕ) (memory : List ℕ) → 1 ≤ n → n ≤ 12 → IsLineCount k → IsValidFlat (record rest { words = memory }) → CanBegin (replicate n (replicate k None)) memory

-- where a fault that is served answers, the block of the page's entry is found
abbrev pub is_served : FaultKind → Bool
is_served fault.Align = false
is_served fault.Unmapped = false
is_served fault.Missing = true
is_served fault.Leaving = true
is_served fault.Protection = false
is_served fault.Reference = true
is_served fault.Dirty = true

abbrev pub ServedFaultFindsEntry : Type 0
ServedFaultFindsEntry = (caches : List (List (Option Line))) (memory : List ℕ) (b at : ℕ) (need : Need) (kind : FaultKind) → is_served kind ≡ true
    → answer_of b at (access_plan caches memory b at need) ≡ walked.Fault kind → HasBlock caches b (entry_address_of at)

-- and where it is found, its line has the word that the tables have for the page
abbrev pub FoundEntryIsTheTables : Type 0
FoundEntryIsTheTables = (caches : List (List (Option Line))) (memory : List ℕ) (b at : ℕ) → MayWalk caches memory → b < length caches → at < table_start
    → HasBlock caches b (entry_address_of at) → word_in (line_of_block caches b (entry_address_of at)) (entry_address_of at) ≡ word_of (logical_flat caches memory) at
