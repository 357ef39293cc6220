-- The state that stands at a call: the logical memory for the flat memory, and the tags of the caches.
use Rattle.std.specs.Prelude.{ℕ, ◌≡◌, ◌^◌, ◌<◌, ◌&&◌, ⊤, true, List, [], ◌∷◌, length, Option, None}
use Rattle.spur_addr.specs.Address.{block_start_of}
use Rattle.spur_addr.specs.PageEntry.{is_valid, is_leaving}
use Rattle.spur_cache.specs.declared.line.Line.{Line}
use Rattle.spur_snoop.specs.declared.Need.{Need}
use Rattle.spur_snoop.specs.Protocol.{is_owned, is_alive}
use Rattle.spur_flat.specs.declared.flat.Flat.{Flat}
use Rattle.spur_flat.specs.declared.entry.Layer.{Layer}
use Rattle.spur_flat.specs.declared.entry.Entry.{Entry}
use Rattle.spur_flat.specs.declared.entry.Entry.TheVariants.{Fill, Claim, WriteBack, Refresh, BlockFlush}
use Rattle.spur_flat.specs.Blocks.{entry_block, layer_of, is_layer}
use Rattle.spur_flat.specs.Needed.{lack_of}
use Rattle.spur_flat.specs.Pager.{word_of}
use Rattle.spur_flat.specs.State.{Beside, State, beside_on, step, IsCarried}
use Rattle.spur_flat.specs.TagLines as tag
use Rattle.spur_flat.specs.TagRules.{tags_refusal, table_refusal, may_claim}
use Rattle.spur_flat.specs.Laws.{address_of}
use Rattle.spur_flat.specs.Validity.{IsValidFlat}
use Rattle.spur_flat.specs.Untold.{IsCarriedUntold}
use Rattle.spur_bus.specs.Logical.{logical_words}
use Rattle.spur_bus.specs.Calls.{HasLine, MayRead, tags_of, line_count}

-- the flat state that stands: its words are the logical memory's. What caches and memory do not show is as in `rest`: the
-- swap, the declared pages, and the numbers of table pages and of data frames.
abbrev pub flat_of : Flat → List (List (Option Line)) → List ℕ → Flat
flat_of rest caches memory = record rest { words = logical_words caches memory }

-- the state that stands, with this beside memory and lines
abbrev pub state_of : Flat → List (List (Option Line)) → List ℕ → Beside → State
state_of rest caches memory beside =
    record { flat = flat_of rest caches memory; tags = tags_of caches; opened = beside.opened; lines = line_count caches }

-- an entry of the bus, or of a line's dirty copy: it changes no flat state, and each flat state allows it
abbrev pub IsOfBus : Entry → Type 0
IsOfBus (Fill board layer need at) = ⊤
IsOfBus (Claim board at) = ⊤
IsOfBus (WriteBack board at) = ⊤
IsOfBus (Refresh board at) = ⊤
IsOfBus (BlockFlush board holder at) = ⊤
IsOfBus _ = ⊥

-- a call led from caches and a memory to others, with an entry: the logical memory is kept, the caches have as many
-- lines, and in a flat state the tags move by the entry's tag step
pub record Moves (F : Flat) (before after : List (List (Option Line))) (old new : List ℕ) (entry : Entry) : Type 0 where
  pub logical : logical_words after new ≡ logical_words before old
  pub lines : line_count after ≡ line_count before
  pub tags : tags_of after ≡ tag.tags_on F (tags_of before) entry

-- such a call is one step of the state that stands: that of its entry
abbrev pub BusSteps : Type 0
BusSteps = (rest : Flat) (before after : List (List (Option Line))) (old new : List ℕ) (beside : Beside)
    (entry : Entry) → IsOfBus entry → Moves (flat_of rest before old) before after old new entry
    → state_of rest after new (beside_on beside entry) ≡ step (state_of rest before old beside) entry

-- and the piece of its one entry is carried from the state before it to the state after it, where the tags allow the
-- entry and the open entries need it
abbrev pub BusIsCarried : Type 0
BusIsCarried = (rest : Flat) (before after : List (List (Option Line))) (old new : List ℕ) (beside : Beside)
    (entry : Entry) → IsOfBus entry → Moves (flat_of rest before old) before after old new entry
    → tags_refusal (flat_of rest before old) (tags_of before) entry ≡ None
    → lack_of (line_count before) beside.opened entry ≡ None
    → IsCarried (state_of rest before old beside) (state_of rest after new (beside_on beside entry)) (entry ∷ [])

-- the same where the swap does not tell its pages, from a valid state: what is like it has the same tables, so the tags say
-- the same of the entry there
abbrev pub BusIsCarriedUntold : Type 0
BusIsCarriedUntold = (rest : Flat) (before after : List (List (Option Line))) (old new : List ℕ) (beside : Beside)
    (entry : Entry) → IsOfBus entry → address_of entry < 2 ^ 38 → IsValidFlat (flat_of rest before old)
    → Moves (flat_of rest before old) before after old new entry
    → tags_refusal (flat_of rest before old) (tags_of before) entry ≡ None
    → lack_of (line_count before) beside.opened entry ≡ None
    → IsCarriedUntold (state_of rest before old beside) (state_of rest after new (beside_on beside entry)) (entry ∷ [])

-- the tags allow the entry of a claim and of a write-back wherever the call may be made, in every flat state
abbrev pub ClaimIsTagged : Type 0
ClaimIsTagged = (F : Flat) (caches : List (List (Option Line))) (b g : ℕ) → b < length caches
    → HasLine caches b g may_claim → tags_refusal F (tags_of caches) (Claim b (block_start_of g)) ≡ None

abbrev pub WriteBackIsTagged : Type 0
WriteBackIsTagged = (F : Flat) (caches : List (List (Option Line))) (b g : ℕ) → b < length caches
    → HasLine caches b g is_owned → tags_refusal F (tags_of caches) (WriteBack b (block_start_of g)) ≡ None

-- they allow that of a read where moreover the address is of the layer, and the tables let the block be filled
abbrev pub ReadIsTagged : Type 0
ReadIsTagged = (F : Flat) (caches : List (List (Option Line))) (memory : List ℕ) (b g frame : ℕ) (layer : Layer) (need : Need)
    → b < length caches → MayRead caches memory b g frame
    → is_layer (layer_of (block_start_of g)) layer ≡ true
    → table_refusal F layer need (block_start_of g) (tag.block_state (tag.tag_at (tags_of caches) b (entry_block (block_start_of g)))) ≡ None
    → tags_refusal F (tags_of caches) (Fill b layer need (block_start_of g)) ≡ None

-- and that of a flush where moreover the block's page is leaving
abbrev pub FlushIsTagged : Type 0
FlushIsTagged = (F : Flat) (caches : List (List (Option Line))) (b holder g : ℕ) → holder < length caches
    → HasLine caches holder g is_alive → (is_valid (word_of F (block_start_of g)) && is_leaving (word_of F (block_start_of g))) ≡ true
    → tags_refusal F (tags_of caches) (BlockFlush b holder (block_start_of g)) ≡ None
