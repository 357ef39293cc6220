-- An entry of a step asks to own no block, or the access hits after it.
use Rattle.std.proofs.Common.{◌≡◌, ◌∙◌, ℕ, ◌<◌, ◌⊎◌, inl, inr, true, ap, refl, List, [], get_or, length, Option, None}
use Rattle.std.specs.Prelude.{⊤}
use Rattle.spur_addr.specs.Address.{block_start_of, entry_address_of, table_start}
use Rattle.spur_cache.specs.declared.line.Line.{Line}
use Rattle.spur_snoop.specs.declared.Need.{Need}
use Rattle.spur_snoop.specs.declared.Need.TheVariants.{Read, Write}
use Rattle.spur_flat.specs.declared.entry.Entry.{Entry}
use Rattle.spur_flat.specs.declared.entry.Entry.TheVariants as entry
use Rattle.spur_flat.specs.declared.entry.Layer.{Layer}
use Rattle.spur_flat.specs.declared.entry.Layer.TheVariants.{RootBlock, PteBlock, UserBlock}
use Rattle.spur_flat.specs.Needed.{is_modest}
use Rattle.spur_bus.specs.declared.place.Place.{Place}
use Rattle.spur_bus.specs.Boards.{line_of_block}
use Rattle.spur_walk.specs.declared.looked.Looked.TheVariants.{Hit}
use Rattle.spur_walk.specs.declared.plan.Plan.{Plan}
use Rattle.spur_walk.specs.declared.plan.Plan.TheVariants as plan
use Rattle.spur_walk.specs.declared.step.Walked.TheVariants as walked
use Rattle.spur_walk.specs.Look.{look_of}
use Rattle.spur_walk.specs.Plan.{access_plan, filling}
use Rattle.spur_walk.specs.Present.{MayWalk}
use Rattle.spur_walk.specs.Steps.{answer_of, stepped}
use Rattle.spur_walk.proofs.PlannedFacts.{access_holds, filling_holds}
use Rattle.spur_walk.proofs.ServeFacts.{own-hits}
use Rattle.spur_walk.specs.Fetches.{MovedIsModest}

-- a plan towards an access fills a block of the tables to be read alone
abbrev ReadsIn : Layer → Need → Type 0
ReadsIn RootBlock n = n ≡ Read
ReadsIn PteBlock n = n ≡ Read
ReadsIn UserBlock n = ⊤

abbrev ReadsTables : Plan → Type 0
ReadsTables plan.Ready = ⊤
ReadsTables (plan.Fault kind) = ⊤
ReadsTables plan.Refresh = ⊤
ReadsTables plan.Claim = ⊤
ReadsTables (plan.WriteBack g) = ⊤
ReadsTables (plan.Fill l n g place) = ReadsIn l n

reads_filling : (own : List (Option Line)) (l : Layer) (n : Need) (g : ℕ) (place : Place) → ReadsIn l n → ReadsTables (filling own l n g place)
reads_filling own l n g place reads = filling_holds ReadsTables own l n g place (λ line is. tt) reads

reads_tables : (caches : List (List (Option Line))) (memory : List ℕ) (b at : ℕ) (need : Need) → ReadsTables (access_plan caches memory b at need)
reads_tables caches memory b at need =
    let own : List (Option Line) = get_or caches b [] in
    access_holds ReadsTables caches memory b at need (record {
      ready = λ is. tt;
      fault = λ kind. tt;
      refresh = tt;
      claim = λ is. tt;
      user = λ place is. reads_filling own UserBlock need at place tt;
      table = λ place. reads_filling own PteBlock Read (entry_address_of at) place refl;
      root = λ place. reads_filling own RootBlock Read (entry_address_of (entry_address_of at)) place refl;
    })

-- an entry asks to own no block, or it is a claim or a fill of a user's block to be written
data Fetched (b : ℕ) (e : Entry) : Type 0 where
  Modest : is_modest None e ≡ true → Fetched b e
  Claims : (x : ℕ) → e ≡ entry.Claim b x → Fetched b e
  Fills : (x : ℕ) → e ≡ entry.Fill b UserBlock Write x → Fetched b e

some_entry : (a e : Entry) → walked.Moved a ≡ walked.Moved e → e ≡ a
some_entry a e h = cc

modest_as : (e a : Entry) → e ≡ a → is_modest None a ≡ true → is_modest None e ≡ true
modest_as e a is h = ap (is_modest None) is ∙ h

fetched : (b g : ℕ) (p : Plan) (e : Entry) → ReadsTables p → answer_of b g p ≡ walked.Moved e → Fetched b e
fetched b g plan.Ready e reads h = cc
fetched b g (plan.Fault kind) e reads h = cc
fetched b g plan.Refresh e reads h = Modest (modest_as e (entry.Refresh b (block_start_of g)) (some_entry (entry.Refresh b (block_start_of g)) e h) refl)
fetched b g plan.Claim e reads h = Claims (block_start_of g) (some_entry (entry.Claim b (block_start_of g)) e h)
fetched b g (plan.WriteBack at) e reads h = Modest (modest_as e (entry.WriteBack b (block_start_of at)) (some_entry (entry.WriteBack b (block_start_of at)) e h) refl)
fetched b g (plan.Fill l Read at place) e reads h = Modest (modest_as e (entry.Fill b l Read (block_start_of at)) (some_entry (entry.Fill b l Read (block_start_of at)) e h) refl)
fetched b g (plan.Fill RootBlock Write at place) e reads h = cc
fetched b g (plan.Fill PteBlock Write at place) e reads h = cc
fetched b g (plan.Fill UserBlock Write at place) e reads h = Fills (block_start_of at) (some_entry (entry.Fill b UserBlock Write (block_start_of at)) e h)

moved_fetched : (caches : List (List (Option Line))) (memory : List ℕ) (b at : ℕ) (need : Need) (e : Entry) → MayWalk caches memory → b < length caches → at < table_start → answer_of b at (access_plan caches memory b at need) ≡ walked.Moved e
    → Fetched b e → (is_modest None e ≡ true) ⊎ (look_of (line_of_block (stepped caches memory b at (access_plan caches memory b at need)) b at) need ≡ Hit)
moved_fetched caches memory b at need e may within user h (Modest is) = inl is
moved_fetched caches memory b at need e may within user h (Claims x is) = inr ((own-hits caches memory b at need may within user).claim x (h ∙ ap (λ (a : Entry). walked.Moved a) is))
moved_fetched caches memory b at need e may within user h (Fills x is) = inr ((own-hits caches memory b at need may within user).fill x (h ∙ ap (λ (a : Entry). walked.Moved a) is))

pub moved-modest : MovedIsModest
moved-modest caches memory b at need e may within user h =
    moved_fetched caches memory b at need e may within user h (fetched b at (access_plan caches memory b at need) e (reads_tables caches memory b at need) h)
