-- The entries that steps of the walk make.
use Rattle.std.proofs.Common.{◌≡◌, ℕ, ◌*◌, ◌^◌, ◌<◌, refl, subst, List, [], get_or, length, Option, Some, arith}
use Rattle.std.specs.Prelude.{⊤}
use Rattle.spur_addr.specs.Address.{block_start_of, entry_address_of}
use Rattle.spur_cache.specs.declared.line.Line.{Line}
use Rattle.spur_cache.specs.Lines.{IsCache, victim_of}
use Rattle.spur_snoop.specs.declared.Need.{Need}
use Rattle.spur_snoop.specs.declared.Need.TheVariants.{Read, Write}
use Rattle.spur_flat.specs.declared.entry.Entry.{Entry}
use Rattle.spur_flat.specs.declared.entry.Layer.{Layer}
use Rattle.spur_flat.specs.declared.entry.Layer.TheVariants.{RootBlock, PteBlock, UserBlock}
use Rattle.spur_bus.specs.declared.place.Place.{Place}
use Rattle.spur_walk.specs.declared.plan.Plan.{Plan}
use Rattle.spur_walk.specs.Plan.{page_plan, access_plan, filling}
use Rattle.spur_walk.specs.Steps.{answer_of}
use Rattle.spur_walk.proofs.PlannedFacts.{access_holds, filling_holds, page_holds}
use Rattle.spur_walk.proofs.PlanFacts.{own_cache, victim_small}
use Rattle.spur_flat.specs.declared.entry.Entry.TheVariants as entry
use Rattle.spur_walk.specs.declared.plan.Plan.TheVariants as plan
use Rattle.spur_walk.specs.declared.step.Walked.TheVariants as walked
use Rattle.spur_flat.specs.Formed.{IsMade}
use Rattle.spur_walk.specs.Made.{AccessIsMade, PageIsMade}
use Rattle.spur_flat.proofs.FormedFacts.{block_start_small, block_start_starts, entry_address_small}

-- the address of a plan is one of the machine's
abbrev pub IsLow : Plan → Type 0
IsLow (plan.Fill layer need at place) = at < 2 ^ 38
IsLow (plan.WriteBack at) = at < 2 ^ 38
IsLow other = ⊤

low_filling : (own : List (Option Line)) (layer : Layer) (need : Need) (at : ℕ) (place : Place) → IsCache own → at < 2 ^ 38 → IsLow (filling own layer need at place)
low_filling own layer need at place cache small =
    filling_holds IsLow own layer need at place
    (λ (line : Line) (is : victim_of own at ≡ Some line).
    let tag : line.tag < 2 ^ 33 = victim_small own at line cache is in
    let r : line.tag * 2 ^ 5 < 2 ^ 38 = omega arith in
    r)
    small

-- so it is in the plans towards an access, and towards the block of a page's entry
pub access_low : (caches : List (List (Option Line))) (memory : List ℕ) (b at : ℕ) (need : Need) → IsCache (get_or caches b []) → at < 2 ^ 38 → IsLow (access_plan caches memory b at need)
access_low caches memory b at need cache small =
    let own : List (Option Line) = get_or caches b [] in
    let entry : ℕ = entry_address_of at in
    access_holds IsLow caches memory b at need (record {
      ready = λ is. tt;
      fault = λ kind. tt;
      refresh = tt;
      claim = λ is. tt;
      user = λ place is. low_filling own UserBlock need at place cache small;
      table = λ place. low_filling own PteBlock Read entry place cache (entry_address_small at small);
      root = λ place. low_filling own RootBlock Read (entry_address_of entry) place cache (entry_address_small entry (entry_address_small at small));
    })

pub page_low : (caches : List (List (Option Line))) (memory : List ℕ) (b page : ℕ) → IsCache (get_or caches b []) → page < 2 ^ 38 → IsLow (page_plan caches memory b page)
page_low caches memory b page cache small =
    let own : List (Option Line) = get_or caches b [] in
    let entry : ℕ = entry_address_of page in
    page_holds IsLow caches memory b page (record {
      ready = λ line is alone. tt;
      claim = λ line is alone. tt;
      table = λ place is. low_filling own PteBlock Write entry place cache (entry_address_small page small);
      root = λ place. low_filling own RootBlock Read (entry_address_of entry) place cache (entry_address_small entry (entry_address_small page small));
    })

-- the entry of a plan
pub some_entry : (x e : Entry) → walked.Moved x ≡ walked.Moved e → x ≡ e
some_entry x e h = cc

pub bus_made : (b boards g : ℕ) (p : Plan) (e : Entry) → b < boards → g < 2 ^ 38 → IsLow p → answer_of b g p ≡ walked.Moved e → IsMade b boards e
bus_made b boards g plan.Ready e within small low is = cc
bus_made b boards g (plan.Fault kind) e within small low is = cc
bus_made b boards g plan.Refresh e within small low is =
    let made : IsMade b boards (entry.Refresh b (block_start_of g)) = record { board = refl; apart = λ (i : ℕ). refl; there = within; small = block_start_small g small; starts = block_start_starts g } in
    subst (IsMade b boards) (some_entry (entry.Refresh b (block_start_of g)) e is) made
bus_made b boards g plan.Claim e within small low is =
    let made : IsMade b boards (entry.Claim b (block_start_of g)) = record { board = refl; apart = λ (i : ℕ). refl; there = within; small = block_start_small g small; starts = block_start_starts g } in
    subst (IsMade b boards) (some_entry (entry.Claim b (block_start_of g)) e is) made
bus_made b boards g (plan.WriteBack at) e within small low is =
    let made : IsMade b boards (entry.WriteBack b (block_start_of at)) = record { board = refl; apart = λ (i : ℕ). refl; there = within; small = block_start_small at low; starts = block_start_starts at } in
    subst (IsMade b boards) (some_entry (entry.WriteBack b (block_start_of at)) e is) made
bus_made b boards g (plan.Fill layer need at place) e within small low is =
    let made : IsMade b boards (entry.Fill b layer need (block_start_of at)) = record { board = refl; apart = λ (i : ℕ). refl; there = within; small = block_start_small at low; starts = block_start_starts at } in
    subst (IsMade b boards) (some_entry (entry.Fill b layer need (block_start_of at)) e is) made

-- the entry of a step towards an access, and towards the block of a page's entry
pub access-made : AccessIsMade
access-made caches memory b at need e agree within user moved =
    let u : at < 255 * 2 ^ 30 = user in
    let small : at < 2 ^ 38 = omega arith in
    bus_made b (length caches) at (access_plan caches memory b at need) e within small (access_low caches memory b at need (own_cache caches b agree within) small) moved

pub page-made : PageIsMade
page-made caches memory b page e agree within user moved =
    let u : page < 255 * 2 ^ 30 = user in
    let small : page < 2 ^ 38 = omega arith in
    bus_made b (length caches) (entry_address_of page) (page_plan caches memory b page) e within (entry_address_small page small) (page_low caches memory b page (own_cache caches b agree within) small) moved
