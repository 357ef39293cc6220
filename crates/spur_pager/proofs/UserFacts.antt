-- Steps towards the entry of a page bring no line of a user's page.
use Rattle.std.proofs.Common.{◌≡◌, ◌∙◌, ℕ, ◌+◌, ◌*◌, ◌/◌, ◌^◌, ◌<◌, ◌≤◌, Bool, true, false, if◌then◌else◌, ap, sym, refl, subst, List, [], get_or, Option, Some, None, length, arith}
use Rattle.spur_addr.specs.Address.{block_of, entry_address_of, table_start}
use Rattle.spur_cache.specs.declared.line.Line.{Line}
use Rattle.spur_cache.specs.Lines.{found, victim_of}
use Rattle.spur_snoop.specs.declared.BlockState.{BlockState}
use Rattle.spur_snoop.specs.declared.BlockState.TheVariants.{OwnedExclusive, UnOwned}
use Rattle.spur_snoop.specs.declared.BusKind.{BusKind}
use Rattle.spur_snoop.specs.declared.BusKind.TheVariants as bus
use Rattle.spur_snoop.specs.declared.Need.{Need}
use Rattle.spur_snoop.specs.declared.Need.TheVariants.{Read, Write}
use Rattle.spur_snoop.specs.Protocol.{is_owned, is_exclusive}
use Rattle.spur_flat.specs.declared.entry.Layer.{Layer}
use Rattle.spur_flat.specs.declared.entry.Layer.TheVariants.{PteBlock, RootBlock}
use Rattle.spur_flat.specs.TagLines.{filled_state, kind_of}
use Rattle.spur_bus.specs.declared.place.Place.{Place}
use Rattle.spur_bus.specs.Agrees.{Agrees}
use Rattle.spur_bus.specs.Boards.{line_in, line_of_block}
use Rattle.spur_bus.specs.Calls.{read_line}
use Rattle.spur_bus.specs.Logical.{logical_block}
use Rattle.spur_bus.proofs.CallFacts.{is_here}
use Rattle.spur_bus.proofs.FromFacts.{From, Fresh, Mine, Other, from}
use Rattle.spur_walk.specs.declared.plan.Plan.{Plan}
use Rattle.spur_walk.specs.declared.plan.Plan.TheVariants as plan
use Rattle.spur_walk.specs.Plan.{fill_over, page_by, page_plan, root_place, table_place, where_found}
use Rattle.spur_bus.specs.Boards.{restated_line}
use Rattle.spur_walk.specs.Steps.{stepped}
use Rattle.spur_walk.specs.Tables.{block_address, logical_flat, root_at}
use Rattle.spur_pager.specs.Fetch.{WasThere}

-- what is filled towards an entry is no user's block
pub data IsTableFill : Plan → Type 0 where
  Fills : (layer : Layer) (need : Need) (at : ℕ) (place : Place) → table_start ≤ block_address (block_of at) → IsTableFill (plan.Fill layer need at place)
  WritesBack : (at : ℕ) → IsTableFill (plan.WriteBack at)
  Claims : IsTableFill plan.Claim
  Nothing : IsTableFill plan.Ready

entry_high : (at : ℕ) → table_start ≤ block_address (block_of (entry_address_of at))
entry_high at = let r : 255 * 2 ^ 30 ≤ (255 * 2 ^ 30 + 4 * (at / 2 ^ 12)) / 2 ^ 5 * 2 ^ 5 = omega arith in r

over : (o : Option Line) (layer : Layer) (need : Need) (at : ℕ) (place : Place) → table_start ≤ block_address (block_of at) → IsTableFill (fill_over o (plan.Fill layer need at place))
over None layer need at place high = Fills layer need at place high
over (Some line) layer need at place high = choose (is_owned line.state)
  where
    choose : (x : Bool) → IsTableFill (if x then plan.WriteBack (block_address line.tag) else plan.Fill layer need at place)
    choose true = WritesBack (block_address line.tag)
    choose false = Fills layer need at place high

page_fills : (own : List (Option Line)) (page : ℕ) (r : Option ℕ) (o : Option Line) → IsTableFill (page_by own page r o)
page_fills own page None None = over (victim_of own (entry_address_of (entry_address_of page))) RootBlock Read (entry_address_of (entry_address_of page)) (root_place (entry_address_of (entry_address_of page))) (entry_high (entry_address_of page))
page_fills own page (Some root) None = over (victim_of own (entry_address_of page)) PteBlock Write (entry_address_of page) (table_place root) (entry_high page)
page_fills own page r (Some line) = choose (is_exclusive line.state)
  where
    choose : (x : Bool) → IsTableFill (if x then plan.Ready else plan.Claim)
    choose true = Nothing
    choose false = Claims

-- lines after a transaction were there, where that holds of the own board's new one
from_was : (caches : List (List (Option Line))) (own block : ℕ) (kind : BusKind) (fresh : Line) (i s : ℕ) (l : Line) → (i ≡ own → l ≡ fresh → WasThere caches i l.tag) → From caches own block kind fresh i s l → WasThere caches i l.tag
from_was caches own block kind fresh i s l new (Fresh e is) = new e is
from_was caches own block kind fresh i s l new (Mine e apart there) = record { slot = s; line = l; there = there; tag_is = refl }
from_was caches own block kind fresh i s l new (Other old apart there came) = record { slot = s; line = old; there = there; tag_is = sym came.tag }

restated_was : (caches : List (List (Option Line))) (b g : ℕ) (kind : BusKind) (state : BlockState) (o : Option Line) (i s : ℕ) (l : Line) → Agrees caches → b < length caches → line_of_block caches b g ≡ o
    → line_in (restated_line caches b g kind state o) i s ≡ Some l → WasThere caches i l.tag
restated_was caches b g kind state None i s l agree within is h = record { slot = s; line = l; there = h; tag_is = refl }
restated_was caches b g kind state (Some line) i s l agree within is h =
    let here = is_here caches b g line within is in
    from_was caches b (block_of g) kind (record line { state = state }) i s l
    (λ (e : i ≡ b) (l_is : l ≡ record line { state = state }). record {
      slot = here.slot;
      line = line;
      there = ap (λ (n : ℕ). line_in caches n here.slot) e ∙ here.there;
      tag_is = sym (ap (λ (m : Line). m.tag) l_is);
    })
    (from caches b g kind (record line { state = state }) i s l agree here.tag h)

clash : (caches : List (List (Option Line))) (i at : ℕ) (l : Line) → table_start ≤ block_address (block_of at) → block_address l.tag < table_start → l.tag ≡ block_of at → WasThere caches i l.tag
clash caches i at l high low is =
    let h : table_start ≤ block_address l.tag = subst (λ (n : ℕ). table_start ≤ block_address n) (sym is) high in
    absurd (omega arith)

step_was : (caches : List (List (Option Line))) (memory : List ℕ) (b g : ℕ) (p : Plan) (i s : ℕ) (l : Line) → Agrees caches → b < length caches → IsTableFill p → block_address l.tag < table_start
    → line_in (stepped caches memory b g p) i s ≡ Some l → WasThere caches i l.tag
step_was caches memory b g (plan.Fill layer need at place) i s l agree within (Fills y n a q high) low h =
    let fresh : Line = read_line at (filled_state need) place (logical_block caches memory place.frame at) in
    from_was caches b (block_of at) (kind_of need) fresh i s l
    (λ (e : i ≡ b) (l_is : l ≡ fresh). clash caches i at l high low (ap (λ (m : Line). m.tag) l_is))
    (from caches b at (kind_of need) fresh i s l agree refl h)
step_was caches memory b g (plan.WriteBack at) i s l agree within (WritesBack a) low h = restated_was caches b at bus.WriteBack UnOwned (line_of_block caches b at) i s l agree within refl h
step_was caches memory b g plan.Claim i s l agree within Claims low h = restated_was caches b g bus.Claim OwnedExclusive (line_of_block caches b g) i s l agree within refl h
step_was caches memory b g plan.Ready i s l agree within Nothing low h = record { slot = s; line = l; there = h; tag_is = refl }
step_was caches memory b g plan.Refresh i s l agree within fills low h = elim fills [ ]
step_was caches memory b g (plan.Fault kind) i s l agree within fills low h = elim fills [ ]

-- a line of a user's page after a step towards an entry was there before
pub user_was : (caches after : List (List (Option Line))) (memory : List ℕ) (b g i s : ℕ) (l : Line) → Agrees caches → b < length caches → after ≡ stepped caches memory b (entry_address_of g) (page_plan caches memory b g)
    → block_address l.tag < table_start → line_in after i s ≡ Some l → WasThere caches i l.tag
user_was caches after memory b g i s l agree within is low h =
    let own : List (Option Line) = get_or caches b [] in
    step_was caches memory b (entry_address_of g) (page_plan caches memory b g) i s l agree within
    (page_fills own g (where_found (found own (entry_address_of (entry_address_of g))) (root_at (logical_flat caches memory) g)) (found own (entry_address_of g))) low
    (ap (λ (cs : List (List (Option Line))). line_in cs i s) (sym is) ∙ h)
