-- What holds of each kind of step holds of a plan.
use Rattle.std.proofs.Common.{◌≡◌, ℕ, Bool, true, false, if◌then◌else◌, refl, List, [], get_or, Option, Some, None}
use Rattle.spur_addr.specs.Address.{entry_address_of}
use Rattle.spur_addr.specs.PageEntry.{is_dirty, is_leaving, is_valid}
use Rattle.spur_cache.specs.declared.line.Line.{Line}
use Rattle.spur_cache.specs.Lines.{found, victim_of}
use Rattle.spur_snoop.specs.declared.Need.{Need}
use Rattle.spur_snoop.specs.declared.Need.TheVariants.{Read, Write}
use Rattle.spur_snoop.specs.Protocol.{is_owned, is_exclusive}
use Rattle.spur_flat.specs.declared.access.FaultKind.{FaultKind}
use Rattle.spur_flat.specs.declared.access.FaultKind.TheVariants as fault
use Rattle.spur_flat.specs.declared.entry.Layer.{Layer}
use Rattle.spur_flat.specs.declared.entry.Layer.TheVariants.{RootBlock, PteBlock, UserBlock}
use Rattle.spur_flat.specs.Pager.{word_of}
use Rattle.spur_bus.specs.declared.place.Place.{Place}
use Rattle.spur_walk.specs.declared.looked.Looked.{Looked}
use Rattle.spur_walk.specs.declared.looked.Looked.TheVariants.{Hit, Denied, NeedsDirty, NeedsClaim, Miss}
use Rattle.spur_walk.specs.declared.plan.Plan.{Plan}
use Rattle.spur_walk.specs.declared.plan.Plan.TheVariants as plan
use Rattle.spur_walk.specs.Look.{look_of}
use Rattle.spur_walk.specs.Plan.{access_plan, climb, fault_of, fault_or, fill_over, filling, page_by, page_plan, plan_by, root_place, table_place, user_place, where_found}
use Rattle.spur_walk.specs.Tables.{block_address, logical_flat, root_at}

-- a block is filled, or first what stands on its place is written back
holds_if : (P : Plan → Type 0) (layer : Layer) (need : Need) (g : ℕ) (place : Place) (line : Line) (back : Bool) → P (plan.WriteBack (block_address line.tag)) → P (plan.Fill layer need g place)
    → P (if back then plan.WriteBack (block_address line.tag) else plan.Fill layer need g place)
holds_if P layer need g place line true backs fills = backs
holds_if P layer need g place line false backs fills = fills

holds_over : (P : Plan → Type 0) (layer : Layer) (need : Need) (g : ℕ) (place : Place) (o : Option Line) → ((line : Line) → o ≡ Some line → P (plan.WriteBack (block_address line.tag))) → P (plan.Fill layer need g place)
    → P (fill_over o (plan.Fill layer need g place))
holds_over P layer need g place None backs fills = fills
holds_over P layer need g place (Some line) backs fills = holds_if P layer need g place line (is_owned line.state) (backs line refl) fills

pub filling_holds : (P : Plan → Type 0) (own : List (Option Line)) (layer : Layer) (need : Need) (g : ℕ) (place : Place)
    → ((line : Line) → victim_of own g ≡ Some line → P (plan.WriteBack (block_address line.tag))) → P (plan.Fill layer need g place) → P (filling own layer need g place)
filling_holds P own layer need g place backs fills = holds_over P layer need g place (victim_of own g) backs fills

-- each kind of step towards an access of which the cache says this
pub record HoldsOfSteps (P : Plan → Type 0) (own : List (Option Line)) (at : ℕ) (need : Need) (looked : Looked) : Type 0 where
  pub ready : looked ≡ Hit → P plan.Ready
  pub fault : (kind : FaultKind) → P (plan.Fault kind)
  pub refresh : P plan.Refresh
  pub claim : looked ≡ NeedsClaim → P plan.Claim
  pub user : (place : Place) → looked ≡ Miss → P (filling own UserBlock need at place)
  pub table : (place : Place) → P (filling own PteBlock Read (entry_address_of at) place)
  pub root : (place : Place) → P (filling own RootBlock Read (entry_address_of (entry_address_of at)) place)

holds_climb : (P : Plan → Type 0) (own : List (Option Line)) (at : ℕ) (need : Need) (looked : Looked) (r : Option ℕ) → HoldsOfSteps P own at need looked → P (climb own at r)
holds_climb P own at need looked None steps = steps.root (root_place (entry_address_of (entry_address_of at)))
holds_climb P own at need looked (Some root) steps = choose (is_valid root)
  where
    choose : (valid : Bool) → P (if valid then filling own PteBlock Read (entry_address_of at) (table_place root) else plan.Fault fault.Unmapped)
    choose true = steps.table (table_place root)
    choose false = steps.fault fault.Unmapped

holds_dirty : (P : Plan → Type 0) (own : List (Option Line)) (at : ℕ) (need : Need) (looked : Looked) (leaving dirty : Bool) → HoldsOfSteps P own at need looked
    → P (if leaving then plan.Fault fault.Leaving else if dirty then plan.Refresh else plan.Fault fault.Dirty)
holds_dirty P own at need looked true dirty steps = steps.fault fault.Leaving
holds_dirty P own at need looked false true steps = steps.refresh
holds_dirty P own at need looked false false steps = steps.fault fault.Dirty

holds_user : (P : Plan → Type 0) (own : List (Option Line)) (at : ℕ) (need : Need) (place : Place) (o : Option FaultKind) → HoldsOfSteps P own at need Miss → P (fault_or o (filling own UserBlock need at place))
holds_user P own at need place None steps = steps.user place refl
holds_user P own at need place (Some kind) steps = steps.fault kind

holds_by : (P : Plan → Type 0) (own : List (Option Line)) (at : ℕ) (need : Need) (e r : Option ℕ) (looked : Looked) → HoldsOfSteps P own at need looked → P (plan_by own at need e r looked)
holds_by P own at need e r Hit steps = steps.ready refl
holds_by P own at need e r Denied steps = steps.fault fault.Protection
holds_by P own at need e r NeedsClaim steps = steps.claim refl
holds_by P own at need None r NeedsDirty steps = holds_climb P own at need NeedsDirty r steps
holds_by P own at need (Some w) r NeedsDirty steps = holds_dirty P own at need NeedsDirty (is_leaving w) (is_dirty w) steps
holds_by P own at need None r Miss steps = holds_climb P own at need Miss r steps
holds_by P own at need (Some w) r Miss steps = holds_user P own at need (user_place w) (fault_of w need) steps

pub access_holds : (P : Plan → Type 0) (caches : List (List (Option Line))) (memory : List ℕ) (b at : ℕ) (need : Need) → HoldsOfSteps P (get_or caches b []) at need (look_of (found (get_or caches b []) at) need)
    → P (access_plan caches memory b at need)
access_holds P caches memory b at need steps =
    let own : List (Option Line) = get_or caches b [] in
    holds_by P own at need (where_found (found own (entry_address_of at)) (word_of (logical_flat caches memory) at)) (where_found (found own (entry_address_of (entry_address_of at))) (root_at (logical_flat caches memory) at))
    (look_of (found own at) need) steps

-- each kind of step towards the block of a page's entry, of which this is the line
pub record HoldsOfPageSteps (P : Plan → Type 0) (own : List (Option Line)) (page : ℕ) (o : Option Line) : Type 0 where
  pub ready : (line : Line) → o ≡ Some line → is_exclusive line.state ≡ true → P plan.Ready
  pub claim : (line : Line) → o ≡ Some line → is_exclusive line.state ≡ false → P plan.Claim
  pub table : (place : Place) → o ≡ None → P (filling own PteBlock Write (entry_address_of page) place)
  pub root : (place : Place) → P (filling own RootBlock Read (entry_address_of (entry_address_of page)) place)

holds_page : (P : Plan → Type 0) (own : List (Option Line)) (page : ℕ) (r : Option ℕ) (o : Option Line) → HoldsOfPageSteps P own page o → P (page_by own page r o)
holds_page P own page None None steps = steps.root (root_place (entry_address_of (entry_address_of page)))
holds_page P own page (Some root) None steps = steps.table (table_place root) refl
holds_page P own page r (Some line) steps = choose (is_exclusive line.state) refl
  where
    choose : (alone : Bool) → is_exclusive line.state ≡ alone → P (if alone then plan.Ready else plan.Claim)
    choose true is = steps.ready line refl is
    choose false is = steps.claim line refl is

pub page_holds : (P : Plan → Type 0) (caches : List (List (Option Line))) (memory : List ℕ) (b page : ℕ) → HoldsOfPageSteps P (get_or caches b []) page (found (get_or caches b []) (entry_address_of page))
    → P (page_plan caches memory b page)
page_holds P caches memory b page steps =
    let own : List (Option Line) = get_or caches b [] in
    holds_page P own page (where_found (found own (entry_address_of (entry_address_of page))) (root_at (logical_flat caches memory) page)) (found own (entry_address_of page)) steps
