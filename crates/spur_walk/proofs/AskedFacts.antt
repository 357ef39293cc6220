-- What the walk asks of the bus is what the protocol's table says.
use Rattle.std.proofs.Common.{◌≡◌, ◌≢◌, ◌∙◌, ℕ, ◌&&◌, ◌||◌, Bool, true, false, not, if◌then◌else◌, ap, sym, refl, subst, List, [], get_or, Option, Some, None}
use Rattle.spur_addr.specs.Address.{entry_address_of}
use Rattle.spur_cache.specs.declared.line.Line.{Line}
use Rattle.spur_cache.specs.Lines.{IsCache, found}
use Rattle.spur_cache.proofs.CacheFacts.{found_held, found_tag}
use Rattle.spur_snoop.specs.declared.BlockState.{BlockState}
use Rattle.spur_snoop.specs.declared.BlockState.TheVariants.{Invalid, OwnedExclusive, OwnedNonExclusive, UnOwned}
use Rattle.spur_snoop.specs.declared.BusKind.{BusKind}
use Rattle.spur_snoop.specs.declared.BusKind.TheVariants as bus
use Rattle.spur_snoop.specs.declared.BusWant.{BusWant}
use Rattle.spur_snoop.specs.declared.BusWant.TheVariants as want
use Rattle.spur_snoop.specs.declared.Need.{Need}
use Rattle.spur_snoop.specs.declared.Need.TheVariants.{Read, Write}
use Rattle.spur_snoop.specs.Protocol.{asked_of, is_alive, is_exclusive}
use Rattle.spur_flat.specs.declared.entry.Layer.{Layer}
use Rattle.spur_flat.specs.declared.entry.Layer.TheVariants.{RootBlock, PteBlock, UserBlock}
use Rattle.spur_flat.specs.Access.{grants}
use Rattle.spur_flat.specs.TagLines.{filled_state, kind_of}
use Rattle.spur_flat.specs.TagRules.{access_of, is_read}
use Rattle.spur_bus.specs.declared.place.Place.{Place}
use Rattle.spur_bus.specs.Boards.{line_of_block, restated_line}
use Rattle.spur_bus.specs.Calls.{read_line}
use Rattle.spur_bus.specs.Logical.{logical_block}
use Rattle.spur_walk.specs.declared.looked.Looked.TheVariants.{Hit, Denied, NeedsDirty, NeedsClaim, Miss}
use Rattle.spur_walk.specs.declared.plan.Plan.{Plan}
use Rattle.spur_walk.specs.declared.plan.Plan.TheVariants as plan
use Rattle.spur_walk.specs.Look.{look_of}
use Rattle.spur_walk.specs.Steps.{stepped}
use Rattle.spur_walk.specs.Tables.{block_address, logical_flat, root_at}
use Rattle.spur_walk.specs.Asked.{AsksAsTheTable, FoundPlanIsTheTables, IsCalled, LookIsTheTables, PagePlanIsTheTables, PlanIsTheTables, asked_by, asked_kind, filled_for, line_state, looked_for, made_state}
use Rattle.spur_walk.proofs.PlannedFacts.{access_holds, filling_holds, page_holds}
use Rattle.spur_walk.proofs.PlanFacts.{Answers, Reads, Shares, Writes, answers_as, own_cache}
use Rattle.spur_walk.specs.Plan.{plan_by, where_found}
use Rattle.spur_flat.specs.Pager.{word_of}
use Rattle.spur_walk.specs.declared.looked.Looked.{Looked}

-- where the block's state decides, what a cache says is by the table
looks_to_read : (state : BlockState) (granted dirty : Bool) → (is_alive state && granted && (dirty || true)) ≡ true → (if not granted then Denied else Hit) ≡ looked_for (asked_of state Read)
looks_to_read Invalid granted dirty h = cc
looks_to_read UnOwned true dirty h = refl
looks_to_read UnOwned false dirty h = cc
looks_to_read OwnedNonExclusive true dirty h = refl
looks_to_read OwnedNonExclusive false dirty h = cc
looks_to_read OwnedExclusive true dirty h = refl
looks_to_read OwnedExclusive false dirty h = cc

looks_to_write : (state : BlockState) (granted dirty : Bool) → (is_alive state && granted && (dirty || false)) ≡ true
    → (if not granted then Denied else if not dirty then NeedsDirty else if not (is_exclusive state) then NeedsClaim else Hit) ≡ looked_for (asked_of state Write)
looks_to_write Invalid granted dirty h = cc
looks_to_write UnOwned true true h = refl
looks_to_write UnOwned true false h = cc
looks_to_write UnOwned false dirty h = cc
looks_to_write OwnedNonExclusive true true h = refl
looks_to_write OwnedNonExclusive true false h = cc
looks_to_write OwnedNonExclusive false dirty h = cc
looks_to_write OwnedExclusive true true h = refl
looks_to_write OwnedExclusive true false h = cc
looks_to_write OwnedExclusive false dirty h = cc

pub look-is-the-tables : LookIsTheTables
look-is-the-tables None Read h = refl
look-is-the-tables None Write h = refl
look-is-the-tables (Some line) Read h = looks_to_read line.state (grants line.prot (access_of Read)) line.dirty h
look-is-the-tables (Some line) Write h = looks_to_write line.state (grants line.prot (access_of Write)) line.dirty h

-- where a line is there, the table asks for no words
data IsOfFound : BusWant → Type 0 where
  ForNothing : IsOfFound want.Nothing
  ForClaim : IsOfFound want.Claim

of_found : (state : BlockState) (need : Need) → is_alive state ≡ true → IsOfFound (asked_of state need)
of_found Invalid need h = absurd cc
of_found UnOwned Read h = ForNothing
of_found UnOwned Write h = ForClaim
of_found OwnedNonExclusive Read h = ForNothing
of_found OwnedNonExclusive Write h = ForClaim
of_found OwnedExclusive Read h = ForNothing
of_found OwnedExclusive Write h = ForNothing

alive_if : (alive granted dirty : Bool) → (alive && granted && dirty) ≡ true → alive ≡ true
alive_if true granted dirty h = refl
alive_if false granted dirty h = cc

found_by : (own : List (Option Line)) (at : ℕ) (need : Need) (e r : Option ℕ) (asked : BusWant) → IsOfFound asked → asked_by UserBlock (plan_by own at need e r (looked_for asked)) ≡ Some asked
found_by own at need e r want.Nothing ForNothing = refl
found_by own at need e r want.Claim ForClaim = refl
found_by own at need e r want.ReadShared found = elim found [ ]
found_by own at need e r want.ReadOwned found = elim found [ ]

pub found-plan-is-the-tables : FoundPlanIsTheTables
found-plan-is-the-tables caches memory b at need line is decides =
    let own : List (Option Line) = get_or caches b [] in
    let e : Option ℕ = where_found (found own (entry_address_of at)) (word_of (logical_flat caches memory) at) in
    let r : Option ℕ = where_found (found own (entry_address_of (entry_address_of at))) (root_at (logical_flat caches memory) at) in
    let looked : look_of (found own at) need ≡ looked_for (asked_of line.state need) = ap (λ (o : Option Line). look_of o need) is ∙ look-is-the-tables (Some line) need decides in
    ap (λ (k : Looked). asked_by UserBlock (plan_by own at need e r k)) looked
    ∙ found_by own at need e r (asked_of line.state need) (of_found line.state need (alive_if (is_alive line.state) (grants line.prot (access_of need)) (line.dirty || is_read need) decides))

-- the table, by the state
nothing_to_read : (state : BlockState) → state ≢ Invalid → asked_of state Read ≡ want.Nothing
nothing_to_read Invalid valid = absurd (valid refl)
nothing_to_read UnOwned valid = refl
nothing_to_read OwnedNonExclusive valid = refl
nothing_to_read OwnedExclusive valid = refl

nothing_to_write : (state : BlockState) → is_exclusive state ≡ true → asked_of state Write ≡ want.Nothing
nothing_to_write Invalid h = cc
nothing_to_write UnOwned h = cc
nothing_to_write OwnedNonExclusive h = cc
nothing_to_write OwnedExclusive h = refl

claim_to_write : (state : BlockState) → is_exclusive state ≡ false → state ≢ Invalid → asked_of state Write ≡ want.Claim
claim_to_write Invalid h valid = absurd (valid refl)
claim_to_write UnOwned h valid = refl
claim_to_write OwnedNonExclusive h valid = refl
claim_to_write OwnedExclusive h valid = cc

-- and by what the cache says of the access
hit_asks : (line : Line) (need : Need) → line.state ≢ Invalid → Answers line need Hit → asked_of line.state need ≡ want.Nothing
hit_asks line Read valid (Reads granted) = nothing_to_read line.state valid
hit_asks line Write valid (Writes granted dirty exclusive) = nothing_to_write line.state exclusive

claim_asks : (line : Line) (need : Need) → line.state ≢ Invalid → Answers line need NeedsClaim → asked_of line.state need ≡ want.Claim
claim_asks line Write valid (Shares granted dirty exclusive) = claim_to_write line.state exclusive valid
claim_asks line Read valid answer = elim answer [ ]

hit_asked : (own : List (Option Line)) (at : ℕ) (need : Need) (o : Option Line) → IsCache own → found own at ≡ o → look_of o need ≡ Hit → asked_of (line_state o) need ≡ want.Nothing
hit_asked own at need None cache is seen = cc
hit_asked own at need (Some line) cache is seen = hit_asks line need (found_held own at line cache is).valid (answers_as line need Hit seen)

-- a block that is missed is not there
never_missed : (line : Line) (need : Need) → Answers line need Miss → ⊥
never_missed line Read answer = elim answer [ ]
never_missed line Write answer = elim answer [ ]

missed : (o : Option Line) (need : Need) → look_of o need ≡ Miss → o ≡ None
missed None need seen = refl
missed (Some line) need seen = absurd (never_missed line need (answers_as line need Miss seen))

-- what a step does for the block that its plan is made for
some_want : (v w : BusWant) → Some v ≡ Some w → v ≡ w
some_want v w h = cc

no_want : (o : Option BusWant) (w : BusWant) → o ≡ None → o ≡ Some w → ⊥
no_want o w none some = let clash : None ≡ Some w = sym none ∙ some in cc

some_kind : (k l : BusKind) → Some k ≡ Some l → k ≡ l
some_kind k l h = cc

no_kind : (k : BusKind) → None ≡ Some k → ⊥
no_kind k h = cc

a_kind : (k : BusKind) → Some k ≡ None → ⊥
a_kind k h = cc

ready_does : (caches : List (List (Option Line))) (b g : ℕ) (need : Need) → asked_of (line_state (line_of_block caches b g)) need ≡ want.Nothing → AsksAsTheTable caches caches b g need want.Nothing
ready_does caches b g need table = record {
  table = table;
  calls = λ (kind : BusKind) (is : None ≡ Some kind). absurd (no_kind kind is);
  still = λ (none : None ≡ None). refl;
}

alone_is_enough : (need : Need) → asked_of OwnedExclusive need ≡ want.Nothing
alone_is_enough Read = refl
alone_is_enough Write = refl

claim_does : (caches : List (List (Option Line))) (b g : ℕ) (need : Need) (line : Line) → line_of_block caches b g ≡ Some line → asked_of line.state need ≡ want.Claim
    → AsksAsTheTable caches (restated_line caches b g bus.Claim OwnedExclusive (line_of_block caches b g)) b g need want.Claim
claim_does caches b g need line is table =
    let called : IsCalled caches (restated_line caches b g bus.Claim OwnedExclusive (line_of_block caches b g)) b g need bus.Claim = record {
      line = record line { state = OwnedExclusive };
      block = found_tag (get_or caches b []) g line is;
      state = refl;
      enough = alone_is_enough need;
      turns = ap (restated_line caches b g bus.Claim OwnedExclusive) is;
    } in
    record {
      table = ap (λ (o : Option Line). asked_of (line_state o) need) is ∙ table;
      calls = λ (kind : BusKind) (k : Some bus.Claim ≡ Some kind). subst (IsCalled caches (restated_line caches b g bus.Claim OwnedExclusive (line_of_block caches b g)) b g need) (some_kind bus.Claim kind k) called;
      still = λ (none : Some bus.Claim ≡ None). absurd (a_kind bus.Claim none);
    }

filled_table : (need : Need) → asked_of Invalid need ≡ filled_for need
filled_table Read = refl
filled_table Write = refl

filled_is_enough : (need : Need) → asked_of (filled_state need) need ≡ want.Nothing
filled_is_enough Read = refl
filled_is_enough Write = refl

filled_made : (need : Need) → filled_state need ≡ made_state (kind_of need)
filled_made Read = refl
filled_made Write = refl

filled_kind : (need : Need) → asked_kind (filled_for need) ≡ Some (kind_of need)
filled_kind Read = refl
filled_kind Write = refl

fill_does : (caches : List (List (Option Line))) (memory : List ℕ) (b g at : ℕ) (layer : Layer) (need : Need) (place : Place) → line_of_block caches b g ≡ None
    → AsksAsTheTable caches (stepped caches memory b at (plan.Fill layer need g place)) b g need (filled_for need)
fill_does caches memory b g at layer need place is =
    let after : List (List (Option Line)) = stepped caches memory b at (plan.Fill layer need g place) in
    let called : IsCalled caches after b g need (kind_of need) = record {
      line = read_line g (filled_state need) place (logical_block caches memory place.frame g);
      block = refl;
      state = filled_made need;
      enough = filled_is_enough need;
      turns = refl;
    } in
    record {
      table = ap (λ (o : Option Line). asked_of (line_state o) need) is ∙ filled_table need;
      calls = λ (kind : BusKind) (k : asked_kind (filled_for need) ≡ Some kind). subst (IsCalled caches after b g need) (some_kind (kind_of need) kind (sym (filled_kind need) ∙ k)) called;
      still = λ (none : asked_kind (filled_for need) ≡ None). absurd (a_kind (kind_of need) (sym (filled_kind need) ∙ none));
    }

-- what is said of a plan of board b for the block of g, which is of this layer
abbrev IsByTable : List (List (Option Line)) → List ℕ → ℕ → ℕ → Need → Layer → BusWant → Plan → Type 0
IsByTable caches memory b g need layer asked p = asked_by layer p ≡ Some asked → AsksAsTheTable caches (stepped caches memory b g p) b g need asked

-- nothing is asked of it by a step on the way there
asks_none : (caches : List (List (Option Line))) (memory : List ℕ) (b g : ℕ) (need : Need) (layer : Layer) (asked : BusWant) (p : Plan) → asked_by layer p ≡ None → IsByTable caches memory b g need layer asked p
asks_none caches memory b g need layer asked p none h = absurd (no_want (asked_by layer p) asked none h)

claim_asked : (caches : List (List (Option Line))) (b at : ℕ) (need : Need) (o : Option Line) → IsCache (get_or caches b []) → line_of_block caches b at ≡ o → look_of o need ≡ NeedsClaim
    → AsksAsTheTable caches (restated_line caches b at bus.Claim OwnedExclusive (line_of_block caches b at)) b at need want.Claim
claim_asked caches b at need None cache is seen = cc
claim_asked caches b at need (Some line) cache is seen =
    claim_does caches b at need line is (claim_asks line need (found_held (get_or caches b []) at line cache is).valid (answers_as line need NeedsClaim seen))

pub plan-is-the-tables : PlanIsTheTables
plan-is-the-tables caches memory b at need asked agree within =
    let own : List (Option Line) = get_or caches b [] in
    let cache : IsCache own = own_cache caches b agree within in
    let P : Plan → Type 0 = IsByTable caches memory b at need UserBlock asked in
    let none : (p : Plan) → asked_by UserBlock p ≡ None → P p = asks_none caches memory b at need UserBlock asked in
    access_holds P caches memory b at need (record {
      ready = λ seen h. subst (AsksAsTheTable caches caches b at need) (some_want want.Nothing asked h) (ready_does caches b at need (hit_asked own at need (line_of_block caches b at) cache refl seen));
      fault = λ kind. none (plan.Fault kind) refl;
      refresh = none plan.Refresh refl;
      claim = λ seen h. subst (AsksAsTheTable caches (stepped caches memory b at plan.Claim) b at need) (some_want want.Claim asked h) (claim_asked caches b at need (line_of_block caches b at) cache refl seen);
      user = λ place seen. filling_holds P own UserBlock need at place (λ line is. none (plan.WriteBack (block_address line.tag)) refl)
          (λ h. subst (AsksAsTheTable caches (stepped caches memory b at (plan.Fill UserBlock need at place)) b at need) (some_want (filled_for need) asked h)
          (fill_does caches memory b at at UserBlock need place (missed (line_of_block caches b at) need seen)));
      table = λ place. filling_holds P own PteBlock Read (entry_address_of at) place (λ line is. none (plan.WriteBack (block_address line.tag)) refl)
          (none (plan.Fill PteBlock Read (entry_address_of at) place) refl);
      root = λ place. filling_holds P own RootBlock Read (entry_address_of (entry_address_of at)) place (λ line is. none (plan.WriteBack (block_address line.tag)) refl)
          (none (plan.Fill RootBlock Read (entry_address_of (entry_address_of at)) place) refl);
    })

pub page-plan-is-the-tables : PagePlanIsTheTables
page-plan-is-the-tables caches memory b page asked agree within =
    let own : List (Option Line) = get_or caches b [] in
    let cache : IsCache own = own_cache caches b agree within in
    let g : ℕ = entry_address_of page in
    let P : Plan → Type 0 = IsByTable caches memory b g Write PteBlock asked in
    let none : (p : Plan) → asked_by PteBlock p ≡ None → P p = asks_none caches memory b g Write PteBlock asked in
    page_holds P caches memory b page (record {
      ready = λ line is alone h. subst (AsksAsTheTable caches caches b g Write) (some_want want.Nothing asked h)
          (ready_does caches b g Write (ap (λ (o : Option Line). asked_of (line_state o) Write) is ∙ nothing_to_write line.state alone));
      claim = λ line is shared h. subst (AsksAsTheTable caches (stepped caches memory b g plan.Claim) b g Write) (some_want want.Claim asked h)
          (claim_does caches b g Write line is (claim_to_write line.state shared (found_held own g line cache is).valid));
      table = λ place is. filling_holds P own PteBlock Write g place (λ line back. none (plan.WriteBack (block_address line.tag)) refl)
          (λ h. subst (AsksAsTheTable caches (stepped caches memory b g (plan.Fill PteBlock Write g place)) b g Write) (some_want (filled_for Write) asked h)
          (fill_does caches memory b g g PteBlock Write place is));
      root = λ place. filling_holds P own RootBlock Read (entry_address_of g) place (λ line back. none (plan.WriteBack (block_address line.tag)) refl)
          (none (plan.Fill RootBlock Read (entry_address_of g) place) refl);
    })
