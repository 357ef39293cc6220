-- Each entry serves what it was made for; and after the own block was taken, the access hits.
use Rattle.std.proofs.Common.{◌≡◌, ◌∙◌, ℕ, ◌%◌, ◌<◌, ◌≤◌, ◌==◌, ◌||◌, Bool, true, false, not, if◌then◌else◌, ap, sym, refl, subst, List, [], ◌∷◌, get_or, length, Option, Some, None, arith, zero-add, mod-lt}
use Rattle.std.specs.Prelude.{⊤}
use Rattle.std.specs.List.{list_any}
use Rattle.std.proofs.lemmas.Bool.{eq-eqb}
use Rattle.std.proofs.lemmas.List.{length-set}
use Rattle.std.proofs.lemmas.Option.{slice_get-get_or}
use Rattle.spur_addr.specs.Address.{block_of, block_start_of, entry_address_of, table_start}
use Rattle.spur_addr.specs.PageEntry.{is_valid, is_dirty, is_leaving, protection_of}
use Rattle.spur_addr.specs.declared.page_entry.Protection.{Protection}
use Rattle.spur_addr.specs.declared.page_entry.Protection.TheVariants as allow
use Rattle.spur_cache.specs.declared.line.Line.{Line}
use Rattle.spur_cache.specs.Lines.{IsCache, found, line_at, index_of, tagged, victim_of, with_line}
use Rattle.spur_cache.proofs.CacheFacts.{found_tag, tagged_there}
use Rattle.spur_snoop.specs.declared.BlockState.TheVariants.{OwnedExclusive}
use Rattle.spur_snoop.specs.declared.BusKind.{BusKind}
use Rattle.spur_snoop.specs.declared.BusKind.TheVariants as bus
use Rattle.spur_snoop.specs.declared.Need.{Need}
use Rattle.spur_snoop.specs.declared.Need.TheVariants.{Read, Write}
use Rattle.spur_snoop.specs.Protocol.{is_owned, is_exclusive}
use Rattle.spur_flat.specs.declared.flat.Flat.{Flat}
use Rattle.spur_flat.specs.declared.access.FaultKind.{FaultKind}
use Rattle.spur_flat.specs.declared.access.FaultKind.TheVariants as fault
use Rattle.spur_flat.specs.declared.entry.Entry.{Entry}
use Rattle.spur_flat.specs.declared.entry.Entry.TheVariants as entry
use Rattle.spur_flat.specs.declared.entry.Layer.{Layer}
use Rattle.spur_flat.specs.declared.entry.Layer.TheVariants.{RootBlock, PteBlock, UserBlock}
use Rattle.spur_flat.specs.Access.{grants}
use Rattle.spur_flat.specs.Blocks.{access_blocks, entry_block, pager_blocks, root_block}
use Rattle.spur_flat.specs.Needed.{is_block, is_modest}
use Rattle.spur_flat.specs.Pager.{word_of}
use Rattle.spur_flat.specs.TagRules.{access_of}
use Rattle.spur_bus.specs.declared.place.Place.{Place}
use Rattle.spur_bus.specs.Boards.{line_of_block, restated_line, snooped_lines, turned, turned_lines}
use Rattle.spur_bus.specs.Logical.{logical_block}
use Rattle.spur_bus.specs.Agrees.{Agrees}
use Rattle.spur_bus.specs.Calls.{line_count, read_line}
use Rattle.spur_bus.proofs.CallFacts.{start_block}
use Rattle.spur_bus.proofs.EachFacts.{get_or-each}
use Rattle.spur_bus.proofs.LineFacts.{set_there}
use Rattle.spur_walk.specs.declared.looked.Looked.{Looked}
use Rattle.spur_walk.specs.declared.looked.Looked.TheVariants.{Hit, Denied, NeedsDirty, NeedsClaim, Miss}
use Rattle.spur_walk.specs.declared.plan.Plan.{Plan}
use Rattle.spur_walk.specs.declared.plan.Plan.TheVariants as plan
use Rattle.spur_walk.specs.declared.step.Walked.TheVariants as walked
use Rattle.spur_walk.specs.Look.{look_of}
use Rattle.spur_walk.specs.Tables.{block_address, logical_flat, root_at}
use Rattle.spur_walk.specs.Present.{MayWalk}
use Rattle.spur_walk.specs.Plan.{access_plan, climb, fault_of, fault_or, fill_over, filling, page_by, page_climb, page_plan, plan_by, root_place, table_place, user_place, where_found}
use Rattle.spur_walk.specs.Steps.{IsFilled, OfUserBlock, MayDo, answer_of, stepped}
use Rattle.spur_walk.specs.Laws.{AccessIsServed, IsServing, OwnBlockHits, PageIsServed, owned_for}
use Rattle.spur_walk.proofs.AnswerFacts.{claim_by}
use Rattle.spur_walk.proofs.FillFacts.{lets}
use Rattle.spur_walk.proofs.PlanFacts.{Answers, Shares, answers_as, block_again, may_do, own_cache, victim_is}

-- the tests of a list of blocks
first_any : (test : ℕ → Bool) (x : ℕ) (xs : List ℕ) → test x ≡ true → list_any test (x ∷ xs) ≡ true
first_any test x xs h = ap (λ (b : Bool). b || list_any test xs) h

later : (b c : Bool) → c ≡ true → (b || c) ≡ true
later true c h = refl
later false c h = h

next_any : (test : ℕ → Bool) (x : ℕ) (xs : List ℕ) → list_any test xs ≡ true → list_any test (x ∷ xs) ≡ true
next_any test x xs h = later (test x) (list_any test xs) h

-- a list has a block
pub data Has (block : ℕ) : List ℕ → Type 0 where
  First : (xs : List ℕ) → Has block (block ∷ xs)
  Next : (x : ℕ) (xs : List ℕ) → Has block xs → Has block (x ∷ xs)

has_any : (block : ℕ) (xs : List ℕ) (test : ℕ → Bool) → test block ≡ true → Has block xs → list_any test xs ≡ true
has_any block (x ∷ xs) test h (First ys) = first_any test x xs h
has_any block (x ∷ xs) test h (Next y ys has) = next_any test x xs (has_any block xs test h has)
has_any block [] test h has = elim has [ ]

-- entries that serve
pub fill_serves : (b lines g : ℕ) (blocks : List ℕ) (owned : Option ℕ) (l : Layer) (n : Need) → Has (block_of g) blocks → is_modest owned (entry.Fill b l n (block_start_of g)) ≡ true → IsServing b lines blocks owned (entry.Fill b l n (block_start_of g))
fill_serves b lines g blocks owned l n has modest = record {
  board = refl;
  bus = tt;
  useful = has_any (block_of g) blocks (λ (block : ℕ). block == block_of (block_start_of g)) (eq-eqb (block_of g) (block_of (block_start_of g)) (sym (start_block g))) has;
  refreshed = refl;
  modest = modest;
}

pub claim_serves : (b lines g : ℕ) (blocks : List ℕ) (owned : Option ℕ) → Has (block_of g) blocks → is_block owned (block_of (block_start_of g)) ≡ true → IsServing b lines blocks owned (entry.Claim b (block_start_of g))
claim_serves b lines g blocks owned has modest = record {
  board = refl;
  bus = tt;
  useful = has_any (block_of g) blocks (λ (block : ℕ). block == block_of (block_start_of g)) (eq-eqb (block_of g) (block_of (block_start_of g)) (sym (start_block g))) has;
  refreshed = refl;
  modest = modest;
}

pub owns_block : (g : ℕ) → is_block (Some (block_of g)) (block_of (block_start_of g)) ≡ true
owns_block g = eq-eqb (block_of g) (block_of (block_start_of g)) (sym (start_block g))

pub back_serves : (b lines g tag : ℕ) (blocks : List ℕ) (owned : Option ℕ) → Has (block_of g) blocks → block_of g % lines ≡ tag % lines → IsServing b lines blocks owned (entry.WriteBack b (block_start_of (block_address tag)))
back_serves b lines g tag blocks owned has same =
    let start : block_of (block_start_of (block_address tag)) ≡ tag = start_block (block_address tag) ∙ block_again tag in
    record {
      board = refl;
      bus = tt;
      useful = has_any (block_of g) blocks (λ (block : ℕ). block % lines == block_of (block_start_of (block_address tag)) % lines)
          (eq-eqb (block_of g % lines) (block_of (block_start_of (block_address tag)) % lines) (same ∙ ap (λ (n : ℕ). n % lines) (sym start))) has;
      refreshed = refl;
      modest = refl;
    }

-- the entry of each plan serves
abbrev Serving : ℕ → ℕ → List ℕ → Option ℕ → ℕ → Plan → Type 0
Serving b lines blocks owned g plan.Ready = ⊤
Serving b lines blocks owned g (plan.Fault kind) = ⊤
Serving b lines blocks owned g plan.Refresh = IsServing b lines blocks owned (entry.Refresh b (block_start_of g))
Serving b lines blocks owned g plan.Claim = IsServing b lines blocks owned (entry.Claim b (block_start_of g))
Serving b lines blocks owned g (plan.WriteBack at) = IsServing b lines blocks owned (entry.WriteBack b (block_start_of at))
Serving b lines blocks owned g (plan.Fill l n at place) = IsServing b lines blocks owned (entry.Fill b l n (block_start_of at))

some_entry : (a e : Entry) → walked.Moved a ≡ walked.Moved e → a ≡ e
some_entry a e h = cc

serving : (b lines : ℕ) (blocks : List ℕ) (owned : Option ℕ) (g : ℕ) (p : Plan) (e : Entry) → Serving b lines blocks owned g p → answer_of b g p ≡ walked.Moved e → IsServing b lines blocks owned e
serving b lines blocks owned g plan.Ready e s h = cc
serving b lines blocks owned g (plan.Fault kind) e s h = cc
serving b lines blocks owned g plan.Refresh e s h = subst (λ (x : Entry). IsServing b lines blocks owned x) (some_entry (entry.Refresh b (block_start_of g)) e h) s
serving b lines blocks owned g plan.Claim e s h = subst (λ (x : Entry). IsServing b lines blocks owned x) (some_entry (entry.Claim b (block_start_of g)) e h) s
serving b lines blocks owned g (plan.WriteBack at) e s h = subst (λ (x : Entry). IsServing b lines blocks owned x) (some_entry (entry.WriteBack b (block_start_of at)) e h) s
serving b lines blocks owned g (plan.Fill l n at place) e s h = subst (λ (x : Entry). IsServing b lines blocks owned x) (some_entry (entry.Fill b l n (block_start_of at)) e h) s

over_if : (b lines at : ℕ) (blocks : List ℕ) (owned : Option ℕ) (g : ℕ) (l : Layer) (n : Need) (place : Place) (line : Line) (own : Bool) → Has (block_of at) blocks → block_of at % lines ≡ line.tag % lines
    → is_modest owned (entry.Fill b l n (block_start_of at)) ≡ true → Serving b lines blocks owned g (if own then plan.WriteBack (block_address line.tag) else plan.Fill l n at place)
over_if b lines at blocks owned g l n place line true has same modest = back_serves b lines at line.tag blocks owned has same
over_if b lines at blocks owned g l n place line false has same modest = fill_serves b lines at blocks owned l n has modest

over_serves : (own : List (Option Line)) (b lines at : ℕ) (blocks : List ℕ) (owned : Option ℕ) (g : ℕ) (l : Layer) (n : Need) (place : Place) (o : Option Line) → IsCache own → lines ≡ length own → victim_of own at ≡ o → Has (block_of at) blocks
    → is_modest owned (entry.Fill b l n (block_start_of at)) ≡ true → Serving b lines blocks owned g (fill_over o (plan.Fill l n at place))
over_serves own b lines at blocks owned g l n place None cache count is has modest = fill_serves b lines at blocks owned l n has modest
over_serves own b lines at blocks owned g l n place (Some line) cache count is has modest =
    let v = victim_is own at line is in
    let slot : line.tag % length own ≡ block_of at % length own = cache.placed (index_of own (block_of at)) line v.stands in
    over_if b lines at blocks owned g l n place line (is_owned line.state) has (sym (subst (λ (m : ℕ). line.tag % m ≡ block_of at % m) (sym count) slot)) modest

filling_serves : (own : List (Option Line)) (b lines at : ℕ) (blocks : List ℕ) (owned : Option ℕ) (g : ℕ) (l : Layer) (n : Need) (place : Place) → IsCache own → lines ≡ length own → Has (block_of at) blocks
    → is_modest owned (entry.Fill b l n (block_start_of at)) ≡ true → Serving b lines blocks owned g (filling own l n at place)
filling_serves own b lines at blocks owned g l n place cache count has modest = over_serves own b lines at blocks owned g l n place (victim_of own at) cache count refl has modest

-- towards an access
own_modest : (b at : ℕ) (need : Need) → is_modest (owned_for need at) (entry.Fill b UserBlock need (block_start_of at)) ≡ true
own_modest b at Read = refl
own_modest b at Write = owns_block at

user_serves : (own : List (Option Line)) (b lines at : ℕ) (need : Need) (o : Option FaultKind) (place : Place) → IsCache own → lines ≡ length own → Serving b lines (access_blocks at) (owned_for need at) at (fault_or o (filling own UserBlock need at place))
user_serves own b lines at need None place cache count = filling_serves own b lines at (access_blocks at) (owned_for need at) at UserBlock need place cache count (First (entry_block at ∷ root_block at ∷ [])) (own_modest b at need)
user_serves own b lines at need (Some kind) place cache count = tt

table_serves : (own : List (Option Line)) (b lines at : ℕ) (need : Need) (root : ℕ) (v : Bool) → IsCache own → lines ≡ length own
    → Serving b lines (access_blocks at) (owned_for need at) at (if v then filling own PteBlock Read (entry_address_of at) (table_place root) else plan.Fault fault.Unmapped)
table_serves own b lines at need root true cache count =
    filling_serves own b lines (entry_address_of at) (access_blocks at) (owned_for need at) at PteBlock Read (table_place root) cache count (Next (block_of at) (entry_block at ∷ root_block at ∷ []) (First (root_block at ∷ []))) refl
table_serves own b lines at need root false cache count = tt

climb_serves : (own : List (Option Line)) (b lines at : ℕ) (need : Need) (r : Option ℕ) → IsCache own → lines ≡ length own → Serving b lines (access_blocks at) (owned_for need at) at (climb own at r)
climb_serves own b lines at need None cache count =
    filling_serves own b lines (entry_address_of (entry_address_of at)) (access_blocks at) (owned_for need at) at RootBlock Read (root_place (entry_address_of (entry_address_of at))) cache count
    (Next (block_of at) (entry_block at ∷ root_block at ∷ []) (Next (entry_block at) (root_block at ∷ []) (First []))) refl
climb_serves own b lines at need (Some root) cache count = table_serves own b lines at need root (is_valid root) cache count

refresh_serves : (b lines g : ℕ) (blocks : List ℕ) (owned : Option ℕ) → Has (block_of g) blocks → IsServing b lines blocks owned (entry.Refresh b (block_start_of g))
refresh_serves b lines g blocks owned has = record {
  board = refl;
  bus = tt;
  useful = refl;
  refreshed = has_any (block_of g) blocks (λ (block : ℕ). block == block_of (block_start_of g)) (eq-eqb (block_of g) (block_of (block_start_of g)) (sym (start_block g))) has;
  modest = refl;
}

dirty_if : (b lines at : ℕ) (blocks : List ℕ) (owned : Option ℕ) (l d : Bool) → Has (block_of at) blocks → Serving b lines blocks owned at (if l then plan.Fault fault.Leaving else if d then plan.Refresh else plan.Fault fault.Dirty)
dirty_if b lines at blocks owned true d has = tt
dirty_if b lines at blocks owned false true has = refresh_serves b lines at blocks owned has
dirty_if b lines at blocks owned false false has = tt

claim_as : (b lines at : ℕ) (need : Need) (line : Line) → Answers line need NeedsClaim → Serving b lines (access_blocks at) (owned_for need at) at plan.Claim
claim_as b lines at Write line (Shares granted dirty exclusive) = claim_serves b lines at (access_blocks at) (Some (block_of at)) (First (entry_block at ∷ root_block at ∷ [])) (owns_block at)
claim_as b lines at Read line answer = elim answer [ ]

claim_in : (b lines at : ℕ) (need : Need) (o : Option Line) → look_of o need ≡ NeedsClaim → Serving b lines (access_blocks at) (owned_for need at) at plan.Claim
claim_in b lines at need None seen = cc
claim_in b lines at need (Some line) seen = claim_as b lines at need line (answers_as line need NeedsClaim seen)

access_serves : (own : List (Option Line)) (b lines at : ℕ) (need : Need) (e r : Option ℕ) (looked : Looked) → IsCache own → lines ≡ length own → look_of (found own at) need ≡ looked
    → Serving b lines (access_blocks at) (owned_for need at) at (plan_by own at need e r looked)
access_serves own b lines at need e r Hit cache count seen = tt
access_serves own b lines at need e r Denied cache count seen = tt
access_serves own b lines at need e r NeedsClaim cache count seen = claim_in b lines at need (found own at) seen
access_serves own b lines at need None r NeedsDirty cache count seen = climb_serves own b lines at need r cache count
access_serves own b lines at need (Some w) r NeedsDirty cache count seen = dirty_if b lines at (access_blocks at) (owned_for need at) (is_leaving w) (is_dirty w) (First (entry_block at ∷ root_block at ∷ []))
access_serves own b lines at need None r Miss cache count seen = climb_serves own b lines at need r cache count
access_serves own b lines at need (Some w) r Miss cache count seen = user_serves own b lines at need (fault_of w need) (user_place w) cache count

pub own_count : (caches : List (List (Option Line))) (b : ℕ) → Agrees caches → b < length caches → line_count caches ≡ length (get_or caches b [])
own_count caches b agree within =
    agree.sizes 0 b (get_or caches 0 []) (get_or caches b []) (slice_get-get_or caches 0 [] (omega arith)) (slice_get-get_or caches b [] within)

pub access-served : AccessIsServed
access-served caches memory b at need e may within user h =
    let own : List (Option Line) = get_or caches b [] in
    let F : Flat = logical_flat caches memory in
    serving b (line_count caches) (access_blocks at) (owned_for need at) at (access_plan caches memory b at need) e
    (access_serves own b (line_count caches) at need (where_found (found own (entry_address_of at)) (word_of F at)) (where_found (found own (entry_address_of (entry_address_of at))) (root_at F at)) (look_of (found own at) need)
    (own_cache caches b may.agree within) (own_count caches b may.agree within) refl) h

-- towards a page's entry
page_climb_serves : (own : List (Option Line)) (b lines page : ℕ) (r : Option ℕ) → IsCache own → lines ≡ length own → Serving b lines (pager_blocks page) (Some (entry_block page)) (entry_address_of page) (page_climb own page r)
page_climb_serves own b lines page None cache count =
    filling_serves own b lines (entry_address_of (entry_address_of page)) (pager_blocks page) (Some (entry_block page)) (entry_address_of page) RootBlock Read (root_place (entry_address_of (entry_address_of page))) cache count
    (Next (entry_block page) (root_block page ∷ []) (First [])) refl
page_climb_serves own b lines page (Some root) cache count =
    filling_serves own b lines (entry_address_of page) (pager_blocks page) (Some (entry_block page)) (entry_address_of page) PteBlock Write (table_place root) cache count (First (root_block page ∷ [])) (owns_block (entry_address_of page))

page_if : (b lines page : ℕ) (x : Bool) → Serving b lines (pager_blocks page) (Some (entry_block page)) (entry_address_of page) (if x then plan.Ready else plan.Claim)
page_if b lines page true = tt
page_if b lines page false = claim_serves b lines (entry_address_of page) (pager_blocks page) (Some (entry_block page)) (First (root_block page ∷ [])) (owns_block (entry_address_of page))

page_serves : (own : List (Option Line)) (b lines page : ℕ) (r : Option ℕ) (o : Option Line) → IsCache own → lines ≡ length own → Serving b lines (pager_blocks page) (Some (entry_block page)) (entry_address_of page) (page_by own page r o)
page_serves own b lines page r None cache count = page_climb_serves own b lines page r cache count
page_serves own b lines page r (Some line) cache count = page_if b lines page (is_exclusive line.state)

pub page-served : PageIsServed
page-served caches memory b page e may within user valid h =
    let own : List (Option Line) = get_or caches b [] in
    let F : Flat = logical_flat caches memory in
    serving b (line_count caches) (pager_blocks page) (Some (entry_block page)) (entry_address_of page) (page_plan caches memory b page) e
    (page_serves own b (line_count caches) page (where_found (found own (entry_address_of (entry_address_of page))) (root_at F page)) (found own (entry_address_of page)) (own_cache caches b may.agree within) (own_count caches b may.agree within)) h

-- the own lines after a step
pub own-turned : (caches : List (List (Option Line))) (b g : ℕ) (kind : BusKind) (fresh : Line) → b < length caches → get_or (turned caches b g kind fresh) b [] ≡ with_line (get_or caches b []) fresh
own-turned caches b g kind fresh within =
    get_or-each (turned_lines b g kind fresh) 0 caches b [] within
    ∙ ap (λ (n : ℕ). turned_lines b g kind fresh n (get_or caches b [])) (zero-add b)
    ∙ ap (λ (x : Bool). if x then with_line (get_or caches b []) fresh else snooped_lines (get_or caches b []) g kind) (eq-eqb b b refl)

-- a line that was put in its place is found there
pub found_same : (own : List (Option Line)) (fresh : Line) (g : ℕ) → IsCache own → fresh.tag ≡ block_of g → found (with_line own fresh) g ≡ Some fresh
found_same own fresh g cache tag =
    let size : length (with_line own fresh) ≡ length own = length-set own (index_of own fresh.tag) (Some fresh) in
    let some : 16 ≤ length own = cache.count.some_lines in
    let positive : 0 < length own = omega arith in
    let slot : index_of (with_line own fresh) (block_of g) ≡ index_of own fresh.tag = ap (λ (n : ℕ). block_of g % n) size ∙ ap (index_of own) (sym tag) in
    ap (λ (s : ℕ). tagged (block_of g) (line_at (with_line own fresh) s)) slot
    ∙ ap (tagged (block_of g)) (set_there own (index_of own fresh.tag) (Some fresh) (mod-lt fresh.tag positive))
    ∙ tagged_there (block_of g) fresh tag

-- the access hits
hit_if : (line : Line) (need : Need) (g d e : Bool) → grants line.prot (access_of need) ≡ true → line.dirty ≡ true → is_exclusive line.state ≡ true → look_of (Some line) need ≡ Hit
hit_if line Read g d e granted dirty exclusive = ap (λ (t : Bool). if not t then Denied else Hit) granted
hit_if line Write g d e granted dirty exclusive =
    ap (λ (t : Bool). if not t then Denied else if not line.dirty then NeedsDirty else if not (is_exclusive line.state) then NeedsClaim else Hit) granted
    ∙ ap (λ (t : Bool). if not t then NeedsDirty else if not (is_exclusive line.state) then NeedsClaim else Hit) dirty
    ∙ ap (λ (t : Bool). if not t then NeedsClaim else Hit) exclusive

pub hits : (line : Line) (need : Need) → grants line.prot (access_of need) ≡ true → line.dirty ≡ true → is_exclusive line.state ≡ true → look_of (Some line) need ≡ Hit
hits line need granted dirty exclusive = hit_if line need true true true granted dirty exclusive

claimed_hits : (line : Line) (need : Need) → Answers line need NeedsClaim → look_of (Some (record line { state = OwnedExclusive })) need ≡ Hit
claimed_hits line Write (Shares granted dirty exclusive) = hits (record line { state = OwnedExclusive }) Write granted dirty refl
claimed_hits line Read answer = elim answer [ ]

pub claim_hits : (caches : List (List (Option Line))) (memory : List ℕ) (b at : ℕ) (need : Need) (o : Option Line) → Agrees caches → b < length caches → line_of_block caches b at ≡ o → look_of o need ≡ NeedsClaim
    → look_of (line_of_block (restated_line caches b at bus.Claim OwnedExclusive o) b at) need ≡ Hit
claim_hits caches memory b at need None agree within is seen = cc
claim_hits caches memory b at need (Some line) agree within is seen =
    let fresh : Line = record line { state = OwnedExclusive } in
    ap (λ (ls : List (Option Line)). look_of (found ls at) need) (own-turned caches b at bus.Claim fresh within)
    ∙ ap (λ (o : Option Line). look_of o need) (found_same (get_or caches b []) fresh at (own_cache caches b agree within) (found_tag (get_or caches b []) at line is))
    ∙ claimed_hits line need (answers_as line need NeedsClaim seen)

-- who may write may read
grants_read : (p : Protection) (need : Need) → grants p (access_of Write) ≡ true → grants p (access_of need) ≡ true
grants_read p Write h = h
grants_read allow.Nothing Read h = cc
grants_read allow.ReadOnly Read h = refl
grants_read allow.ReadWrite Read h = refl

pub or_false : (x : Bool) → (x || false) ≡ true → x ≡ true
or_false true h = refl
or_false false h = cc

filled_hits : (F : Flat) (caches : List (List (Option Line))) (b at : ℕ) (place : Place) (words : List ℕ) (need : Need) → IsFilled F caches b UserBlock Write at place → look_of (Some (read_line at OwnedExclusive place words)) need ≡ Hit
filled_hits F caches b at place words need (OfUserBlock n g p low above may is) =
    let ok = lets (word_of F at) Write may in
    hits (read_line at OwnedExclusive place words) need
    (ap (λ (q : Place). grants q.prot (access_of need)) is ∙ grants_read (protection_of (word_of F at)) need ok.allowed)
    (ap (λ (q : Place). q.dirty) is ∙ or_false (is_dirty (word_of F at)) ok.dirty) refl

-- a user's block that a plan towards an access fills is the access's own
abbrev IsOwnIn : ℕ → Layer → ℕ → Type 0
IsOwnIn at RootBlock g = ⊤
IsOwnIn at PteBlock g = ⊤
IsOwnIn at UserBlock g = g ≡ at

abbrev FillsOwn : ℕ → Plan → Type 0
FillsOwn at plan.Ready = ⊤
FillsOwn at (plan.Fault kind) = ⊤
FillsOwn at plan.Refresh = ⊤
FillsOwn at plan.Claim = ⊤
FillsOwn at (plan.WriteBack g) = ⊤
FillsOwn at (plan.Fill l n g place) = IsOwnIn at l g

own_if : (at : ℕ) (l : Layer) (n : Need) (g : ℕ) (place : Place) (line : Line) (back : Bool) → IsOwnIn at l g → FillsOwn at (if back then plan.WriteBack (block_address line.tag) else plan.Fill l n g place)
own_if at l n g place line true own = tt
own_if at l n g place line false own = own

own_over : (at : ℕ) (l : Layer) (n : Need) (g : ℕ) (place : Place) (o : Option Line) → IsOwnIn at l g → FillsOwn at (fill_over o (plan.Fill l n g place))
own_over at l n g place None own = own
own_over at l n g place (Some line) own = own_if at l n g place line (is_owned line.state) own

own_table : (lines : List (Option Line)) (at root : ℕ) (valid : Bool) → FillsOwn at (if valid then filling lines PteBlock Read (entry_address_of at) (table_place root) else plan.Fault fault.Unmapped)
own_table lines at root true = own_over at PteBlock Read (entry_address_of at) (table_place root) (victim_of lines (entry_address_of at)) tt
own_table lines at root false = tt

own_climb : (lines : List (Option Line)) (at : ℕ) (r : Option ℕ) → FillsOwn at (climb lines at r)
own_climb lines at None =
    own_over at RootBlock Read (entry_address_of (entry_address_of at)) (root_place (entry_address_of (entry_address_of at))) (victim_of lines (entry_address_of (entry_address_of at))) tt
own_climb lines at (Some root) = own_table lines at root (is_valid root)

own_dirty : (at : ℕ) (l d : Bool) → FillsOwn at (if l then plan.Fault fault.Leaving else if d then plan.Refresh else plan.Fault fault.Dirty)
own_dirty at true d = tt
own_dirty at false true = tt
own_dirty at false false = tt

own_user : (lines : List (Option Line)) (at : ℕ) (need : Need) (place : Place) (o : Option FaultKind) → FillsOwn at (fault_or o (filling lines UserBlock need at place))
own_user lines at need place None = own_over at UserBlock need at place (victim_of lines at) refl
own_user lines at need place (Some kind) = tt

own_by : (lines : List (Option Line)) (at : ℕ) (need : Need) (e r : Option ℕ) (looked : Looked) → FillsOwn at (plan_by lines at need e r looked)
own_by lines at need e r Hit = tt
own_by lines at need e r Denied = tt
own_by lines at need e r NeedsClaim = tt
own_by lines at need None r NeedsDirty = own_climb lines at r
own_by lines at need (Some w) r NeedsDirty = own_dirty at (is_leaving w) (is_dirty w)
own_by lines at need None r Miss = own_climb lines at r
own_by lines at need (Some w) r Miss = own_user lines at need (user_place w) (fault_of w need)

-- an answer that a block was claimed, or that a user's block was filled to be written, is of such a plan
claim_planned : (b g x : ℕ) (p : Plan) → answer_of b g p ≡ walked.Moved (entry.Claim b x) → p ≡ plan.Claim
claim_planned b g x plan.Ready h = cc
claim_planned b g x (plan.Fault kind) h = cc
claim_planned b g x plan.Refresh h = cc
claim_planned b g x plan.Claim h = refl
claim_planned b g x (plan.WriteBack at) h = cc
claim_planned b g x (plan.Fill l n at place) h = cc

record OwnFill (at : ℕ) (p : Plan) : Type 0 where
  place : Place
  is : p ≡ plan.Fill UserBlock Write at place

fill_planned : (b at x : ℕ) (p : Plan) → FillsOwn at p → answer_of b at p ≡ walked.Moved (entry.Fill b UserBlock Write x) → OwnFill at p
fill_planned b at x plan.Ready own h = cc
fill_planned b at x (plan.Fault kind) own h = cc
fill_planned b at x plan.Refresh own h = cc
fill_planned b at x plan.Claim own h = cc
fill_planned b at x (plan.WriteBack g) own h = cc
fill_planned b at x (plan.Fill RootBlock n g place) own h = cc
fill_planned b at x (plan.Fill PteBlock n g place) own h = cc
fill_planned b at x (plan.Fill UserBlock Read g place) own h = cc
fill_planned b at x (plan.Fill UserBlock Write g place) own h = record { place = place; is = ap (λ (n : ℕ). plan.Fill UserBlock Write n place) own }

fill_hits : (caches : List (List (Option Line))) (memory : List ℕ) (b at : ℕ) (need : Need) (place : Place) → MayWalk caches memory → b < length caches → at < table_start → access_plan caches memory b at need ≡ plan.Fill UserBlock Write at place
    → look_of (line_of_block (stepped caches memory b at (plan.Fill UserBlock Write at place)) b at) need ≡ Hit
fill_hits caches memory b at need place may within user h =
    let F : Flat = logical_flat caches memory in
    let done = subst (λ (p : Plan). MayDo F caches b at p) h (may_do F caches b at need may.agree within user) in
    let words : List ℕ = logical_block caches memory place.frame at in
    let fresh : Line = read_line at OwnedExclusive place words in
    ap (λ (ls : List (Option Line)). look_of (found ls at) need) (own-turned caches b at bus.ReadOwned fresh within)
    ∙ ap (λ (o : Option Line). look_of o need) (found_same (get_or caches b []) fresh at (own_cache caches b may.agree within) refl)
    ∙ filled_hits F caches b at place words need done.fills

pub own-hits : OwnBlockHits
own-hits caches memory b at need may within user =
    let own : List (Option Line) = get_or caches b [] in
    let F : Flat = logical_flat caches memory in
    let e : Option ℕ = where_found (found own (entry_address_of at)) (word_of F at) in
    let r : Option ℕ = where_found (found own (entry_address_of (entry_address_of at))) (root_at F at) in
    record {
      claim = λ (x : ℕ) (h : answer_of b at (access_plan caches memory b at need) ≡ walked.Moved (entry.Claim b x)).
          let is = claim_planned b at x (access_plan caches memory b at need) h in
          subst (λ (p : Plan). look_of (line_of_block (stepped caches memory b at p) b at) need ≡ Hit) (sym is)
          (claim_hits caches memory b at need (line_of_block caches b at) may.agree within refl (claim_by own at need e r (look_of (found own at) need) is));
      fill = λ (x : ℕ) (h : answer_of b at (access_plan caches memory b at need) ≡ walked.Moved (entry.Fill b UserBlock Write x)).
          let done = fill_planned b at x (access_plan caches memory b at need) (own_by own at need e r (look_of (found own at) need)) h in
          subst (λ (p : Plan). look_of (line_of_block (stepped caches memory b at p) b at) need ≡ Hit) (sym done.is)
          (fill_hits caches memory b at need done.place may within user done.is);
    }
