-- The answers of the walk: what they change, when they come, and that they may stand in the history.
use Rattle.std.proofs.Common.{◌≡◌, ◌∙◌, ℕ, ◌+◌, ◌*◌, ◌/◌, ◌%◌, ◌^◌, ◌<◌, ◌≤◌, ◌&&◌, ◌||◌, Bool, true, false, not, if◌then◌else◌, ap, sym, refl, subst, List, [], get_or, length, slice_index, Option, Some, None, arith}
use Rattle.std.specs.Prelude.{⊤}
use Rattle.std.proofs.lemmas.Nat.{shr-shr}
use Rattle.spur_addr.specs.Address.{block_of, block_start_of, entry_address_of, is_aligned, table_start, word_in_block_of}
use Rattle.spur_addr.specs.PageEntry.{is_valid, is_referenced, is_dirty, is_on_swap, is_leaving, number_of, protection_of}
use Rattle.spur_addr.specs.declared.page_entry.Protection.{Protection}
use Rattle.spur_addr.specs.declared.page_entry.Protection.TheVariants as allow
use Rattle.spur_cache.specs.declared.line.Line.{Line}
use Rattle.spur_cache.specs.Lines.{found, victim_of, word_in}
use Rattle.spur_cache.proofs.CacheFacts.{found_held}
use Rattle.spur_snoop.specs.declared.Need.{Need}
use Rattle.spur_snoop.specs.declared.Need.TheVariants.{Read, Write}
use Rattle.spur_snoop.specs.Protocol.{is_owned, is_exclusive}
use Rattle.spur_flat.specs.declared.flat.Flat.{Flat}
use Rattle.spur_flat.specs.declared.access.AccessKind.{AccessKind}
use Rattle.spur_flat.specs.declared.access.AccessKind.TheVariants as access
use Rattle.spur_flat.specs.declared.access.FaultKind.{FaultKind}
use Rattle.spur_flat.specs.declared.access.FaultKind.TheVariants as fault
use Rattle.spur_flat.specs.declared.entry.Layer.{Layer}
use Rattle.spur_flat.specs.declared.entry.Layer.TheVariants.{RootBlock, PteBlock, UserBlock}
use Rattle.spur_flat.specs.Access.{allows, grants, is_align, is_write, may, may_aligned, may_with}
use Rattle.spur_flat.specs.Pager.{or_zero, word_of}
use Rattle.spur_flat.specs.Table.{data_word, place_in, walk_of}
use Rattle.spur_flat.specs.TagLines as T
use Rattle.spur_flat.specs.TagRules.{access_of, tag_condition, is_read, load_refusal, state_number, tags_refusal, write_refusal}
use Rattle.spur_bus.specs.declared.place.Place.{Place}
use Rattle.spur_bus.specs.Boards.{line_of_block}
use Rattle.spur_bus.specs.Logical.{logical_words}
use Rattle.spur_bus.specs.Agrees.{IsAt}
use Rattle.spur_bus.specs.Calls.{tags_of}
use Rattle.spur_bus.proofs.CallFacts.{is_here, tags_in}
use Rattle.spur_bus.proofs.WordsFacts.{logical_index}
use Rattle.spur_walk.specs.declared.looked.Looked.{Looked}
use Rattle.spur_walk.specs.declared.looked.Looked.TheVariants.{Hit, Denied, NeedsDirty, NeedsClaim, Miss}
use Rattle.spur_walk.specs.declared.plan.Plan.{Plan}
use Rattle.spur_walk.specs.declared.plan.Plan.TheVariants as plan
use Rattle.spur_walk.specs.declared.step.Walked.TheVariants as walked
use Rattle.spur_walk.specs.Look.{look_of}
use Rattle.spur_walk.specs.Tables.{HasTablesOf, block_address, logical_flat, root_at}
use Rattle.spur_walk.specs.Present.{MayWalk}
use Rattle.spur_walk.specs.Plan.{access_plan, climb, dirty_plan, fault_of, fault_or, fill_over, filling, page_by, page_climb, page_plan_of, plan_by, plan_of, root_place, table_place, user_place, where_found}
use Rattle.spur_walk.specs.Steps.{HasBlock, answer_of}
use Rattle.spur_walk.specs.Laws.{FaultIsStill, FaultMayStand, FoundEntryIsTheTables, IsStanding, MayStand, PageHasNoFault, PageReadyIsExclusive, ReadyHasTheWord, ReadyIsHit, ReadyIsStill, ReadyMayStand, ServedFaultFindsEntry, done_entry, is_alone, is_served, need_of}
use Rattle.spur_walk.proofs.FrameFacts.{stands_user}
use Rattle.spur_walk.proofs.TableFacts.{entry_word, same_walk, word_start}
use Rattle.spur_walk.proofs.FillFacts.{alive, start_low}
use Rattle.spur_walk.proofs.PlanFacts.{Answers, Reads, Denies, Cleans, Writes, answers_as, own_cache}

-- what each plan is
pub ready-still : ReadyIsStill
ready-still caches memory b g plan.Ready h = record { caches_stay = refl; memory_stays = refl }
ready-still caches memory b g (plan.Fault kind) h = cc
ready-still caches memory b g plan.Refresh h = cc
ready-still caches memory b g plan.Claim h = cc
ready-still caches memory b g (plan.WriteBack at) h = cc
ready-still caches memory b g (plan.Fill l n at place) h = cc

pub fault-still : FaultIsStill
fault-still caches memory b g plan.Ready kind h = cc
fault-still caches memory b g (plan.Fault k) kind h = record { caches_stay = refl; memory_stays = refl }
fault-still caches memory b g plan.Refresh kind h = cc
fault-still caches memory b g plan.Claim kind h = cc
fault-still caches memory b g (plan.WriteBack at) kind h = cc
fault-still caches memory b g (plan.Fill l n at place) kind h = cc

pub plan_ready : (b g : ℕ) (p : Plan) → answer_of b g p ≡ walked.Ready → p ≡ plan.Ready
plan_ready b g plan.Ready h = refl
plan_ready b g (plan.Fault kind) h = cc
plan_ready b g plan.Refresh h = cc
plan_ready b g plan.Claim h = cc
plan_ready b g (plan.WriteBack at) h = cc
plan_ready b g (plan.Fill l n at place) h = cc

pub plan_fault : (b g : ℕ) (p : Plan) (kind : FaultKind) → answer_of b g p ≡ walked.Fault kind → p ≡ plan.Fault kind
plan_fault b g plan.Ready kind h = cc
plan_fault b g (plan.Fault k) kind h = cc
plan_fault b g plan.Refresh kind h = cc
plan_fault b g plan.Claim kind h = cc
plan_fault b g (plan.WriteBack at) kind h = cc
plan_fault b g (plan.Fill l n at place) kind h = cc

-- a test of plans that no fault, no refresh, no write-back and no fill passes
pub record Fails (test : Plan → Bool) : Type 0 where
  pub fault : (kind : FaultKind) → test (plan.Fault kind) ≡ false
  pub refresh : test plan.Refresh ≡ false
  pub back : (at : ℕ) → test (plan.WriteBack at) ≡ false
  pub fill : (l : Layer) (n : Need) (at : ℕ) (place : Place) → test (plan.Fill l n at place) ≡ false

fails_if : (test : Plan → Bool) (own : Bool) (p q : Plan) → test p ≡ false → test q ≡ false → test (if own then p else q) ≡ false
fails_if test true p q hp hq = hp
fails_if test false p q hp hq = hq

fails_over : (test : Plan → Bool) (o : Option Line) (l : Layer) (n : Need) (at : ℕ) (place : Place) → Fails test → test (fill_over o (plan.Fill l n at place)) ≡ false
fails_over test None l n at place fails = fails.fill l n at place
fails_over test (Some line) l n at place fails = fails_if test (is_owned line.state) (plan.WriteBack (block_address line.tag)) (plan.Fill l n at place) (fails.back (block_address line.tag)) (fails.fill l n at place)

fails_filling : (test : Plan → Bool) (own : List (Option Line)) (l : Layer) (n : Need) (at : ℕ) (place : Place) → Fails test → test (filling own l n at place) ≡ false
fails_filling test own l n at place fails = fails_over test (victim_of own at) l n at place fails

fails_or : (test : Plan → Bool) (o : Option FaultKind) (own : List (Option Line)) (l : Layer) (n : Need) (at : ℕ) (place : Place) → Fails test → test (fault_or o (filling own l n at place)) ≡ false
fails_or test None own l n at place fails = fails_filling test own l n at place fails
fails_or test (Some kind) own l n at place fails = fails.fault kind

fails_climb : (test : Plan → Bool) (own : List (Option Line)) (at : ℕ) (r : Option ℕ) → Fails test → test (climb own at r) ≡ false
fails_climb test own at None fails = fails_filling test own RootBlock Read (entry_address_of (entry_address_of at)) (root_place (entry_address_of (entry_address_of at))) fails
fails_climb test own at (Some root) fails =
    fails_if test (is_valid root) (filling own PteBlock Read (entry_address_of at) (table_place root)) (plan.Fault fault.Unmapped)
    (fails_filling test own PteBlock Read (entry_address_of at) (table_place root) fails) (fails.fault fault.Unmapped)

fails_dirty : (test : Plan → Bool) (e : ℕ) → Fails test → test (dirty_plan e) ≡ false
fails_dirty test e fails =
    fails_if test (is_leaving e) (plan.Fault fault.Leaving) (if is_dirty e then plan.Refresh else plan.Fault fault.Dirty) (fails.fault fault.Leaving)
    (fails_if test (is_dirty e) plan.Refresh (plan.Fault fault.Dirty) fails.refresh (fails.fault fault.Dirty))

abbrev pub is_ready : Plan → Bool
is_ready plan.Ready = true
is_ready (plan.Fault kind) = false
is_ready plan.Refresh = false
is_ready plan.Claim = false
is_ready (plan.WriteBack at) = false
is_ready (plan.Fill l n at place) = false

abbrev pub is_claim : Plan → Bool
is_claim plan.Ready = false
is_claim (plan.Fault kind) = false
is_claim plan.Refresh = false
is_claim plan.Claim = true
is_claim (plan.WriteBack at) = false
is_claim (plan.Fill l n at place) = false

ready_fails : Fails is_ready
ready_fails = record { fault = λ kind. refl; refresh = refl; back = λ at. refl; fill = λ l n at place. refl }

claim_fails : Fails is_claim
claim_fails = record { fault = λ kind. refl; refresh = refl; back = λ at. refl; fill = λ l n at place. refl }

clash : {A : Type 0} (test : Plan → Bool) (p q : Plan) → p ≡ q → test q ≡ true → test p ≡ false → A
clash test p q is yes_q no_p = let e : true ≡ false = sym (ap test is ∙ yes_q) ∙ no_p in absurd (differ e)
  where
    differ : true ≡ false → ⊥
    differ h = cc

pub ready_by : (own : List (Option Line)) (at : ℕ) (need : Need) (e r : Option ℕ) (looked : Looked) → plan_by own at need e r looked ≡ plan.Ready → looked ≡ Hit
ready_by own at need e r Hit h = refl
ready_by own at need e r Denied h = cc
ready_by own at need e r NeedsClaim h = cc
ready_by own at need None r NeedsDirty h = clash is_ready (climb own at r) plan.Ready h refl (fails_climb is_ready own at r ready_fails)
ready_by own at need (Some w) r NeedsDirty h = clash is_ready (dirty_plan w) plan.Ready h refl (fails_dirty is_ready w ready_fails)
ready_by own at need None r Miss h = clash is_ready (climb own at r) plan.Ready h refl (fails_climb is_ready own at r ready_fails)
ready_by own at need (Some w) r Miss h =
    clash is_ready (fault_or (fault_of w need) (filling own UserBlock need at (user_place w))) plan.Ready h refl (fails_or is_ready (fault_of w need) own UserBlock need at (user_place w) ready_fails)

pub claim_by : (own : List (Option Line)) (at : ℕ) (need : Need) (e r : Option ℕ) (looked : Looked) → plan_by own at need e r looked ≡ plan.Claim → looked ≡ NeedsClaim
claim_by own at need e r Hit h = cc
claim_by own at need e r Denied h = cc
claim_by own at need e r NeedsClaim h = refl
claim_by own at need None r NeedsDirty h = clash is_claim (climb own at r) plan.Claim h refl (fails_climb is_claim own at r claim_fails)
claim_by own at need (Some w) r NeedsDirty h = clash is_claim (dirty_plan w) plan.Claim h refl (fails_dirty is_claim w claim_fails)
claim_by own at need None r Miss h = clash is_claim (climb own at r) plan.Claim h refl (fails_climb is_claim own at r claim_fails)
claim_by own at need (Some w) r Miss h =
    clash is_claim (fault_or (fault_of w need) (filling own UserBlock need at (user_place w))) plan.Claim h refl (fails_or is_claim (fault_of w need) own UserBlock need at (user_place w) claim_fails)

pub ready-hit : ReadyIsHit
ready-hit own F b at need =
    let e : Option ℕ = where_found (found own (entry_address_of at)) (word_of F at) in
    let r : Option ℕ = where_found (found own (entry_address_of (entry_address_of at))) (root_at F at) in (
      λ (h : answer_of b at (plan_of own F at need) ≡ walked.Ready). ready_by own at need e r (look_of (found own at) need) (plan_ready b at (plan_of own F at need) h),
      λ (h : look_of (found own at) need ≡ Hit). ap (λ (k : Looked). answer_of b at (plan_by own at need e r k)) h,
    )

-- towards a page's entry
alone_if : (x : Bool) → (if x then plan.Ready else plan.Claim) ≡ plan.Ready → x ≡ true
alone_if true h = refl
alone_if false h = cc

fails_page : (test : Plan → Bool) (own : List (Option Line)) (page : ℕ) (r : Option ℕ) → Fails test → test (page_climb own page r) ≡ false
fails_page test own page None fails = fails_filling test own RootBlock Read (entry_address_of (entry_address_of page)) (root_place (entry_address_of (entry_address_of page))) fails
fails_page test own page (Some root) fails = fails_filling test own PteBlock Write (entry_address_of page) (table_place root) fails

page_ready : (own : List (Option Line)) (page : ℕ) (r : Option ℕ) (o : Option Line) → page_by own page r o ≡ plan.Ready → is_alone o ≡ true
page_ready own page r None h = clash is_ready (page_climb own page r) plan.Ready h refl (fails_page is_ready own page r ready_fails)
page_ready own page r (Some line) h = alone_if (is_exclusive line.state) h

page_alone : (own : List (Option Line)) (b g page : ℕ) (r : Option ℕ) (o : Option Line) → is_alone o ≡ true → answer_of b g (page_by own page r o) ≡ walked.Ready
page_alone own b g page r None h = cc
page_alone own b g page r (Some line) h = ap (λ (x : Bool). answer_of b g (if x then plan.Ready else plan.Claim)) h

pub page-ready : PageReadyIsExclusive
page-ready own F b page =
    let r : Option ℕ = where_found (found own (entry_address_of (entry_address_of page))) (root_at F page) in (
      λ (h : answer_of b (entry_address_of page) (page_plan_of own F page) ≡ walked.Ready).
          page_ready own page r (found own (entry_address_of page)) (plan_ready b (entry_address_of page) (page_plan_of own F page) h),
      λ (h : is_alone (found own (entry_address_of page)) ≡ true). page_alone own b (entry_address_of page) page r (found own (entry_address_of page)) h,
    )

abbrev pub is_fault : Plan → Bool
is_fault plan.Ready = false
is_fault (plan.Fault kind) = true
is_fault plan.Refresh = false
is_fault plan.Claim = false
is_fault (plan.WriteBack at) = false
is_fault (plan.Fill l n at place) = false

page_over : (o : Option Line) (l : Layer) (n : Need) (at : ℕ) (place : Place) → is_fault (fill_over o (plan.Fill l n at place)) ≡ false
page_over None l n at place = refl
page_over (Some line) l n at place = fails_if is_fault (is_owned line.state) (plan.WriteBack (block_address line.tag)) (plan.Fill l n at place) refl refl

page_fault : (own : List (Option Line)) (page : ℕ) (r : Option ℕ) (o : Option Line) → is_fault (page_by own page r o) ≡ false
page_fault own page None None = page_over (victim_of own (entry_address_of (entry_address_of page))) RootBlock Read (entry_address_of (entry_address_of page)) (root_place (entry_address_of (entry_address_of page)))
page_fault own page (Some root) None = page_over (victim_of own (entry_address_of page)) PteBlock Write (entry_address_of page) (table_place root)
page_fault own page r (Some line) = fails_if is_fault (is_exclusive line.state) plan.Ready plan.Claim refl refl

pub page-no-fault : PageHasNoFault
page-no-fault own F b page kind h =
    let r : Option ℕ = where_found (found own (entry_address_of (entry_address_of page))) (root_at F page) in
    clash is_fault (page_plan_of own F page) (plan.Fault kind) (plan_fault b (entry_address_of page) (page_plan_of own F page) kind h) refl (page_fault own page r (found own (entry_address_of page)))

-- accesses and their needs
same_grants : (p : Protection) (kind : AccessKind) → grants p (access_of (need_of kind)) ≡ grants p kind
same_grants allow.Nothing access.Load = refl
same_grants allow.Nothing access.Store = refl
same_grants allow.Nothing access.Tas = refl
same_grants allow.ReadOnly access.Load = refl
same_grants allow.ReadOnly access.Store = refl
same_grants allow.ReadOnly access.Tas = refl
same_grants allow.ReadWrite access.Load = refl
same_grants allow.ReadWrite access.Store = refl
same_grants allow.ReadWrite access.Tas = refl

same_write : (kind : AccessKind) → is_read (need_of kind) ≡ not (is_write kind)
same_write access.Load = refl
same_write access.Store = refl
same_write access.Tas = refl

pub walk_there : (o : Option ℕ) → is_valid (or_zero o) ≡ true → o ≡ Some (or_zero o)
walk_there None h = cc
walk_there (Some e) h = refl

-- a line of a present page
pub record Here (F : Flat) (at : ℕ) (line : Line) : Type 0 where
  pub walk : walk_of F at ≡ Some (word_of F at)
  pub valid : is_valid (word_of F at) ≡ true
  pub prot : protection_of (word_of F at) ≡ line.prot
  pub dirty : line.dirty ≡ true → is_dirty (word_of F at) ≡ true

pub here : (caches : List (List (Option Line))) (memory : List ℕ) (b at : ℕ) (line : Line) → IsStanding caches memory b at → line_of_block caches b at ≡ Some line → Here (logical_flat caches memory) at line
here caches memory b at line standing is =
    let F : Flat = logical_flat caches memory in
    let there = is_here caches b at line standing.own is in
    let start : block_address line.tag ≡ block_start_of at = ap (λ (n : ℕ). block_address n) there.tag in
    let low : block_address line.tag < table_start = subst (λ (n : ℕ). n < table_start) (sym start) (start_low at standing.user) in
    let present = standing.present.user b there.slot line there.there low in
    let word : word_of F (block_address line.tag) ≡ word_of F at = ap (λ (n : ℕ). word_of F n) start ∙ word_start F at in
    let valid : is_valid (word_of F at) ≡ true = ap (λ (w : ℕ). is_valid w) (sym word) ∙ present.valid in
    record {
      walk = walk_there (walk_of F at) valid;
      valid = valid;
      prot = ap (λ (w : ℕ). protection_of w) (sym word) ∙ present.prot;
      dirty = λ (d : line.dirty ≡ true). ap (λ (w : ℕ). is_dirty w) (sym word) ∙ present.dirty d;
    }

-- a planned fault applies to the access
abbrev MayBe : Flat → ℕ → AccessKind → Plan → Type 0
MayBe F at kind plan.Ready = ⊤
MayBe F at kind (plan.Fault why) = may_aligned (walk_of F at) kind (Some why) ≡ true
MayBe F at kind plan.Refresh = ⊤
MayBe F at kind plan.Claim = ⊤
MayBe F at kind (plan.WriteBack g) = ⊤
MayBe F at kind (plan.Fill l n g place) = ⊤

may_over : (F : Flat) (at : ℕ) (kind : AccessKind) (o : Option Line) (l : Layer) (n : Need) (g : ℕ) (place : Place) → MayBe F at kind (fill_over o (plan.Fill l n g place))
may_over F at kind None l n g place = tt
may_over F at kind (Some line) l n g place = may_if (is_owned line.state)
  where
    may_if : (own : Bool) → MayBe F at kind (if own then plan.WriteBack (block_address line.tag) else plan.Fill l n g place)
    may_if true = tt
    may_if false = tt

-- step 2
user_if : (v s l a r w d : Bool) (kind : AccessKind) (e : ℕ) (why : FaultKind) → is_valid e ≡ v → is_on_swap e ≡ s → is_leaving e ≡ l → allows e kind ≡ a → is_referenced e ≡ r → is_write kind ≡ w → is_dirty e ≡ d
    → (if not v && not s then Some fault.Unmapped else if not v then Some fault.Missing else if l then Some fault.Leaving else if not a then Some fault.Protection else if not r then Some fault.Reference else if w && not d then Some fault.Dirty else None) ≡ Some why
    → may_with e kind (Some why) ≡ true
user_if v s l a r w d kind e fault.Align hv hs hl ha hr hw hd h = absurd (no_align v s l a r w d h)
  where
    no_align : (v s l a r w d : Bool) → (if not v && not s then Some fault.Unmapped else if not v then Some fault.Missing else if l then Some fault.Leaving else if not a then Some fault.Protection else if not r then Some fault.Reference else if w && not d then Some fault.Dirty else None) ≡ Some fault.Align → ⊥
    no_align true s true a r w d h = cc
    no_align true s false false r w d h = cc
    no_align true s false true false w d h = cc
    no_align true s false true true true true h = cc
    no_align true s false true true true false h = cc
    no_align true s false true true false d h = cc
    no_align false true l a r w d h = cc
    no_align false false l a r w d h = cc
user_if v s l a r w d kind e fault.Unmapped hv hs hl ha hr hw hd h =
    ap (λ (x : Bool). not x && not (is_on_swap e)) hv ∙ ap (λ (x : Bool). not v && not x) hs ∙ is_unmapped v s l a r w d h
  where
    is_unmapped : (v s l a r w d : Bool) → (if not v && not s then Some fault.Unmapped else if not v then Some fault.Missing else if l then Some fault.Leaving else if not a then Some fault.Protection else if not r then Some fault.Reference else if w && not d then Some fault.Dirty else None) ≡ Some fault.Unmapped → (not v && not s) ≡ true
    is_unmapped true s true a r w d h = cc
    is_unmapped true s false false r w d h = cc
    is_unmapped true s false true false w d h = cc
    is_unmapped true s false true true true true h = cc
    is_unmapped true s false true true true false h = cc
    is_unmapped true s false true true false d h = cc
    is_unmapped false true l a r w d h = cc
    is_unmapped false false l a r w d h = refl
user_if v s l a r w d kind e fault.Missing hv hs hl ha hr hw hd h =
    ap (λ (x : Bool). not x && is_on_swap e) hv ∙ ap (λ (x : Bool). not v && x) hs ∙ is_missing v s l a r w d h
  where
    is_missing : (v s l a r w d : Bool) → (if not v && not s then Some fault.Unmapped else if not v then Some fault.Missing else if l then Some fault.Leaving else if not a then Some fault.Protection else if not r then Some fault.Reference else if w && not d then Some fault.Dirty else None) ≡ Some fault.Missing → (not v && s) ≡ true
    is_missing true s true a r w d h = cc
    is_missing true s false false r w d h = cc
    is_missing true s false true false w d h = cc
    is_missing true s false true true true true h = cc
    is_missing true s false true true true false h = cc
    is_missing true s false true true false d h = cc
    is_missing false true l a r w d h = refl
    is_missing false false l a r w d h = cc
user_if v s l a r w d kind e fault.Leaving hv hs hl ha hr hw hd h =
    ap (λ (x : Bool). x && is_leaving e) hv ∙ ap (λ (x : Bool). v && x) hl ∙ is_left v s l a r w d h
  where
    is_left : (v s l a r w d : Bool) → (if not v && not s then Some fault.Unmapped else if not v then Some fault.Missing else if l then Some fault.Leaving else if not a then Some fault.Protection else if not r then Some fault.Reference else if w && not d then Some fault.Dirty else None) ≡ Some fault.Leaving → (v && l) ≡ true
    is_left true s true a r w d h = refl
    is_left true s false false r w d h = cc
    is_left true s false true false w d h = cc
    is_left true s false true true true true h = cc
    is_left true s false true true true false h = cc
    is_left true s false true true false d h = cc
    is_left false true l a r w d h = cc
    is_left false false l a r w d h = cc
user_if v s l a r w d kind e fault.Protection hv hs hl ha hr hw hd h =
    ap (λ (x : Bool). x && not (allows e kind)) hv ∙ ap (λ (x : Bool). v && not x) ha ∙ is_denied v s l a r w d h
  where
    is_denied : (v s l a r w d : Bool) → (if not v && not s then Some fault.Unmapped else if not v then Some fault.Missing else if l then Some fault.Leaving else if not a then Some fault.Protection else if not r then Some fault.Reference else if w && not d then Some fault.Dirty else None) ≡ Some fault.Protection → (v && not a) ≡ true
    is_denied true s true a r w d h = cc
    is_denied true s false false r w d h = refl
    is_denied true s false true false w d h = cc
    is_denied true s false true true true true h = cc
    is_denied true s false true true true false h = cc
    is_denied true s false true true false d h = cc
    is_denied false true l a r w d h = cc
    is_denied false false l a r w d h = cc
user_if v s l a r w d kind e fault.Reference hv hs hl ha hr hw hd h =
    ap (λ (x : Bool). x && not (is_leaving e) && not (is_referenced e) && allows e kind) hv ∙ ap (λ (x : Bool). v && not x && not (is_referenced e) && allows e kind) hl
    ∙ ap (λ (x : Bool). v && not l && not x && allows e kind) hr ∙ ap (λ (x : Bool). v && not l && not r && x) ha ∙ is_referred v s l a r w d h
  where
    is_referred : (v s l a r w d : Bool) → (if not v && not s then Some fault.Unmapped else if not v then Some fault.Missing else if l then Some fault.Leaving else if not a then Some fault.Protection else if not r then Some fault.Reference else if w && not d then Some fault.Dirty else None) ≡ Some fault.Reference → (v && not l && not r && a) ≡ true
    is_referred true s true a r w d h = cc
    is_referred true s false false r w d h = cc
    is_referred true s false true false w d h = refl
    is_referred true s false true true true true h = cc
    is_referred true s false true true true false h = cc
    is_referred true s false true true false d h = cc
    is_referred false true l a r w d h = cc
    is_referred false false l a r w d h = cc
user_if v s l a r w d kind e fault.Dirty hv hs hl ha hr hw hd h =
    ap (λ (x : Bool). x && not (is_leaving e) && not (is_dirty e) && allows e kind && is_write kind) hv ∙ ap (λ (x : Bool). v && not x && not (is_dirty e) && allows e kind && is_write kind) hl
    ∙ ap (λ (x : Bool). v && not l && not x && allows e kind && is_write kind) hd ∙ ap (λ (x : Bool). v && not l && not d && x && is_write kind) ha ∙ ap (λ (x : Bool). v && not l && not d && a && x) hw ∙ is_written v s l a r w d h
  where
    is_written : (v s l a r w d : Bool) → (if not v && not s then Some fault.Unmapped else if not v then Some fault.Missing else if l then Some fault.Leaving else if not a then Some fault.Protection else if not r then Some fault.Reference else if w && not d then Some fault.Dirty else None) ≡ Some fault.Dirty → (v && not l && not d && a && w) ≡ true
    is_written true s true a r w d h = cc
    is_written true s false false r w d h = cc
    is_written true s false true false w d h = cc
    is_written true s false true true true true h = cc
    is_written true s false true true true false h = refl
    is_written true s false true true false d h = cc
    is_written false true l a r w d h = cc
    is_written false false l a r w d h = cc

not_not : (x : Bool) → not (not x) ≡ x
not_not true = refl
not_not false = refl

-- the chain by the access in place of its need
chain : (e : ℕ) (kind : AccessKind) → fault_of e (need_of kind)
    ≡ (if not (is_valid e) && not (is_on_swap e) then Some fault.Unmapped else if not (is_valid e) then Some fault.Missing else if is_leaving e then Some fault.Leaving else if not (allows e kind) then Some fault.Protection else if not (is_referenced e) then Some fault.Reference else if is_write kind && not (is_dirty e) then Some fault.Dirty else None)
chain e access.Load = refl
chain e access.Store = refl
chain e access.Tas = ap (λ (x : Bool). if not (is_valid e) && not (is_on_swap e) then Some fault.Unmapped else if not (is_valid e) then Some fault.Missing else if is_leaving e then Some fault.Leaving else if not x then Some fault.Protection else if not (is_referenced e) then Some fault.Reference else if not (is_dirty e) then Some fault.Dirty else None) (same_grants (protection_of e) access.Tas)

user_fault : (o : Option ℕ) (kind : AccessKind) (why : FaultKind) → fault_of (or_zero o) (need_of kind) ≡ Some why → may_aligned o kind (Some why) ≡ true
user_fault None kind fault.Unmapped h = refl
user_fault None kind fault.Align h = cc
user_fault None kind fault.Missing h = cc
user_fault None kind fault.Leaving h = cc
user_fault None kind fault.Protection h = cc
user_fault None kind fault.Reference h = cc
user_fault None kind fault.Dirty h = cc
user_fault (Some e) kind why h =
    user_if (is_valid e) (is_on_swap e) (is_leaving e) (allows e kind) (is_referenced e) (is_write kind) (is_dirty e) kind e why refl refl refl refl refl refl refl (sym (chain e kind) ∙ h)

may_user : (F : Flat) (own : List (Option Line)) (at : ℕ) (kind : AccessKind) (o : Option FaultKind) → fault_of (word_of F at) (need_of kind) ≡ o → MayBe F at kind (fault_or o (filling own UserBlock (need_of kind) at (user_place (word_of F at))))
may_user F own at kind None is = may_over F at kind (victim_of own at) UserBlock (need_of kind) at (user_place (word_of F at))
may_user F own at kind (Some why) is = user_fault (walk_of F at) kind why is

-- steps 3 and 4
no_walk : (F : Flat) (at : ℕ) (kind : AccessKind) → is_valid (root_at F at) ≡ false → may_aligned (walk_of F at) kind (Some fault.Unmapped) ≡ true
no_walk F at kind invalid =
    ap (λ (x : Bool). may_aligned (if x then Some (slice_index F.words (number_of (root_at F at) * 1024 + at / 2 ^ 12 % 1024)) else None) kind (Some fault.Unmapped)) invalid

may_table : (F : Flat) (own : List (Option Line)) (at : ℕ) (kind : AccessKind) (v : Bool) → is_valid (root_at F at) ≡ v
    → MayBe F at kind (if v then filling own PteBlock Read (entry_address_of at) (table_place (root_at F at)) else plan.Fault fault.Unmapped)
may_table F own at kind true is = may_over F at kind (victim_of own (entry_address_of at)) PteBlock Read (entry_address_of at) (table_place (root_at F at))
may_table F own at kind false is = no_walk F at kind is

may_climb : (F : Flat) (own : List (Option Line)) (at : ℕ) (kind : AccessKind) (o : Option Line) → MayBe F at kind (climb own at (where_found o (root_at F at)))
may_climb F own at kind None = may_over F at kind (victim_of own (entry_address_of (entry_address_of at))) RootBlock Read (entry_address_of (entry_address_of at)) (root_place (entry_address_of (entry_address_of at)))
may_climb F own at kind (Some line) = may_table F own at kind (is_valid (root_at F at)) refl

-- step 1
not_granted : (line : Line) (need : Need) → Answers line need Denied → grants line.prot (access_of need) ≡ false
not_granted line need (Denies n denied) = denied

denied_as : (F : Flat) (at : ℕ) (line : Line) (kind : AccessKind) → Here F at line → Answers line (need_of kind) Denied → may_aligned (walk_of F at) kind (Some fault.Protection) ≡ true
denied_as F at line kind h answer =
    let e : ℕ = word_of F at in
    let denied : grants line.prot (access_of (need_of kind)) ≡ false = not_granted line (need_of kind) answer in
    let allowed : allows e kind ≡ false = ap (λ (p : Protection). grants p kind) h.prot ∙ sym (same_grants line.prot kind) ∙ denied in
    ap (λ (o : Option ℕ). may_aligned o kind (Some fault.Protection)) h.walk
    ∙ ap (λ (x : Bool). x && not (allows e kind)) h.valid ∙ ap (λ (x : Bool). not x) allowed

may_denied : (caches : List (List (Option Line))) (memory : List ℕ) (b at : ℕ) (kind : AccessKind) (o : Option Line) → IsStanding caches memory b at → line_of_block caches b at ≡ o → look_of o (need_of kind) ≡ Denied
    → may_aligned (walk_of (logical_flat caches memory) at) kind (Some fault.Protection) ≡ true
may_denied caches memory b at kind None standing is seen = cc
may_denied caches memory b at kind (Some line) standing is seen =
    denied_as (logical_flat caches memory) at line kind (here caches memory b at line standing is) (answers_as line (need_of kind) Denied seen)

-- a write whose line has a clear dirty copy
pub record Cleared (F : Flat) (at : ℕ) (kind : AccessKind) : Type 0 where
  pub walk : walk_of F at ≡ Some (word_of F at)
  pub valid : is_valid (word_of F at) ≡ true
  pub allowed : allows (word_of F at) kind ≡ true
  pub write : is_write kind ≡ true

cleared_as : (F : Flat) (at : ℕ) (line : Line) (kind : AccessKind) → Here F at line → Answers line (need_of kind) NeedsDirty → Cleared F at kind
cleared_as F at line access.Load h answer = elim answer [ ]
cleared_as F at line access.Store h (Cleans granted clear) = record { walk = h.walk; valid = h.valid; allowed = ap (λ (p : Protection). grants p access.Store) h.prot ∙ granted; write = refl }
cleared_as F at line access.Tas h (Cleans granted clear) =
    record { walk = h.walk; valid = h.valid; allowed = ap (λ (p : Protection). grants p access.Tas) h.prot ∙ sym (same_grants line.prot access.Tas) ∙ granted; write = refl }

cleared : (caches : List (List (Option Line))) (memory : List ℕ) (b at : ℕ) (kind : AccessKind) (o : Option Line) → IsStanding caches memory b at → line_of_block caches b at ≡ o → look_of o (need_of kind) ≡ NeedsDirty → Cleared (logical_flat caches memory) at kind
cleared caches memory b at kind None standing is seen = cc
cleared caches memory b at kind (Some line) standing is seen =
    cleared_as (logical_flat caches memory) at line kind (here caches memory b at line standing is) (answers_as line (need_of kind) NeedsDirty seen)

may_dirty : (F : Flat) (at : ℕ) (kind : AccessKind) (l d : Bool) → Cleared F at kind → is_leaving (word_of F at) ≡ l → is_dirty (word_of F at) ≡ d
    → MayBe F at kind (if l then plan.Fault fault.Leaving else if d then plan.Refresh else plan.Fault fault.Dirty)
may_dirty F at kind true d c leaving dirty =
    ap (λ (o : Option ℕ). may_aligned o kind (Some fault.Leaving)) c.walk ∙ ap (λ (x : Bool). x && is_leaving (word_of F at)) c.valid ∙ leaving
may_dirty F at kind false true c leaving dirty = tt
may_dirty F at kind false false c leaving dirty =
    let e : ℕ = word_of F at in
    ap (λ (o : Option ℕ). may_aligned o kind (Some fault.Dirty)) c.walk
    ∙ ap (λ (x : Bool). x && not (is_leaving e) && not (is_dirty e) && allows e kind && is_write kind) c.valid
    ∙ ap (λ (x : Bool). not x && not (is_dirty e) && allows e kind && is_write kind) leaving
    ∙ ap (λ (x : Bool). not x && allows e kind && is_write kind) dirty
    ∙ ap (λ (x : Bool). x && is_write kind) c.allowed
    ∙ c.write

may_be : (caches : List (List (Option Line))) (memory : List ℕ) (b at : ℕ) (kind : AccessKind) (e : Option Line) (looked : Looked) → IsStanding caches memory b at → look_of (line_of_block caches b at) (need_of kind) ≡ looked
    → MayBe (logical_flat caches memory) at kind (plan_by (get_or caches b []) at (need_of kind) (where_found e (word_of (logical_flat caches memory) at)) (where_found (line_of_block caches b (entry_address_of (entry_address_of at))) (root_at (logical_flat caches memory) at)) looked)
may_be caches memory b at kind e Hit standing seen = tt
may_be caches memory b at kind e Denied standing seen = may_denied caches memory b at kind (line_of_block caches b at) standing refl seen
may_be caches memory b at kind e NeedsClaim standing seen = tt
may_be caches memory b at kind None NeedsDirty standing seen = may_climb (logical_flat caches memory) (get_or caches b []) at kind (line_of_block caches b (entry_address_of (entry_address_of at)))
may_be caches memory b at kind (Some line) NeedsDirty standing seen =
    may_dirty (logical_flat caches memory) at kind (is_leaving (word_of (logical_flat caches memory) at)) (is_dirty (word_of (logical_flat caches memory) at)) (cleared caches memory b at kind (line_of_block caches b at) standing refl seen) refl refl
may_be caches memory b at kind None Miss standing seen = may_climb (logical_flat caches memory) (get_or caches b []) at kind (line_of_block caches b (entry_address_of (entry_address_of at)))
may_be caches memory b at kind (Some line) Miss standing seen = may_user (logical_flat caches memory) (get_or caches b []) at kind (fault_of (word_of (logical_flat caches memory) at) (need_of kind)) refl

aligned_may : (o : Option ℕ) (kind : AccessKind) (at : ℕ) (answer : Option FaultKind) → is_aligned at ≡ true → may_aligned o kind answer ≡ true → may o kind at answer ≡ true
aligned_may o kind at answer aligned h = ap (λ (x : Bool). if x then may_aligned o kind answer else is_align answer) aligned ∙ h

-- the fault that is answered is that of the access, were its address aligned
pub fault-applies : (caches : List (List (Option Line))) (memory : List ℕ) (b at : ℕ) (kind : AccessKind) (why : FaultKind) → IsStanding caches memory b at → answer_of b at (access_plan caches memory b at (need_of kind)) ≡ walked.Fault why
    → may_aligned (walk_of (logical_flat caches memory) at) kind (Some why) ≡ true
fault-applies caches memory b at kind why standing h =
    let F : Flat = logical_flat caches memory in
    let by = may_be caches memory b at kind (line_of_block caches b (entry_address_of at)) (look_of (line_of_block caches b at) (need_of kind)) standing refl in
    subst (λ (p : Plan). MayBe F at kind p) (plan_fault b at (access_plan caches memory b at (need_of kind)) why h) by

pub fault-stands : FaultMayStand
fault-stands caches memory b at kind why standing aligned h =
    let F : Flat = logical_flat caches memory in
    let applies = fault-applies caches memory b at kind why standing h in
    record {
      told = λ (rest : Flat). aligned_may (walk_of F at) kind at (Some why) aligned applies;
      untold = λ (G : Flat) (has : HasTablesOf G (logical_words caches memory)).
          ap (λ (o : Option ℕ). may o kind at (Some why)) (same_walk G F at has standing.user) ∙ aligned_may (walk_of F at) kind at (Some why) aligned applies;
      tagged = λ (G : Flat). refl;
    }

-- an access that is ready
pub record Done (caches : List (List (Option Line))) (memory : List ℕ) (b at : ℕ) (kind : AccessKind) : Type 0 where
  pub allowed : may_aligned (walk_of (logical_flat caches memory) at) kind None ≡ true
  pub tagged : (F : Flat) (word value : ℕ) → tags_refusal F (tags_of caches) (done_entry kind b at word value) ≡ None

two_held : (a c : Bool) (m n x y : ℕ) → a ≡ true → c ≡ true → tag_condition a m x (tag_condition c n y None) ≡ None
two_held true true m n x y ha hc = refl
two_held true false m n x y ha hc = cc
two_held false c m n x y ha hc = cc

read_done : (d : Bool) → (d || true) ≡ true
read_done true = refl
read_done false = refl

write_tagged : (caches : List (List (Option Line))) (b at : ℕ) (line : Line) → b < length caches → line_of_block caches b at ≡ Some line → line.dirty ≡ true → is_exclusive line.state ≡ true
    → write_refusal (T.tag_at (tags_of caches) b (block_of at)) ≡ None
write_tagged caches b at line within is dirty exclusive =
    ap write_refusal (tags_in caches b at line within is) ∙ two_held (is_exclusive line.state) line.dirty 2 3 (state_number line.state) 0 exclusive dirty

done_as : (caches : List (List (Option Line))) (memory : List ℕ) (b at : ℕ) (kind : AccessKind) (line : Line) → IsStanding caches memory b at → line_of_block caches b at ≡ Some line → Answers line (need_of kind) Hit → Done caches memory b at kind
done_as caches memory b at access.Load line standing is (Reads granted) =
    let F : Flat = logical_flat caches memory in
    let h = here caches memory b at line standing is in
    let e : ℕ = word_of F at in
    record {
      allowed = ap (λ (o : Option ℕ). may_aligned o access.Load None) h.walk
          ∙ ap (λ (x : Bool). x && allows e access.Load && (is_dirty e || true)) h.valid
          ∙ ap (λ (x : Bool). x && (is_dirty e || true)) (ap (λ (p : Protection). grants p access.Load) h.prot ∙ granted)
          ∙ read_done (is_dirty e);
      tagged = λ (G : Flat) (word value : ℕ).
          ap load_refusal (tags_in caches b at line standing.own is)
          ∙ ap (λ (x : Bool). tag_condition x 1 (state_number line.state) None) (alive line.state (found_held (get_or caches b []) at line (own_cache caches b standing.walk.agree standing.own) is).valid);
    }
done_as caches memory b at access.Store line standing is (Writes granted dirty exclusive) =
    let F : Flat = logical_flat caches memory in
    let h = here caches memory b at line standing is in
    let e : ℕ = word_of F at in
    record {
      allowed = ap (λ (o : Option ℕ). may_aligned o access.Store None) h.walk
          ∙ ap (λ (x : Bool). x && allows e access.Store && (is_dirty e || false)) h.valid
          ∙ ap (λ (x : Bool). x && (is_dirty e || false)) (ap (λ (p : Protection). grants p access.Store) h.prot ∙ granted)
          ∙ ap (λ (x : Bool). x || false) (h.dirty dirty);
      tagged = λ (G : Flat) (word value : ℕ). write_tagged caches b at line standing.own is dirty exclusive;
    }
done_as caches memory b at access.Tas line standing is (Writes granted dirty exclusive) =
    let F : Flat = logical_flat caches memory in
    let h = here caches memory b at line standing is in
    let e : ℕ = word_of F at in
    record {
      allowed = ap (λ (o : Option ℕ). may_aligned o access.Tas None) h.walk
          ∙ ap (λ (x : Bool). x && allows e access.Tas && (is_dirty e || false)) h.valid
          ∙ ap (λ (x : Bool). x && (is_dirty e || false)) (ap (λ (p : Protection). grants p access.Tas) h.prot ∙ sym (same_grants line.prot access.Tas) ∙ granted)
          ∙ ap (λ (x : Bool). x || false) (h.dirty dirty);
      tagged = λ (G : Flat) (word value : ℕ). write_tagged caches b at line standing.own is dirty exclusive;
    }

done_in : (caches : List (List (Option Line))) (memory : List ℕ) (b at : ℕ) (kind : AccessKind) (o : Option Line) → IsStanding caches memory b at → line_of_block caches b at ≡ o → look_of o (need_of kind) ≡ Hit → Done caches memory b at kind
done_in caches memory b at kind None standing is seen = cc
done_in caches memory b at kind (Some line) standing is seen = done_as caches memory b at kind line standing is (answers_as line (need_of kind) Hit seen)

done_stands : (caches : List (List (Option Line))) (memory : List ℕ) (b at value : ℕ) (kind : AccessKind) → IsStanding caches memory b at → is_aligned at ≡ true → Done caches memory b at kind
    → MayStand caches memory (done_entry kind b at (data_word (logical_flat caches memory) at) value)
done_stands caches memory b at value access.Load standing aligned d =
    let F : Flat = logical_flat caches memory in
    record {
      told = λ (rest : Flat). (aligned_may (walk_of F at) access.Load at None aligned d.allowed, refl);
      untold = λ (G : Flat) (has : HasTablesOf G (logical_words caches memory)).
          ap (λ (o : Option ℕ). may o access.Load at None) (same_walk G F at has standing.user) ∙ aligned_may (walk_of F at) access.Load at None aligned d.allowed;
      tagged = λ (G : Flat). d.tagged G (data_word F at) value;
    }
done_stands caches memory b at value access.Store standing aligned d =
    let F : Flat = logical_flat caches memory in
    record {
      told = λ (rest : Flat). aligned_may (walk_of F at) access.Store at None aligned d.allowed;
      untold = λ (G : Flat) (has : HasTablesOf G (logical_words caches memory)).
          ap (λ (o : Option ℕ). may o access.Store at None) (same_walk G F at has standing.user) ∙ aligned_may (walk_of F at) access.Store at None aligned d.allowed;
      tagged = λ (G : Flat). d.tagged G (data_word F at) value;
    }
done_stands caches memory b at value access.Tas standing aligned d =
    let F : Flat = logical_flat caches memory in
    record {
      told = λ (rest : Flat). (aligned_may (walk_of F at) access.Tas at None aligned d.allowed, refl);
      untold = λ (G : Flat) (has : HasTablesOf G (logical_words caches memory)).
          ap (λ (o : Option ℕ). may o access.Tas at None) (same_walk G F at has standing.user) ∙ aligned_may (walk_of F at) access.Tas at None aligned d.allowed;
      tagged = λ (G : Flat). d.tagged G (data_word F at) value;
    }

pub ready-stands : ReadyMayStand
ready-stands caches memory b at value kind standing aligned h =
    let own : List (Option Line) = get_or caches b [] in
    let F : Flat = logical_flat caches memory in
    let seen : look_of (line_of_block caches b at) (need_of kind) ≡ Hit =
    ready_by own at (need_of kind) (where_found (found own (entry_address_of at)) (word_of F at)) (where_found (found own (entry_address_of (entry_address_of at))) (root_at F at)) (look_of (found own at) (need_of kind))
    (plan_ready b at (access_plan caches memory b at (need_of kind)) h) in
    done_stands caches memory b at value kind standing aligned (done_in caches memory b at kind (line_of_block caches b at) standing refl seen)

-- the word of a line
pub line_word : (caches : List (List (Option Line))) (memory : List ℕ) (b at : ℕ) (line : Line) → MayWalk caches memory → b < length caches → at < table_start → line_of_block caches b at ≡ Some line
    → slice_index line.words (word_in_block_of at) ≡ data_word (logical_flat caches memory) at
line_word caches memory b at line may within user is =
    let F : Flat = logical_flat caches memory in
    let there = is_here caches b at line within is in
    let start : block_address line.tag ≡ block_start_of at = ap (λ (n : ℕ). block_address n) there.tag in
    let low : block_address line.tag < table_start = subst (λ (n : ℕ). n < table_start) (sym start) (start_low at user) in
    let stood = stands_user F line.tag line.frame (may.mapped b there.slot line there.there) low in
    let word : word_of F (block_address line.tag) ≡ word_of F at = ap (λ (n : ℕ). word_of F n) start ∙ word_start F at in
    let walk : walk_of F at ≡ Some (word_of F at) = walk_there (walk_of F at) (ap (λ (w : ℕ). is_valid w) (sym word) ∙ stood.valid) in
    let frame : number_of (word_of F at) ≡ line.frame = ap (λ (w : ℕ). number_of w) (sym word) ∙ stood.number in
    let k : ℕ = line.frame * 1024 + at / 2 ^ 2 % 1024 in
    let room : line.frame * 1024 + 1024 ≤ length memory = may.serves.within b there.slot line there.there in
    let high : at / 2 ^ 2 / 2 ^ 3 ≡ at / 2 ^ 5 = shr-shr at 2 3 in
    let tag : line.tag ≡ at / 2 ^ 5 = there.tag in
    let at_line : IsAt k line = record { frame = omega arith; position = omega arith } in
    let in_block : k % 8 ≡ word_in_block_of at = omega arith in
    ap (slice_index line.words) (sym in_block) ∙ may.serves.words b there.slot k line there.there at_line ∙ sym (logical_index caches memory k (omega arith))
    ∙ ap (λ (n : ℕ). slice_index F.words (n * 1024 + at / 2 ^ 2 % 1024)) (sym frame)
    ∙ sym (ap (λ (o : Option ℕ). slice_index F.words (place_in o at)) walk)

word_hit : (caches : List (List (Option Line))) (memory : List ℕ) (b at : ℕ) (need : Need) (o : Option Line) → MayWalk caches memory → b < length caches → at < table_start → line_of_block caches b at ≡ o → look_of o need ≡ Hit
    → word_in o at ≡ data_word (logical_flat caches memory) at
word_hit caches memory b at need None may within user is seen = cc
word_hit caches memory b at need (Some line) may within user is seen = line_word caches memory b at line may within user is

pub ready-word : ReadyHasTheWord
ready-word caches memory b at need may within user h =
    let own : List (Option Line) = get_or caches b [] in
    let F : Flat = logical_flat caches memory in
    let seen : look_of (line_of_block caches b at) need ≡ Hit =
    ready_by own at need (where_found (found own (entry_address_of at)) (word_of F at)) (where_found (found own (entry_address_of (entry_address_of at))) (root_at F at)) (look_of (found own at) need)
    (plan_ready b at (access_plan caches memory b at need) h) in
    word_hit caches memory b at need (line_of_block caches b at) may within user refl seen

-- a fault that is served comes by the entry of the page, whose block is found
abbrev is_served_plan : Plan → Bool
is_served_plan plan.Ready = false
is_served_plan (plan.Fault kind) = is_served kind
is_served_plan plan.Refresh = false
is_served_plan plan.Claim = false
is_served_plan (plan.WriteBack at) = false
is_served_plan (plan.Fill l n at place) = false

unserved_over : (o : Option Line) (l : Layer) (n : Need) (at : ℕ) (place : Place) → is_served_plan (fill_over o (plan.Fill l n at place)) ≡ false
unserved_over None l n at place = refl
unserved_over (Some line) l n at place = fails_if is_served_plan (is_owned line.state) (plan.WriteBack (block_address line.tag)) (plan.Fill l n at place) refl refl

unserved_climb : (own : List (Option Line)) (at : ℕ) (r : Option ℕ) → is_served_plan (climb own at r) ≡ false
unserved_climb own at None = unserved_over (victim_of own (entry_address_of (entry_address_of at))) RootBlock Read (entry_address_of (entry_address_of at)) (root_place (entry_address_of (entry_address_of at)))
unserved_climb own at (Some root) =
    fails_if is_served_plan (is_valid root) (filling own PteBlock Read (entry_address_of at) (table_place root)) (plan.Fault fault.Unmapped)
    (unserved_over (victim_of own (entry_address_of at)) PteBlock Read (entry_address_of at) (table_place root)) refl

served_by : (caches : List (List (Option Line))) (b at w : ℕ) (need : Need) (e : Option Line) (r : Option ℕ) (looked : Looked) (kind : FaultKind) → is_served kind ≡ true → line_of_block caches b (entry_address_of at) ≡ e
    → plan_by (get_or caches b []) at need (where_found e w) r looked ≡ plan.Fault kind → HasBlock caches b (entry_address_of at)
served_by caches b at w need (Some line) r looked kind served is h = record { line = line; there = is }
served_by caches b at w need None r Hit kind served is h = cc
served_by caches b at w need None r Denied kind served is h = clash is_served_plan (plan.Fault fault.Protection) (plan.Fault kind) h served refl
served_by caches b at w need None r NeedsClaim kind served is h = cc
served_by caches b at w need None r NeedsDirty kind served is h = clash is_served_plan (climb (get_or caches b []) at r) (plan.Fault kind) h served (unserved_climb (get_or caches b []) at r)
served_by caches b at w need None r Miss kind served is h = clash is_served_plan (climb (get_or caches b []) at r) (plan.Fault kind) h served (unserved_climb (get_or caches b []) at r)

pub served-finds : ServedFaultFindsEntry
served-finds caches memory b at need kind served h =
    let own : List (Option Line) = get_or caches b [] in
    let F : Flat = logical_flat caches memory in
    served_by caches b at (word_of F at) need (line_of_block caches b (entry_address_of at)) (where_found (found own (entry_address_of (entry_address_of at))) (root_at F at)) (look_of (found own at) need) kind served refl
    (plan_fault b at (access_plan caches memory b at need) kind h)

-- and its line has the word of the tables
pub found-word : FoundEntryIsTheTables
found-word caches memory b at may within user has =
    ap (λ (o : Option Line). word_in o (entry_address_of at)) has.there ∙ sym (entry_word caches memory b at has.line may within user has.there)
