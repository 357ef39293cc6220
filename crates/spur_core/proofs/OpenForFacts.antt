-- The open entries of a board that walks towards an access, and what is answered after them.
use Rattle.std.proofs.Common.{◌≡◌, ◌∙◌, ℕ, ◌+◌, ◌<◌, ◌≤◌, ◌⊎◌, inl, inr, ⊎_elim, Bool, true, false, if◌then◌else◌, ap, sym, refl, subst, List, [], ◌∷◌, ◌++◌, get_or, length, slice_set, Option, Some, None, arith}
use Rattle.std.specs.List.{AllByRecursion}
use Rattle.std.proofs.lemmas.Bool.{lt-ltb}
use Rattle.std.proofs.lemmas.List.{get_or-set_same}
use Rattle.spur_addr.specs.Address.{table_start}
use Rattle.spur_cache.specs.declared.line.Line.{Line}
use Rattle.spur_snoop.specs.declared.Need.{Need}
use Rattle.spur_snoop.specs.declared.Need.TheVariants.{Read, Write}
use Rattle.spur_flat.specs.declared.access.AccessKind.{AccessKind}
use Rattle.spur_flat.specs.declared.access.AccessKind.TheVariants as access
use Rattle.spur_flat.specs.declared.access.FaultKind.{FaultKind}
use Rattle.spur_flat.specs.declared.entry.Entry.{Entry}
use Rattle.spur_flat.specs.declared.entry.Entry.TheVariants as entry
use Rattle.spur_flat.specs.Blocks.{Apart, Opens, Role, access_blocks, role_of}
use Rattle.spur_flat.specs.Needed.{TooMany, is_modest, lack_in, lack_of, open_at, open_in, open_on}
use Rattle.spur_bus.specs.Boards.{line_of_block}
use Rattle.spur_bus.specs.Calls.{line_count}
use Rattle.spur_bus.specs.Stand.{IsOfBus}
use Rattle.spur_walk.specs.declared.looked.Looked.TheVariants.{Hit}
use Rattle.spur_walk.specs.declared.plan.Plan.{Plan}
use Rattle.spur_walk.specs.declared.step.Walked.{Walked}
use Rattle.spur_walk.specs.declared.step.Walked.TheVariants as walked
use Rattle.spur_walk.specs.Bounds.{steps_left}
use Rattle.spur_walk.specs.Laws.{IsServing, done_entry, need_of, owned_for}
use Rattle.spur_walk.specs.Look.{look_of}
use Rattle.spur_walk.specs.Plan.{access_plan}
use Rattle.spur_walk.specs.Present.{MayWalk}
use Rattle.spur_walk.specs.Steps.{Steps, answer_of, stepped}
use Rattle.spur_walk.specs.Tables.{logical_flat}
use Rattle.spur_walk.proofs.AnswerFacts.{ready-hit}
use Rattle.spur_walk.proofs.BoundFacts.{steps-few}
use Rattle.spur_walk.proofs.FallFacts.{steps-fall}
use Rattle.spur_walk.proofs.ModestFacts.{moved-modest}
use Rattle.spur_walk.proofs.OpenedFacts.{all-push, lacks_nothing, small_length}
use Rattle.spur_walk.proofs.ServeFacts.{access-served}
use Rattle.spur_core.specs.Approach.{IsOpenFor}
use Rattle.spur_core.specs.Tally.{is_serving}

-- an entry of the bus serves nothing
pub bus_idle : (e : Entry) → IsOfBus e → is_serving e ≡ false
bus_idle (entry.Fill b l n at) is = refl
bus_idle (entry.Claim b at) is = refl
bus_idle (entry.WriteBack b at) is = refl
bus_idle (entry.Refresh b at) is = refl
bus_idle (entry.BlockFlush b holder at) is = refl
bus_idle e is = absurd is

-- a step's entry is needed, and what is open after it is open for the access; the lists of other boards stay
pub record IsNeededThen (caches after : List (List (Option Line))) (b at : ℕ) (need : Need) (opened : List (List Entry)) (e : Entry) : Type 0 where
  pub needed : lack_of (line_count caches) opened e ≡ None
  pub opens : IsOpenFor after b at need (open_at (open_on opened e) b)
  pub others : open_on opened e ≡ slice_set opened b (open_at (open_on opened e) b)

-- nothing is open
pub nothing-open : (caches : List (List (Option Line))) (b at : ℕ) (need : Need) → IsOpenFor caches b at need []
nothing-open caches b at need =
    let few : steps_left (get_or caches b []) at need ≤ 6 = (steps-few (get_or caches b []) at need).steps in
    record { serving = tt; modest = inr tt; few = omega arith }

-- one more entry, by its role
record Opened (lines : ℕ) (os : List Entry) (e : Entry) (role : Role) : Type 1 where
  lacks : lack_in lines os role ≡ None
  short : length (open_in os e role) ≤ length os + 1
  each : (P : Entry → Type 0) → AllByRecursion P os → P e → AllByRecursion P (open_in os e role)

opens : (lines : ℕ) (os : List Entry) (e : Entry) → length os < 6 → Opened lines os e Opens
opens lines os e few = record {
  lacks = ap (λ (t : Bool). if t then None else Some TooMany) (lt-ltb (length os) 6 few);
  short = let is : length (os ++ e ∷ []) ≡ length os + 1 = small_length os e in omega arith;
  each = λ (P : Entry → Type 0) (all : AllByRecursion P os) (one : P e). all-push P os e all one;
}

apart : (lines : ℕ) (os : List Entry) (e : Entry) → Opened lines os e Apart
apart lines os e = record { lacks = refl; short = omega arith; each = λ (P : Entry → Type 0) (all : AllByRecursion P os) (one : P e). all }

opened_by : (lines : ℕ) (os : List Entry) (e : Entry) → IsOfBus e → length os < 6 → Opened lines os e (role_of e)
opened_by lines os (entry.Fill b l n at) is few = opens lines os (entry.Fill b l n at) few
opened_by lines os (entry.Claim b at) is few = opens lines os (entry.Claim b at) few
opened_by lines os (entry.WriteBack b at) is few = opens lines os (entry.WriteBack b at) few
opened_by lines os (entry.Refresh b at) is few = apart lines os (entry.Refresh b at)
opened_by lines os (entry.BlockFlush b holder at) is few = apart lines os (entry.BlockFlush b holder at)
opened_by lines os (entry.Load b at value) is few = absurd is
opened_by lines os (entry.Store b at value) is few = absurd is
opened_by lines os (entry.Tas b at old) is few = absurd is
opened_by lines os (entry.Fault b kind access at) is few = absurd is
opened_by lines os (entry.Leave b at) is few = absurd is
opened_by lines os (entry.PageOut b at) is few = absurd is
opened_by lines os (entry.PageIn b at frame) is few = absurd is
opened_by lines os (entry.SetRef b at) is few = absurd is
opened_by lines os (entry.SetDirty b at) is few = absurd is
opened_by lines os (entry.ClearRef b at) is few = absurd is

-- an access that hits is ready
ready : (caches : List (List (Option Line))) (memory : List ℕ) (b at : ℕ) (need : Need) → look_of (line_of_block caches b at) need ≡ Hit → answer_of b at (access_plan caches memory b at need) ≡ walked.Ready
ready caches memory b at need hit = (ready-hit (get_or caches b []) (logical_flat caches memory) b at need).1 hit

not_moved : (e : Entry) (a : Walked) → a ≡ walked.Ready → a ≡ walked.Moved e → ⊥
not_moved e a is h = let clash : walked.Ready ≡ walked.Moved e = sym is ∙ h in cc

not_fault : (why : FaultKind) (a : Walked) → a ≡ walked.Ready → a ≡ walked.Fault why → ⊥
not_fault why a is h = let clash : walked.Ready ≡ walked.Fault why = sym is ∙ h in cc

abbrev IsModest : Entry → Type 0
IsModest e = is_modest None e ≡ true

pub step-open : (before after : List (List (Option Line))) (old new : List ℕ) (b at : ℕ) (need : Need) (opened : List (List Entry)) (e : Entry) → MayWalk before old → b < length before → at < table_start → b < length opened
    → Steps before old b at (access_plan before old b at need) after new → answer_of b at (access_plan before old b at need) ≡ walked.Moved e
    → IsOpenFor before b at need (open_at opened b) → IsNeededThen before after b at need opened e
step-open before after old new b at need opened e may within user boards s h was =
    let p : Plan = access_plan before old b at need in
    let lines : ℕ = line_count before in
    let os : List Entry = open_at opened b in
    let P : Entry → Type 0 = λ (x : Entry). IsServing b lines (access_blocks at) (owned_for need at) x in
    let one : P e = access-served before old b at need e may within user h in
    let falls = steps-fall before old b at need e may within user h in
    let less : steps_left (get_or (stepped before old b at p) b []) at need < steps_left (get_or before b []) at need = falls.steps in
    let few : length os + steps_left (get_or before b []) at need ≤ 6 = was.few in
    let o = opened_by lines os e one.bus (omega arith) in
    let short : length (open_in os e (role_of e)) ≤ length os + 1 = o.short in
    let on_is : open_on opened e ≡ slice_set opened b (open_in os e (role_of e)) = ap (λ (n : ℕ). slice_set opened n (open_in (open_at opened n) e (role_of e))) one.board in
    let at_is : open_at (open_on opened e) b ≡ open_in os e (role_of e) = ap (λ (l : List (List Entry)). open_at l b) on_is ∙ get_or-set_same opened b (open_in os e (role_of e)) [] boards in
    let count : line_count (stepped before old b at p) ≡ lines = ap line_count (sym s.caches) ∙ s.lines in
    let modest : (look_of (line_of_block (stepped before old b at p) b at) need ≡ Hit) ⊎ AllByRecursion IsModest (open_in os e (role_of e)) =
    ⊎_elim
    (λ (m : IsModest e).
    ⊎_elim
    (λ (hit : look_of (line_of_block before b at) need ≡ Hit). absurd (not_moved e (answer_of b at p) (ready before old b at need hit) h))
    (λ (all : AllByRecursion IsModest os). inr (o.each IsModest all m))
    was.modest)
    (λ (hit : look_of (line_of_block (stepped before old b at p) b at) need ≡ Hit). inl hit)
    (moved-modest before old b at need e may within user h) in
    let opens_next : IsOpenFor (stepped before old b at p) b at need (open_in os e (role_of e)) = record {
      serving = subst (λ (n : ℕ). AllByRecursion (IsServing b n (access_blocks at) (owned_for need at)) (open_in os e (role_of e))) (sym count) (o.each P was.serving one);
      modest = modest;
      few = omega arith;
    } in
    record {
      needed = ap (λ (n : ℕ). lack_in lines (open_at opened n) (role_of e)) one.board ∙ o.lacks;
      opens = subst (λ (cs : List (List (Option Line))). IsOpenFor cs b at need (open_at (open_on opened e) b)) (sym s.caches)
          (subst (λ (l : List Entry). IsOpenFor (stepped before old b at p) b at need l) (sym at_is) opens_next);
      others = on_is ∙ ap (slice_set opened b) (sym at_is);
    }

-- entries that serve and ask to own no block serve what may own none
without_owner : (b lines : ℕ) (blocks : List ℕ) (owned : Option ℕ) (es : List Entry) → AllByRecursion (IsServing b lines blocks owned) es → AllByRecursion IsModest es → AllByRecursion (IsServing b lines blocks None) es
without_owner b lines blocks owned [] all modest = tt
without_owner b lines blocks owned (e ∷ es) all modest = (
  record { board = all.0.board; bus = all.0.bus; useful = all.0.useful; refreshed = all.0.refreshed; modest = modest.0 },
  without_owner b lines blocks owned es all.1 modest.1,
)

pub done_needed : (caches : List (List (Option Line))) (b at : ℕ) (kind : AccessKind) (opened : List (List Entry)) (word value : ℕ) → IsOpenFor caches b at (need_of kind) (open_at opened b) → lack_of (line_count caches) opened (done_entry kind b at word value) ≡ None
done_needed caches b at access.Load opened word value was = lacks_nothing b (line_count caches) (access_blocks at) (owned_for Read at) (open_at opened b) was.serving
done_needed caches b at access.Store opened word value was = lacks_nothing b (line_count caches) (access_blocks at) (owned_for Write at) (open_at opened b) was.serving
done_needed caches b at access.Tas opened word value was = lacks_nothing b (line_count caches) (access_blocks at) (owned_for Write at) (open_at opened b) was.serving

-- what is answered needs what is open: the fault, and the access that is ready
pub fault_needed : (caches : List (List (Option Line))) (memory : List ℕ) (b at : ℕ) (kind : AccessKind) (why : FaultKind) (opened : List (List Entry)) → IsOpenFor caches b at (need_of kind) (open_at opened b)
    → answer_of b at (access_plan caches memory b at (need_of kind)) ≡ walked.Fault why → lack_of (line_count caches) opened (entry.Fault b why kind at) ≡ None
fault_needed caches memory b at kind why opened was h =
    ⊎_elim
    (λ (hit : look_of (line_of_block caches b at) (need_of kind) ≡ Hit).
    absurd (not_fault why (answer_of b at (access_plan caches memory b at (need_of kind))) (ready caches memory b at (need_of kind) hit) h))
    (λ (modest : AllByRecursion IsModest (open_at opened b)).
    lacks_nothing b (line_count caches) (access_blocks at) None (open_at opened b)
    (without_owner b (line_count caches) (access_blocks at) (owned_for (need_of kind) at) (open_at opened b) was.serving modest))
    was.modest
