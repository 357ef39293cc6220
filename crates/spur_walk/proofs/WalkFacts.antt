-- What the two calls plan from the board's own cache is the plan by the tables of the logical memory.
use Rattle.std.proofs.Common.{◌≡◌, ◌∙◌, ℕ, ◌<◌, ap, refl, sym, subst, List, [], get_or, length, map, slice_index, true, Option}
use Rattle.std.specs.Prelude.{IsTrue}
use Rattle.std.proofs.lemmas.List.{length-map}
use Rattle.spur_addr.specs.Address.{entry_address_of, root_index_of, table_start}
use Rattle.spur_addr.specs.PageEntry.{is_readable, is_valid}
use Rattle.spur_cache.specs.declared.line.Line.{Line}
use Rattle.spur_cache.specs.Lens.{IsLens, Lens, OnlyLines, caches}
use Rattle.spur_cache.specs.Lines.{found, word_in}
use Rattle.spur_snoop.specs.declared.Need.{Need}
use Rattle.spur_bus.proofs.BoardFacts.{lines_here}
use Rattle.spur_bus.proofs.LensFacts.{only_lines-still}
use Rattle.spur_walk.specs.declared.plan.Plan.{Plan}
use Rattle.spur_walk.specs.declared.plan.Plan.TheVariants as plan
use Rattle.spur_walk.specs.declared.step.Walked.{Walked}
use Rattle.spur_bus.specs.Logical.{logical_words}
use Rattle.spur_walk.specs.Tables.{logical_flat, root_at}
use Rattle.spur_walk.specs.Present.{MayWalk}
use Rattle.spur_walk.specs.Plan.{access_plan, own_page_plan, own_plan, page_plan}
use Rattle.spur_walk.specs.Steps.{HasNoEntry, Steps, answer_of, stepped, stepped_memory}
use Rattle.spur_walk.proofs.TableFacts.{entry_readable, own_is, own_page_is, root_readable}

-- a board is one of the caches
pub within : {X : Type 0} (lines_of : X → List (Option Line)) (boards : List X) (b : ℕ) → b < length boards → b < length (map lines_of boards)
within lines_of boards b less = subst (λ (n : ℕ). b < n) (sym (length-map boards lines_of)) less

-- and its cache is this
pub own_lines : {X : Type 0} (lines_of : X → List (Option Line)) (boards : List X) (d : X) (lines : List (Option Line)) (b : ℕ) → b < length boards → lines ≡ lines_of (get_or boards b d) → get_or (map lines_of boards) b [] ≡ lines
own_lines lines_of boards d lines b less is = lines_here lines_of boards b d less ∙ sym is

pub planned : {X : Type 0} (lines_of : X → List (Option Line)) (boards : List X) (d : X) (lines : List (Option Line)) (memory : List ℕ) (b at : ℕ) (need : Need) (p : Plan) → b < length boards → MayWalk (map lines_of boards) memory → at < table_start
    → lines ≡ lines_of (get_or boards b d) → p ≡ own_plan lines at need → p ≡ access_plan (map lines_of boards) memory b at need
planned lines_of boards d lines memory b at need p less may user is plan_is =
    plan_is ∙ ap (λ (ls : List (Option Line)). own_plan ls at need) (sym (own_lines lines_of boards d lines b less is)) ∙ own_is (map lines_of boards) memory b at need may (within lines_of boards b less) user

pub page_planned : {X : Type 0} (lines_of : X → List (Option Line)) (boards : List X) (d : X) (lines : List (Option Line)) (memory : List ℕ) (b page : ℕ) (p : Plan) → b < length boards → MayWalk (map lines_of boards) memory → page < table_start
    → lines ≡ lines_of (get_or boards b d) → p ≡ own_page_plan lines page → p ≡ page_plan (map lines_of boards) memory b page
page_planned lines_of boards d lines memory b page p less may user is plan_is =
    plan_is ∙ ap (λ (ls : List (Option Line)). own_page_plan ls page) (sym (own_lines lines_of boards d lines b less is)) ∙ own_page_is (map lines_of boards) memory b page may (within lines_of boards b less) user

-- the words that are read there are entries
pub entry_read : {X : Type 0} (lines_of : X → List (Option Line)) (boards : List X) (d : X) (lines : List (Option Line)) (memory : List ℕ) (b at : ℕ) → b < length boards → MayWalk (map lines_of boards) memory → at < table_start
    → lines ≡ lines_of (get_or boards b d) → IsTrue (is_readable (word_in (found lines (entry_address_of at)) (entry_address_of at)))
entry_read lines_of boards d lines memory b at less may user is =
    subst (λ (ls : List (Option Line)). IsTrue (is_readable (word_in (found ls (entry_address_of at)) (entry_address_of at)))) (own_lines lines_of boards d lines b less is)
    (entry_readable (map lines_of boards) memory b at may (within lines_of boards b less) user)

pub root_read : {X : Type 0} (lines_of : X → List (Option Line)) (boards : List X) (d : X) (lines : List (Option Line)) (memory : List ℕ) (b at : ℕ) → b < length boards → MayWalk (map lines_of boards) memory → at < table_start
    → lines ≡ lines_of (get_or boards b d) → IsTrue (is_readable (word_in (found lines (entry_address_of (entry_address_of at))) (entry_address_of (entry_address_of at))))
root_read lines_of boards d lines memory b at less may user is =
    subst (λ (ls : List (Option Line)). IsTrue (is_readable (word_in (found ls (entry_address_of (entry_address_of at))) (entry_address_of (entry_address_of at))))) (own_lines lines_of boards d lines b less is)
    (root_readable (map lines_of boards) memory b at may (within lines_of boards b less) user)

-- what a step of a plan leaves, one of the same plan towards the same address leaves
pub stepped_by : (before after : List (List (Option Line))) (old new : List ℕ) (b g h : ℕ) (p q : Plan) → Steps before old b g p after new → g ≡ h → p ≡ q → Steps before old b h q after new
stepped_by before after old new b g h p q steps same_at same_plan =
    subst (λ (r : Plan). Steps before old b h r after new) same_plan (subst (λ (n : ℕ). Steps before old b n p after new) same_at steps)

-- an answer of a plan is one of the same
pub answered_by : (b g h : ℕ) (p q : Plan) (answer : Walked) → answer ≡ answer_of b g p → g ≡ h → p ≡ q → answer ≡ answer_of b h q
answered_by b g h p q answer is same_at same_plan = is ∙ ap (λ (n : ℕ). answer_of b n p) same_at ∙ ap (answer_of b h) same_plan

-- the step of a plan whose answer has no entry changes no cache, and not the memory
still_caches : (caches : List (List (Option Line))) (memory : List ℕ) (b g : ℕ) (p : Plan) → HasNoEntry (answer_of b g p) → stepped caches memory b g p ≡ caches
still_caches caches memory b g plan.Ready none = refl
still_caches caches memory b g (plan.Fault kind) none = refl
still_caches caches memory b g plan.Refresh none = elim none [ ]
still_caches caches memory b g plan.Claim none = elim none [ ]
still_caches caches memory b g (plan.WriteBack at) none = elim none [ ]
still_caches caches memory b g (plan.Fill l n at place) none = elim none [ ]

still_memory : (caches : List (List (Option Line))) (memory : List ℕ) (b g : ℕ) (p : Plan) → HasNoEntry (answer_of b g p) → stepped_memory caches memory b p ≡ memory
still_memory caches memory b g plan.Ready none = refl
still_memory caches memory b g (plan.Fault kind) none = refl
still_memory caches memory b g plan.Refresh none = elim none [ ]
still_memory caches memory b g plan.Claim none = elim none [ ]
still_memory caches memory b g (plan.WriteBack at) none = elim none [ ]
still_memory caches memory b g (plan.Fill l n at place) none = elim none [ ]

pub boards_still : {X : Type 0} (lens : Lens X) → IsLens lens → (boards now : List X) (old new : List ℕ) (b g : ℕ) (p : Plan) (answer : Walked) → answer ≡ answer_of b g p
    → OnlyLines lens boards now → Steps (caches lens boards) old b g p (caches lens now) new → HasNoEntry answer → now ≡ boards
boards_still lens lawful boards now old new b g p answer said only steps none =
    only_lines-still lens lawful boards now only (steps.caches ∙ still_caches (caches lens boards) old b g p (subst HasNoEntry said none))

pub memory_still : (before after : List (List (Option Line))) (old new : List ℕ) (b g : ℕ) (p : Plan) (answer : Walked) → answer ≡ answer_of b g p → Steps before old b g p after new → HasNoEntry answer → new ≡ old
memory_still before after old new b g p answer said steps none = steps.memory ∙ still_memory before old b g p (subst HasNoEntry said none)

-- as many caches are as many boards
pub same_count : {X : Type 0} (lines_of : X → List (Option Line)) (boards now : List X) → length (map lines_of now) ≡ length (map lines_of boards) → length now ≡ length boards
same_count lines_of boards now same = sym (length-map now lines_of) ∙ same ∙ length-map boards lines_of

-- the root entry of a page is as valid as it was, where the logical memory is as it was
pub same_root : (before after : List (List (Option Line))) (old new : List ℕ) (page : ℕ) → logical_words after new ≡ logical_words before old → is_valid (root_at (logical_flat before old) page) ≡ true → is_valid (root_at (logical_flat after new) page) ≡ true
same_root before after old new page same valid = ap (λ (ws : List ℕ). is_valid (slice_index ws (root_index_of page))) same ∙ valid
