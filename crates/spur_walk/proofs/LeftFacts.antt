-- The fills and claims that are left where a fault is answered, and the steps where the entry's block is found.
use Rattle.std.proofs.Common.{◌≡◌, ℕ, ◌≤◌, true, sym, subst, List, [], get_or, Option, Some, arith}
use Rattle.spur_addr.specs.Address.{entry_address_of}
use Rattle.spur_cache.specs.declared.line.Line.{Line}
use Rattle.spur_cache.specs.Lines.{found}
use Rattle.spur_snoop.specs.declared.Need.{Need}
use Rattle.spur_flat.specs.declared.flat.Flat.{Flat}
use Rattle.spur_flat.specs.declared.access.FaultKind.{FaultKind}
use Rattle.spur_flat.specs.declared.access.FaultKind.TheVariants as fault
use Rattle.spur_flat.specs.Pager.{word_of}
use Rattle.spur_walk.specs.declared.looked.Looked.{Looked}
use Rattle.spur_walk.specs.declared.looked.Looked.TheVariants.{Hit, Denied, NeedsDirty, NeedsClaim, Miss}
use Rattle.spur_walk.specs.declared.plan.Plan.TheVariants as plan
use Rattle.spur_walk.specs.Bounds.{fills_by, steps_by}
use Rattle.spur_walk.specs.Laws.{is_served}
use Rattle.spur_walk.specs.Look.{look_of}
use Rattle.spur_walk.specs.Plan.{access_plan, plan_by, where_found}
use Rattle.spur_walk.specs.Tables.{logical_flat, root_at}
use Rattle.spur_walk.proofs.AnswerFacts.{plan_fault, served-finds}
use Rattle.spur_walk.proofs.BoundFacts.{found_few}
use Rattle.spur_walk.specs.Fetches.{FoundStepsAreFew, ServedFaultLeavesFetch}

-- fills and claims that are left where a fault that is served answers
not_served : (kind : FaultKind) → plan.Fault fault.Protection ≡ plan.Fault kind → is_served kind ≡ true → ⊥
not_served fault.Align is served = cc
not_served fault.Unmapped is served = cc
not_served fault.Missing is served = cc
not_served fault.Leaving is served = cc
not_served fault.Protection is served = cc
not_served fault.Reference is served = cc
not_served fault.Dirty is served = cc

left_by : (own : List (Option Line)) (at : ℕ) (need : Need) (e r : Option ℕ) (line : Line) (root : Option Line) (looked : Looked) (kind : FaultKind) → is_served kind ≡ true → plan_by own at need e r looked ≡ plan.Fault kind → 1 ≤ fills_by (Some line) root looked
left_by own at need e r line root Hit kind served h = cc
left_by own at need e r line root Denied kind served h = absurd (not_served kind h served)
left_by own at need e r line root NeedsClaim kind served h = omega arith
left_by own at need e r line root NeedsDirty kind served h = omega arith
left_by own at need e r line root Miss kind served h = omega arith

pub served-leaves : ServedFaultLeavesFetch
served-leaves caches memory b at need kind served h =
    let own : List (Option Line) = get_or caches b [] in
    let F : Flat = logical_flat caches memory in
    let has = served-finds caches memory b at need kind served h in
    subst (λ (o : Option Line). 1 ≤ fills_by o (found own (entry_address_of (entry_address_of at))) (look_of (found own at) need)) (sym has.there)
    (left_by own at need (where_found (found own (entry_address_of at)) (word_of F at)) (where_found (found own (entry_address_of (entry_address_of at))) (root_at F at)) has.line (found own (entry_address_of (entry_address_of at)))
    (look_of (found own at) need) kind served (plan_fault b at (access_plan caches memory b at need) kind h))

pub found-steps : FoundStepsAreFew
found-steps own at need line is =
    subst (λ (o : Option Line). steps_by own at o (found own (entry_address_of (entry_address_of at))) (look_of (found own at) need) ≤ 2) (sym is)
    (found_few own at line (found own (entry_address_of (entry_address_of at))) (look_of (found own at) need))
