-- The entry of a step is carried.
use Rattle.std.proofs.Common.{◌≡◌, ◌∙◌, ℕ, zero, suc, ◌^◌, ◌<◌, ap, sym, subst, [], ◌∷◌, arith}
use Rattle.std.specs.Prelude.{All}
use Rattle.spur_flat.specs.declared.flat.Flat.{Flat}
use Rattle.spur_flat.specs.declared.entry.Entry.{Entry}
use Rattle.spur_flat.specs.declared.entry.Entry.TheVariants as entry
use Rattle.spur_flat.specs.Laws.{address_of}
use Rattle.spur_flat.specs.State.{beside_on}
use Rattle.spur_flat.proofs.UntoldFacts.{untold-where-told}
use Rattle.spur_addr.specs.Address.{block_start_of}
use Rattle.spur_bus.specs.Calls.{tags_of}
use Rattle.spur_bus.specs.Stand.{IsOfBus, flat_of, state_of}
use Rattle.spur_bus.proofs.StandFacts.{bus-carried}
use Rattle.spur_walk.specs.declared.plan.Plan.{Plan}
use Rattle.spur_walk.specs.declared.plan.Plan.TheVariants as plan
use Rattle.spur_walk.specs.declared.step.Walked.TheVariants as walked
use Rattle.spur_walk.specs.Tables.{HasTablesOf}
use Rattle.spur_walk.specs.Steps.{answer_of, tags_walked, walked_refusal}
use Rattle.spur_walk.specs.Laws.{StepIsCarried, StepIsCarriedUntold}
use Rattle.spur_walk.proofs.TableFacts.{has_own}

some_entry : (a e : Entry) → walked.Moved a ≡ walked.Moved e → a ≡ e
some_entry a e h = cc

moved_bus : (b g : ℕ) (p : Plan) (e : Entry) → answer_of b g p ≡ walked.Moved e → IsOfBus e
moved_bus b g plan.Ready e h = cc
moved_bus b g (plan.Fault kind) e h = cc
moved_bus b g plan.Refresh e h = subst (λ (x : Entry). IsOfBus x) (some_entry (entry.Refresh b (block_start_of g)) e h) tt
moved_bus b g plan.Claim e h = subst (λ (x : Entry). IsOfBus x) (some_entry (entry.Claim b (block_start_of g)) e h) tt
moved_bus b g (plan.WriteBack at) e h = subst (λ (x : Entry). IsOfBus x) (some_entry (entry.WriteBack b (block_start_of at)) e h) tt
moved_bus b g (plan.Fill l n at place) e h = subst (λ (x : Entry). IsOfBus x) (some_entry (entry.Fill b l n (block_start_of at)) e h) tt

pub step-carried : StepIsCarried
step-carried rest before after old new b g p beside e s h needed =
    let F : Flat = flat_of rest before old in
    let has : HasTablesOf F F.words = has_own F in
    bus-carried rest before after old new beside e (moved_bus b g p e h)
    (record { logical = s.logical; lines = s.lines; tags = s.tags F has ∙ ap (tags_walked F (tags_of before)) h })
    (sym (ap (walked_refusal F (tags_of before)) h) ∙ s.tagged F has) needed

one_all : (e : Entry) → address_of e < 2 ^ 38 → All (λ entry. address_of entry < 2 ^ 38) (e ∷ [])
one_all e small zero d less = small
one_all e small (suc k) d less = absurd (omega arith)

pub step-carried-untold : StepIsCarriedUntold
step-carried-untold rest before after old new b g p beside e s h needed valid small =
    untold-where-told (state_of rest before old beside) (state_of rest after new (beside_on beside e)) (e ∷ []) valid (one_all e small)
    (step-carried rest before after old new b g p beside e s h needed)
