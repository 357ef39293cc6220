-- The entry of a step is carried while boards have open entries.
use Rattle.std.proofs.Common.{◌≡◌, ℕ, ap, refl, sym, subst, List, [], ◌∷◌, Some}
use Rattle.spur_flat.specs.declared.flat.Flat.{Flat}
use Rattle.spur_flat.specs.Blocks.{board_of}
use Rattle.spur_flat.specs.State.{Beside, IsCarried, beside_on, served_beside}
use Rattle.spur_flat.specs.Untold.{IsCarriedUntold}
use Rattle.spur_bus.specs.Stand.{state_of}
use Rattle.spur_walk.specs.declared.plan.Plan.{Plan}
use Rattle.spur_walk.specs.Plan.{access_plan}
use Rattle.spur_walk.proofs.AnsweredFacts.{access-carried}
use Rattle.spur_walk.proofs.CarryFacts.{step-carried, step-carried-untold}
use Rattle.spur_walk.proofs.MadeFacts.{access-made}
use Rattle.spur_pager.specs.Stand.{with_told}
use Rattle.spur_pager.specs.Opened.{AccessIsCarriedIn, NothingIsOpen, StepIsCarriedIn}

pub nothing-is-open : NothingIsOpen
nothing-is-open rest w = refl

pub step-is-carried-in : StepIsCarriedIn
step-is-carried-in rest w v b at need beside e st within user s shares moved lacks =
    let from : Flat = with_told rest w.pages in
    let now : with_told rest w.pages ≡ with_told rest v.pages = ap (with_told rest) (sym shares.pages) in
    let p : Plan = access_plan w.caches w.memory b at need in
    let made = access-made w.caches w.memory b at need e st.walk.agree within user moved in
    record {
      told = λ (words : List ℕ) (is : w.pages ≡ Some words).
          subst (λ (F : Flat). IsCarried (state_of from w.caches w.memory beside) (state_of F v.caches v.memory (beside_on beside e)) (e ∷ [])) now
          (step-carried from w.caches v.caches w.memory v.memory b at p beside e s moved lacks);
      untold =
          subst (λ (F : Flat). IsCarriedUntold (state_of from w.caches w.memory beside) (state_of F v.caches v.memory (beside_on beside e)) (e ∷ [])) now
          (step-carried-untold from w.caches v.caches w.memory v.memory b at p beside e s moved lacks st.valid made.small);
    }

pub access-is-carried-in : AccessIsCarriedIn
access-is-carried-in rest w v beside e st is small may lacks leaves memory shares =
    let from : Flat = with_told rest w.pages in
    let served : Beside = served_beside beside (board_of e) in
    let now : with_told rest w.pages ≡ with_told rest v.pages = ap (with_told rest) (sym shares.pages) in
    let c = access-carried from w.caches v.caches w.memory beside e is may lacks leaves in
    record {
      told = λ (words : List ℕ) (is : w.pages ≡ Some words).
          subst (λ (ws : List ℕ). IsCarried (state_of from w.caches w.memory beside) (state_of (with_told rest v.pages) v.caches ws served) (e ∷ [])) (sym memory)
          (subst (λ (F : Flat). IsCarried (state_of from w.caches w.memory beside) (state_of F v.caches w.memory served) (e ∷ [])) now c.told);
      untold =
          subst (λ (ws : List ℕ). IsCarriedUntold (state_of from w.caches w.memory beside) (state_of (with_told rest v.pages) v.caches ws served) (e ∷ [])) (sym memory)
          (subst (λ (F : Flat). IsCarriedUntold (state_of from w.caches w.memory beside) (state_of F v.caches w.memory served) (e ∷ [])) now (c.untold st.valid small));
    }
