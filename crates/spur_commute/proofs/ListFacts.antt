-- An access passes a list of accesses that are apart from it.
use Rattle.std.proofs.Common.{◌≡◌, Bool, refl, ap, ◌∙◌, subst, List, [], ◌∷◌, ◌++◌}
use Rattle.std.specs.Prelude.{⊤}
use Rattle.std.specs.List.{AllByRecursion}
use Rattle.spur_flat.specs.declared.entry.Entry.{Entry}
use Rattle.spur_flat.specs.Validity.{IsValidFlat}
use Rattle.spur_flat.specs.State.{State, step, state_after}
use Rattle.spur_commute.specs.Apart.{IsAddressed, IsApart}
use Rattle.spur_commute.proofs.StepFacts.{MayFollowIn, StateSwaps, state_swaps, apart_sym, fit_valid}

-- all entries may follow, in one of the readings
abbrev pub AllFollowIn : Bool → State → List Entry → Type 0
AllFollowIn told S [] = ⊤
AllFollowIn told S (entry ∷ rest) = MayFollowIn told S entry × AllFollowIn told (step S entry) rest

-- an entry stands at the end, and leads there too
pub record Passes (told : Bool) (S : State) (entry : Entry) (list : List Entry) : Type 0 where
  pub follows : AllFollowIn told S (list ++ entry ∷ [])
  pub leads : state_after S (entry ∷ list) ≡ state_after S (list ++ entry ∷ [])

pub passes : (told : Bool) (S : State) (entry : Entry) (list : List Entry) → IsValidFlat S.flat → IsAddressed entry → AllByRecursion (IsApart entry) list → AllFollowIn told S (entry ∷ list) → Passes told S entry list
passes told S entry [] ok plain apart all = record { follows = all; leads = refl }
passes told S entry (other ∷ rest) ok plain apart all =
    let swap : StateSwaps told S entry other = state_swaps told S entry other ok plain apart.0 all.0 all.1.0 in
    let later : Passes told (step S other) entry rest =
    passes told (step S other) entry rest (fit_valid told S.flat other ok apart.0.addressed swap.first.legal) plain apart.1
    (swap.second, subst (λ (s : State). AllFollowIn told s rest) swap.same all.1.1) in
    record {
      follows = (swap.first, later.follows);
      leads = ap (λ (s : State). state_after s rest) swap.same ∙ later.leads;
    }

-- and back
pub returns : (told : Bool) (S : State) (entry : Entry) (list : List Entry) → IsValidFlat S.flat → IsAddressed entry → AllByRecursion (IsApart entry) list → AllFollowIn told S (list ++ entry ∷ []) → AllFollowIn told S (entry ∷ list)
returns told S entry [] ok plain apart all = all
returns told S entry (other ∷ rest) ok plain apart all =
    let later : AllFollowIn told (step S other) (entry ∷ rest) =
    returns told (step S other) entry rest (fit_valid told S.flat other ok apart.0.addressed all.0.legal) plain apart.1 all.1 in
    let swap : StateSwaps told S other entry = state_swaps told S other entry ok apart.0.addressed (apart_sym entry other plain apart.0) all.0 later.0 in
    (swap.first, (swap.second, subst (λ (s : State). AllFollowIn told s rest) swap.same later.1))
