-- Laws of what is carried where the swap is not told.
use Rattle.std.specs.Prelude.{◌≡◌, ◌^◌, ◌<◌, List, Option, All}
use Rattle.spur_flat.specs.declared.flat.Flat.{Flat}
use Rattle.spur_flat.specs.declared.tag.Tag.{Tag}
use Rattle.spur_flat.specs.declared.entry.Entry.{Entry}
use Rattle.spur_flat.specs.Validity.{IsValidFlat}
use Rattle.spur_flat.specs.History.{on, IsAllowed}
use Rattle.spur_flat.specs.Laws.{address_of}
use Rattle.spur_flat.specs.TagLines.{tags_on}
use Rattle.spur_flat.specs.TagRules.{tags_refusal}
use Rattle.spur_flat.specs.State.{State, IsCarried}
use Rattle.spur_flat.specs.Untold.{IsLike, IsAllowedButValue, IsCarriedUntold}

-- a flat state that is like a valid one is valid: validity looks at table words, and at lengths
abbrev pub LikeIsValid : Type 0
LikeIsValid = (F other : Flat) → IsLike F other → IsValidFlat other → IsValidFlat F

-- an entry that is allowed in a valid flat state leads two like ones to like ones
abbrev pub StepIsLike : Type 0
StepIsLike = (F other : Flat) (entry : Entry) → IsLike F other → IsValidFlat other → address_of entry < 2 ^ 38 → IsAllowed other entry → IsLike (on F entry) (on other entry)

-- the tags judge an entry alike in two flat states, and are the same after it
pub record IsTaggedAlike (F other : Flat) (T : List (List (Option Tag))) (entry : Entry) : Type 0 where
  pub refusal : tags_refusal F T entry ≡ tags_refusal other T entry
  pub after : tags_on F T entry ≡ tags_on other T entry

abbrev pub LikeIsTaggedAlike : Type 0
LikeIsTaggedAlike = (F other : Flat) (T : List (List (Option Tag))) (entry : Entry) → IsLike F other → IsValidFlat other → address_of entry < 2 ^ 38 → IsTaggedAlike F other T entry

-- an entry that is allowed in a valid flat state is allowed, but for the value that it read, in one that is like it
abbrev pub LikeIsAllowedButValue : Type 0
LikeIsAllowedButValue = (F other : Flat) (entry : Entry) → IsLike F other → IsValidFlat other → address_of entry < 2 ^ 38 → IsAllowed other entry → IsAllowedButValue F entry

-- so a piece that is carried from a valid flat state is carried from it where the swap is not told too
abbrev pub UntoldWhereTold : Type 0
UntoldWhereTold = (from to : State) (piece : List Entry) → IsValidFlat from.flat → All (λ entry. address_of entry < 2 ^ 38) piece
    → IsCarried from to piece → IsCarriedUntold from to piece
