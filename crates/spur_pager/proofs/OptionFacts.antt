-- An option that is there, or is not.
use Rattle.std.proofs.Common.{◌≡◌, refl, Option, Some, None}
use Rattle.std.specs.Prelude.{IsSome}

pub none_or_some : {T : Type 0} (o : Option T) → (o ≡ None → ⊥) → IsSome o
none_or_some None h = absurd (h refl)
none_or_some (Some x) h = refl

pub some_not_none : {T : Type 0} (o : Option T) → IsSome o → o ≡ None → ⊥
some_not_none None some h = cc
some_not_none (Some x) some h = cc

pub some_is : {T : Type 0} (o : Option T) (x : T) → o ≡ Some x → IsSome o
some_is None x h = cc
some_is (Some y) x h = refl
