-- What ties units, their objects and the faults of other bytes to one another.
use Rattle.std.specs.Prelude.{◌≡◌, ◌≢◌, ℕ, ◌+◌, ◌%◌, ◌<◌, ◌≤◌, ◌↔◌, List, ◌++◌, length, take}
use Rattle.spur_object.specs.declared.fault.ObjKind.{ObjKind}
use Rattle.spur_object.specs.declared.fault.ObjKind.TheVariants.{Magic, Version, Short, Trailing}
use Rattle.spur_object.specs.declared.unit.Unit as units
use Rattle.spur_object.specs.Faults.{HasFault, HasNext, IsFront, IsObject}
use Rattle.spur_object.specs.Fields.{object_bytes}
use Rattle.spur_object.specs.Limits.{IsUnit}

-- no bytes begin with the objects of two units
abbrev pub NoObjectOfTwo : Type 0
NoObjectOfTwo = (u v : units.Unit) (r s : List ℕ) → IsUnit u → IsUnit v
    → object_bytes u ++ r ≡ object_bytes v ++ s → (u ≡ v) × (r ≡ s)

-- an object has no fault
abbrev pub ObjectsHaveNoFault : Type 0
ObjectsHaveNoFault = (bytes : List ℕ) (kind : ObjKind) (byte : ℕ) → IsObject bytes → HasFault bytes kind byte → ⊥

-- no bytes have two faults
abbrev pub OneFault : Type 0
OneFault = (bytes : List ℕ) (j k : ObjKind) (m n : ℕ) → HasFault bytes j m → HasFault bytes k n → (j ≡ k) × (m ≡ n)

-- where a fault of this kind may be: at a multiple of four; behind a front of some unit's object, which is a whole one
-- exactly for `Trailing`, where bytes are left; for `Short` fewer than four are left, and for every other kind four that
-- make that front a front of none, and the kind is that of the field that comes next there; `Magic` is the fault of the
-- first field and `Version` that of the second
pub record IsPlace (bytes : List ℕ) (kind : ObjKind) (byte : ℕ) : Type 0 where
  pub aligned : byte % 4 ≡ 0
  pub within : byte ≤ length bytes
  pub front : IsFront (take byte bytes)
  pub whole : IsObject (take byte bytes) ↔ (kind ≡ Trailing)
  pub trailing : kind ≡ Trailing → byte < length bytes
  pub short : kind ≡ Short → length bytes < byte + 4
  pub there : kind ≢ Short → kind ≢ Trailing → byte + 4 ≤ length bytes
  pub next : kind ≢ Short → kind ≢ Trailing → HasNext (take byte bytes) kind
  pub wrong : kind ≢ Short → kind ≢ Trailing → IsFront (take (byte + 4) bytes) → ⊥
  pub magic : kind ≡ Magic → byte ≡ 0
  pub version : kind ≡ Version → byte ≡ 4

abbrev pub PlacesAreJudged : Type 0
PlacesAreJudged = (bytes : List ℕ) (kind : ObjKind) (byte : ℕ) → HasFault bytes kind byte → IsPlace bytes kind byte

-- the object of a unit has at most 999,540 bytes, and no fault stands behind that place
abbrev pub ObjectsAreSmall : Type 0
ObjectsAreSmall = (unit : units.Unit) → IsUnit unit → length (object_bytes unit) ≤ 999540

abbrev pub PlacesAreSmall : Type 0
PlacesAreSmall = (bytes : List ℕ) (kind : ObjKind) (byte : ℕ) → HasFault bytes kind byte → byte ≤ 999540
