-- What is wrong with bytes that are no object. Nothing here reads: it says which bytes begin the object of a unit.
use Rattle.std.specs.Prelude.{◌≡◌, ℕ, ◌<◌, ◌≤◌, List, ◌∷◌, ◌++◌, length, take}
use Rattle.spur_object.specs.declared.fault.ObjKind.{ObjKind}
use Rattle.spur_object.specs.declared.fault.ObjKind.TheVariants.{Magic, Version, Short, Trailing, BadWord, Field}
use Rattle.spur_object.specs.declared.unit.Unit as units
use Rattle.spur_object.specs.Fields.{ObjField, bytes_of, object_bytes, unit_fields}
use Rattle.spur_object.specs.Limits.{IsUnit}

-- these bytes are the object of a unit
pub record IsObject (bytes : List ℕ) : Type 0 where
  pub unit : units.Unit
  pub is_unit : IsUnit unit
  pub bytes_are : bytes ≡ object_bytes unit

-- the object of some unit begins with these bytes
pub record IsFront (front : List ℕ) : Type 0 where
  pub unit : units.Unit
  pub is_unit : IsUnit unit
  pub rest : List ℕ
  pub begins : object_bytes unit ≡ front ++ rest

-- these bytes are the first fields of some unit's object, and a field with this kind of fault comes next there
pub record HasNext (front : List ℕ) (kind : ObjKind) : Type 0 where
  pub unit : units.Unit
  pub is_unit : IsUnit unit
  pub before : List ObjField
  pub next : ObjField
  pub after : List ObjField
  pub fields_are : unit_fields unit ≡ before ++ next ∷ after
  pub front_is : front ≡ bytes_of before
  pub kind_is : next.kind ≡ kind

-- a field comes behind this front whose fault is of this kind; its four bytes are there, and they begin with the front no
-- unit's object
pub record IsWrong (kind : ObjKind) (front left : List ℕ) : Type 0 where
  pub next : HasNext front kind
  pub whole : 4 ≤ length left
  pub wrong : IsFront (front ++ take 4 left) → ⊥

-- a field comes behind this front, and its four bytes are not all there
pub record IsShort (front left : List ℕ) : Type 0 where
  pub kind : ObjKind
  pub next : HasNext front kind
  pub short : length left < 4

-- behind this front, the bytes that are left have a fault of this kind in front
abbrev pub IsFaulty : ObjKind → List ℕ → List ℕ → Type 0
IsFaulty Magic front left = IsWrong Magic front left
IsFaulty Version front left = IsWrong Version front left
IsFaulty Short front left = IsShort front left
IsFaulty Trailing front left = IsObject front × (0 < length left)
IsFaulty BadWord front left = IsWrong BadWord front left
IsFaulty Field front left = IsWrong Field front left

-- these bytes have a fault of this kind, in the field that begins at this byte, counted from 0
pub record HasFault (bytes : List ℕ) (kind : ObjKind) (byte : ℕ) : Type 0 where
  pub front : List ℕ
  pub left : List ℕ
  pub bytes_are : bytes ≡ front ++ left
  pub byte_is : byte ≡ length front
  pub faulty : IsFaulty kind front left
