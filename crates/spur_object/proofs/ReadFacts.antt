-- What the reader of an object answers is the one unit, or the one fault, of its bytes.
use Rattle.std.proofs.Common.{◌≡◌, ◌∙◌, ℕ, ◌-◌, ◌^◌, ◌<◌, ◌⊎◌, List, [], ◌++◌, length, Result, Ok, Err, sym, ap, inl, arith}
use Rattle.spur_object.specs.declared.fault.ObjFault.{ObjFault}
use Rattle.spur_object.specs.declared.fault.ObjFault.TheVariants.{Bad, NoMemory}
use Rattle.spur_object.specs.declared.fault.ObjKind.{ObjKind}
use Rattle.spur_object.specs.declared.unit.Unit as units
use Rattle.spur_object.specs.Faults.{HasFault}
use Rattle.spur_object.specs.Fields.{object_bytes}
use Rattle.spur_object.specs.Limits.{IsUnit}
use Rattle.spur_object.specs.Reading.{IsAtFault}
use Rattle.spur_object.proofs.FaultFacts.{at_fault, fault_once, fault_small, object_has_no_fault}
use Rattle.spur_object.proofs.UnitFacts.{unit_once}

abbrev pub Answer : Type 0
Answer = Result units.Unit ObjFault

abbrev pub Is : Answer → Answer → Type 0
Is r s = r ≡ s

pub unit_again : (bytes : List ℕ) (u v : units.Unit) → IsUnit u → bytes ≡ object_bytes u → IsUnit v → bytes ≡ object_bytes v → Is (Ok u) (Ok v) ⊎ Is (Ok u) (Err NoMemory)
unit_again bytes u v u_is u_bytes v_is v_bytes =
    let once = unit_once u v [] [] u_is v_is (ap (λ (l : List ℕ). l ++ []) (sym u_bytes ∙ v_bytes)) in
    inl (ap (λ (w : units.Unit). Ok w) once.0)

pub unit_not_refused : (bytes : List ℕ) (u : units.Unit) → IsUnit u → bytes ≡ object_bytes u → (kind : ObjKind) (byte : ℕ) → HasFault bytes kind byte
    → Is (Ok u) (Err (Bad kind byte)) ⊎ Is (Ok u) (Err NoMemory)
unit_not_refused bytes u is u_bytes kind byte fault = absurd (object_has_no_fault bytes kind byte (record { unit = u; is_unit = is; bytes_are = u_bytes }) fault)

-- the place of the fault
abbrev pub byte_of : List ℕ → List ℕ → ℕ
byte_of bytes left = length bytes - length left

pub fault_is_one : (bytes left : List ℕ) (kind : ObjKind) → IsAtFault bytes kind left → (u : units.Unit) → IsUnit u → bytes ≡ object_bytes u
    → Is (Err (Bad kind (byte_of bytes left))) (Ok u) ⊎ Is (Err (Bad kind (byte_of bytes left))) (Err NoMemory)
fault_is_one bytes left kind is u u_is u_bytes =
    absurd (object_has_no_fault bytes kind (byte_of bytes left) (record { unit = u; is_unit = u_is; bytes_are = u_bytes }) (at_fault bytes left kind is))

pub fault_again : (bytes left : List ℕ) (j : ObjKind) → IsAtFault bytes j left → (k : ObjKind) (byte : ℕ) → HasFault bytes k byte
    → Is (Err (Bad j (byte_of bytes left))) (Err (Bad k byte)) ⊎ Is (Err (Bad j (byte_of bytes left))) (Err NoMemory)
fault_again bytes left j is k byte fault =
    let once = fault_once bytes j k (byte_of bytes left) byte (at_fault bytes left j is) fault in
    inl (ap (λ (kind : ObjKind). Err (Bad kind (byte_of bytes left))) once.0 ∙ ap (λ (n : ℕ). Err (Bad k n)) once.1)

pub byte_below : (bytes left : List ℕ) (kind : ObjKind) → IsAtFault bytes kind left → byte_of bytes left < 2 ^ 32
byte_below bytes left kind is =
    let small = fault_small bytes kind (byte_of bytes left) (at_fault bytes left kind is) in
    omega arith
