-- What a program is, its faults and its text exclude and determine one another.
use Rattle.std.proofs.Common.{◌≡◌, ◌∙◌, sym, ap, ℕ, true, false, List, [], ◌++◌, Some}
use Rattle.spur_object.specs.Faults as objects
use Rattle.spur_object.specs.declared.fault.ObjKind.{ObjKind}
use Rattle.spur_object.specs.declared.unit.Unit.{Unit as Program}
use Rattle.spur_object.proofs.FaultFacts.{fault_once, object_has_no_fault}
use Rattle.spur_object.proofs.UnitFacts.{unit_once}
use Rattle.spur_asm.specs.Faults.{IsFirstFault}
use Rattle.spur_asm.specs.Says.{Says}
use Rattle.spur_asm.specs.Told.{Told, told_of}
use Rattle.spur_asm.specs.declared.fault.AsmKind.{AsmKind}
use Rattle.spur_asm.proofs.FaultTheorems.{says_without_fault, tells_the_first_fault}
use Rattle.spur_asm.proofs.Theorems.{says_once}
use Rattle.spur_input.specs.declared.refusal.Refusal.{Refusal}
use Rattle.spur_input.specs.declared.refusal.Refusal.TheVariants.{Object, Text}
use Rattle.spur_input.specs.Program.{IsProgramOf, OfObject, OfText, is_object}

-- no input is an object and a text
pub not_both : (input : List ℕ) → is_object input ≡ false → is_object input ≡ true → ⊥
not_both input text object = (let e : false ≡ true = sym text ∙ object in cc)

-- ---- texts

-- a text that says a unit has no fault
pub said_has_none : (text : List ℕ) (unit : Program) (line column : ℕ) (kind : AsmKind) → Says text unit → IsFirstFault text line column kind → ⊥
said_has_none text unit line column kind says first = (says_without_fault text).1 (unit, says) line column kind first.has

abbrev told_text : Told → Refusal
told_text told = Text told.kind told.line told.column

told_first : (text : List ℕ) (line column : ℕ) (kind : AsmKind) → IsFirstFault text line column kind → told_of text ≡ Some record { line = line; column = column; kind = kind }
told_first text line column kind first =
    let told : Told = record { line = line; column = column; kind = kind } in ((tells_the_first_fault text).some told).1 first

same_told : (told other : Told) → Some told ≡ Some other → told_text told ≡ told_text other
same_told told other e = (let same : told ≡ other = cc in ap told_text same)

-- a text has one first fault
pub first_once : (text : List ℕ) (line column : ℕ) (kind : AsmKind) (l c : ℕ) (k : AsmKind) → IsFirstFault text line column kind → IsFirstFault text l c k
    → Text kind line column ≡ Text k l c
first_once text line column kind l c k first other =
    same_told (record { line = line; column = column; kind = kind }) (record { line = l; column = c; kind = k })
    (sym (told_first text line column kind first) ∙ told_first text l c k other)

-- ---- objects

pub object_fault_once : (input : List ℕ) (j k : ObjKind) (m n : ℕ) → objects.HasFault input j m → objects.HasFault input k n → Object j m ≡ Object k n
object_fault_once input j k m n first other =
    let same = fault_once input j k m n first other in
    ap (λ (x : ObjKind). Object x m) same.0 ∙ ap (λ (y : ℕ). Object k y) same.1

-- ---- both

pub program_once : (input : List ℕ) (one other : Program) → IsProgramOf one input → IsProgramOf other input → one ≡ other
program_once input one other (OfText t says) (OfText u said) = says_once input one other says said
program_once input one other (OfText t says) (OfObject u limits is) = absurd (not_both input t u)
program_once input one other (OfObject t limits is) (OfText u said) = absurd (not_both input u t)
program_once input one other (OfObject t limits is) (OfObject u bounds are) =
    (unit_once one other [] [] limits bounds (ap (λ (x : List ℕ). x ++ []) (sym is ∙ are))).0

pub program_no_text_fault : (input : List ℕ) (unit : Program) (line column : ℕ) (kind : AsmKind) → IsProgramOf unit input → is_object input ≡ false → IsFirstFault input line column kind → ⊥
program_no_text_fault input unit line column kind (OfText t says) text first = said_has_none input unit line column kind says first
program_no_text_fault input unit line column kind (OfObject t limits is) text first = not_both input text t

pub program_no_object_fault : (input : List ℕ) (unit : Program) (kind : ObjKind) (byte : ℕ) → IsProgramOf unit input → is_object input ≡ true → objects.HasFault input kind byte → ⊥
program_no_object_fault input unit kind byte (OfText t says) object fault = not_both input t object
program_no_object_fault input unit kind byte (OfObject t limits is) object fault =
    object_has_no_fault input kind byte (record { unit = unit; is_unit = limits; bytes_are = is }) fault
