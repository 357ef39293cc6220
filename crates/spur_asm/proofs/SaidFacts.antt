-- What an answer that was read of a text says of it, where reading gives what the text says.
use Rattle.std.proofs.Common.{◌≡◌, subst, ℕ, List, Some, Result, Ok, Err, IfOk}
use Rattle.spur_asm.specs.Faults.{IsFirstFault}
use Rattle.spur_asm.specs.Says.{Says}
use Rattle.spur_asm.specs.Text.{unit_of}
use Rattle.spur_asm.specs.Told.{GivesUnit, told_of}
use Rattle.spur_asm.specs.Laws.{ReadsWhatIsSaid}
use Rattle.spur_object.specs.Limits.{IsUnit}
use Rattle.spur_asm.proofs.SaidUnits.{said_unit}
use Rattle.spur_asm.proofs.SilentTexts.{silent_if_said}
use Rattle.spur_asm.proofs.TextFaults.{told_is_first}
use Rattle.spur_asm.specs.declared.fault.AsmFault.{AsmFault}
use Rattle.spur_asm.specs.declared.fault.AsmFault.TheVariants as faults
use Rattle.spur_asm.specs.declared.fault.AsmKind.{AsmKind}
use Rattle.spur_object.specs.declared.unit.Unit as units

-- a unit that is the answer is the one that the text says
pub says_if-Ok : (law : ReadsWhatIsSaid) (text : List ℕ) (result : Result units.Unit AsmFault) → GivesUnit result (unit_of text) (told_of text) → IfOk result (λ u. Says text u)
says_if-Ok law text (Ok u) gives = (law text u).1 gives
says_if-Ok law text (Err fault) gives = tt

-- and it is within the limits of a unit
pub limits_if-Ok : (law : ReadsWhatIsSaid) (text : List ℕ) (result : Result units.Unit AsmFault) → GivesUnit result (unit_of text) (told_of text) → IfOk result IsUnit
limits_if-Ok law text (Ok u) gives = said_unit text u ((law text u).1 gives)
limits_if-Ok law text (Err fault) gives = tt

-- a fault that is the answer is the one that is told
told_if-Bad : (text : List ℕ) (result : Result units.Unit AsmFault) (kind : AsmKind) (line column : ℕ) → GivesUnit result (unit_of text) (told_of text) → result ≡ Err (faults.Bad kind line column)
    → told_of text ≡ Some (record { line = line; column = column; kind = kind })
told_if-Bad text result kind line column gives is = subst (λ (r : Result units.Unit AsmFault). GivesUnit r (unit_of text) (told_of text)) is gives

pub first_if-Bad : (text : List ℕ) (result : Result units.Unit AsmFault) (kind : AsmKind) (line column : ℕ) → GivesUnit result (unit_of text) (told_of text) → result ≡ Err (faults.Bad kind line column) → IsFirstFault text line column kind
first_if-Bad text result kind line column gives is = told_is_first text (record { line = line; column = column; kind = kind }) (told_if-Bad text result kind line column gives is)

-- and the text says no unit
pub nothing_if-Bad : (text : List ℕ) (result : Result units.Unit AsmFault) (kind : AsmKind) (line column : ℕ) → GivesUnit result (unit_of text) (told_of text) → result ≡ Err (faults.Bad kind line column) → (u : units.Unit) → Says text u → ⊥
nothing_if-Bad text result kind line column gives is u said = (let told = told_if-Bad text result kind line column gives is in let silent = silent_if_said text u said in cc)
