-- What ties reading to spelling.
use Rattle.std.specs.Prelude.{◌≡◌, ◌↔◌, ℕ, List, Some}
use Rattle.spur_object.specs.Limits.{IsUnit}
use Rattle.spur_object.specs.declared.unit.Unit as units
use Rattle.spur_asm.specs.Says.{Says}
use Rattle.spur_asm.specs.Text.{unit_of}

-- the unit that is read of a text is the one that the text says
abbrev pub ReadsWhatIsSaid : Type 0
ReadsWhatIsSaid = (text : List ℕ) (unit : units.Unit) → Says text unit ↔ (unit_of text ≡ Some unit)

-- a text says one unit at most
abbrev pub SaysOnce : Type 0
SaysOnce = (text : List ℕ) (one other : units.Unit) → Says text one → Says text other → one ≡ other

-- what a text says is a unit within its limits
abbrev pub SaysAUnit : Type 0
SaysAUnit = (text : List ℕ) (unit : units.Unit) → Says text unit → IsUnit unit
