-- Laws of the opening.
use Rattle.std.specs.Prelude.{◌≡◌, None}
use Rattle.spur_object.specs.Limits.{IsUnit}
use Rattle.spur_object.specs.declared.unit.Unit.{Unit as Program}
use Rattle.spur_flat.specs.Validity.{IsValidFlat}
use Rattle.spur_loader.specs.declared.opening.Options.{Options}
use Rattle.spur_loader.specs.Limits.{IsOptions}
use Rattle.spur_loader.specs.Opening.{IsNothingResident, opening_flat, opening_of}
use Rattle.spur_loader.specs.Faults.{load_fault_of}
use Rattle.spur_loader.specs.Readings.{IsOpening, MayBegin}

-- what stands where in an opening
abbrev pub OpeningReads : Type 0
OpeningReads = (unit : Program) (options : Options) → IsUnit unit → IsOpening unit options (opening_of unit options)

-- the flat state of an opening for which no fault applies is valid
abbrev pub OpeningIsValid : Type 0
OpeningIsValid = (unit : Program) (options : Options)
    → IsUnit unit → load_fault_of unit options ≡ None → IsValidFlat (opening_flat unit options)

-- and no page has a valid entry in it
abbrev pub NothingIsResident : Type 0
NothingIsResident = (unit : Program) (options : Options) → IsUnit unit → IsNothingResident (opening_flat unit options)

-- and a run may begin with it
abbrev pub AcceptedMayBegin : Type 0
AcceptedMayBegin = (unit : Program) (options : Options)
    → IsUnit unit → IsOptions options → load_fault_of unit options ≡ None → MayBegin (opening_of unit options)
