-- What an accepted program is, as a text or as an object.
use Rattle.std.specs.Prelude.{◌≡◌, ℕ, ◌≤◌, Bool, true, false, ◌==◌, List, [], ◌∷◌, length, None}
use Rattle.spur_object.specs.Fields.{object_bytes}
use Rattle.spur_object.specs.Limits.{IsUnit}
use Rattle.spur_object.specs.declared.unit.Unit.{Unit as Program}
use Rattle.spur_asm.specs.Says.{Says}
use Rattle.spur_loader.specs.declared.opening.Opening.{Opening}
use Rattle.spur_loader.specs.declared.opening.Options.{Options}
use Rattle.spur_loader.specs.Faults.{load_fault_of}
use Rattle.spur_loader.specs.Limits.{IsOptions}
use Rattle.spur_loader.specs.Opening.{opening_of}

-- the most bytes of a program
abbrev pub program_limit : ℕ
program_limit = 1048576

-- the most bytes of a program with a trace behind it
abbrev pub check_limit : ℕ
check_limit = 67108864

-- the first byte is 93 in hexadecimal: the input is an object, and any other input is a text
abbrev pub is_object : List ℕ → Bool
is_object [] = false
is_object (byte ∷ bytes) = byte == 147

-- an accepted program is a text that says the unit, or bytes that are its object
pub data IsProgramOf (unit : Program) (input : List ℕ) : Type 0 where
  OfText : is_object input ≡ false → Says input unit → IsProgramOf unit input
  OfObject : is_object input ≡ true → IsUnit unit → input ≡ object_bytes unit → IsProgramOf unit input

-- an accepted program within the limit, to which no load fault applies with these options
pub record IsLoadable (options : Options) (input : List ℕ) (unit : Program) : Type 0 where
  pub within : length input ≤ program_limit
  pub program : IsProgramOf unit input
  pub loads : load_fault_of unit options ≡ None

-- a text within the limit that says the unit
pub record IsAssembled (text : List ℕ) (unit : Program) : Type 0 where
  pub within : length text ≤ program_limit
  pub says : Says text unit

-- the object of the unit that a text says
pub record IsObjectOf (text bytes : List ℕ) : Type 0 where
  pub unit : Program
  pub assembled : IsAssembled text unit
  pub is : bytes ≡ object_bytes unit

-- the opening of the unit of an accepted program
pub record IsOpeningOf (options : Options) (input : List ℕ) (opening : Opening) : Type 0 where
  pub unit : Program
  pub loadable : IsLoadable options input unit
  pub is : opening ≡ opening_of unit options

-- the opening of some unit, to which no load fault applies
pub record IsLoadedOpening (opening : Opening) : Type 0 where
  pub unit : Program
  pub limits : IsUnit unit
  pub range : IsOptions opening.options
  pub loads : load_fault_of unit opening.options ≡ None
  pub is : opening ≡ opening_of unit opening.options
