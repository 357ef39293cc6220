-- The words for the kinds of faults and of accesses.
use Rattle.std.specs.Prelude.{ℕ, List, codes}
use Rattle.spur_flat.specs.declared.access.AccessKind.{AccessKind}
use Rattle.spur_flat.specs.declared.access.AccessKind.TheVariants.{Load, Store, Tas}
use Rattle.spur_flat.specs.declared.access.FaultKind.{FaultKind}
use Rattle.spur_flat.specs.declared.access.FaultKind.TheVariants.{Align, Unmapped, Missing, Leaving, Protection, Reference, Dirty}

-- the word for a kind of fault
abbrev pub fault_word : FaultKind → List ℕ
fault_word Align = codes "align"
fault_word Unmapped = codes "unmapped"
fault_word Missing = codes "missing"
fault_word Leaving = codes "leaving"
fault_word Protection = codes "protection"
fault_word Reference = codes "reference"
fault_word Dirty = codes "dirty"

-- the word for a kind of access
abbrev pub access_word : AccessKind → List ℕ
access_word Load = codes "load"
access_word Store = codes "store"
access_word Tas = codes "tas"
