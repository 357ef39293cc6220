-- The entries of a turn that stand before its first fault.
use Rattle.std.specs.Prelude.{◌≡◌, Bool, true, false, if◌then◌else◌, List, [], ◌∷◌}
use Rattle.spur_flat.specs.declared.entry.Entry.{Entry}
use Rattle.spur_flat.specs.declared.entry.Entry.TheVariants as entry
use Rattle.spur_pager.specs.Ahead.{leaving_entries}

abbrev pub is_fault : Entry → Bool
is_fault (entry.Fault board kind access at) = true
is_fault _ = false

abbrev pub before_fault : List Entry → List Entry
before_fault [] = []
before_fault (e ∷ rest) = if is_fault e then [] else e ∷ before_fault rest

-- none of them is one by which a page leaves
abbrev pub IsQuiet : List Entry → Type 0
IsQuiet entries = leaving_entries (before_fault entries) ≡ []
