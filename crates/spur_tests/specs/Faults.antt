-- A probe that stops at faults, or at those alone that end a board.
use Rattle.std.specs.Prelude.{ℕ, ◌||◌, Bool, true, false, not, if◌then◌else◌, List, [], ◌∷◌}
use Rattle.spur_cpu.specs.Meaning.{is_ending}
use Rattle.spur_flat.specs.declared.entry.Entry.{Entry}
use Rattle.spur_flat.specs.declared.entry.Entry.TheVariants.{Fault}
use Rattle.spur_probe.specs.declared.probe.Wish.TheVariants.{GoOn, Stop}
use Rattle.spur_probe.specs.Rules.{Rule, first_number, raised}

-- a fault, or one that ends its board
abbrev pub is_sought : Bool → Entry → Bool
is_sought ending (Fault board kind access at) = is_ending kind || not ending
is_sought ending entry = false

-- each entry is counted, and a fault that is sought wishes a stop
abbrev pub stops_at_faults : Bool → Rule
stops_at_faults ending state entry =
    (raised (first_number state) ∷ [], if is_sought ending entry then Stop else GoOn)
