-- What a budget bounds.
use Rattle.std.specs.Prelude.{◌≡◌, ℕ, ◌<◌, ◌≤◌, List, Some}
use Rattle.spur_flat.specs.declared.entry.Entry.{Entry}
use Rattle.spur_cpu.specs.Meaning.{Meaning}
use Rattle.spur_cpu.specs.After.{Course, after, begun}

-- wherever a board's program has come from its beginning, it has completed no more instructions than its budget allows
abbrev pub CompletesWithinBudget : {S : Type 0} → Meaning S → Type 0
CompletesWithinBudget {S} m = (segs : List ℕ) (budget : ℕ) (s : S) (d : Course S) (es : List Entry) (n : ℕ)
    → 0 < budget → after m segs budget (begun s) es n ≡ Some d → d.retired ≤ budget
