-- What each entry of a history is to the plain machine.
use Rattle.std.specs.Prelude.{ℕ, ◌≡◌, ◌^◌, ◌<◌, Bool, true, Option, Some, None}
use Rattle.spur_flat.specs.declared.flat.Flat.{Flat}
use Rattle.spur_flat.specs.declared.access.AccessKind.{AccessKind}
use Rattle.spur_flat.specs.declared.access.FaultKind.{FaultKind}
use Rattle.spur_flat.specs.declared.entry.Entry.{Entry}
use Rattle.spur_flat.specs.Access.{may}
use Rattle.spur_flat.specs.Clean.{AreClean}
use Rattle.spur_flat.specs.History.{on, IsAllowed}
use Rattle.spur_flat.specs.Laws.{address_of}
use Rattle.spur_flat.specs.Table.{data_word, walk_of}
use Rattle.spur_flat.specs.Untold.{IsAllowedButValue}
use Rattle.spur_flat.specs.Validity.{IsValidFlat}
use Rattle.spur_cpu.specs.Meaning.{is_ending}
use Rattle.spur_plain.specs.PlainMemory.{AreWhole, plain_answer, plain_word}
use Rattle.spur_plain.specs.PlainHistory.{HasRead, IsAnswered, is_plain, plain_on}
use Rattle.spur_plain.specs.Virtual.{virtual}

-- the pages of a valid flat state have 1024 words each
abbrev pub VirtualIsWhole : Type 0
VirtualIsWhole = (F : Flat) → IsValidFlat F → AreWhole (virtual F)

-- an answer that is final: the access is done, or its fault ends the program
abbrev pub is_final : Option FaultKind → Bool
is_final None = true
is_final (Some kind) = is_ending kind

-- a final answer that is allowed is the plain machine's
abbrev pub FinalIsPlain : Type 0
FinalIsPlain = (F : Flat) (access : AccessKind) (g : ℕ) (answer : Option FaultKind) → IsValidFlat F → g < 2 ^ 38
    → may (walk_of F g) access g answer ≡ true → is_final answer ≡ true → plain_answer (virtual F) access g ≡ answer

-- the data word of an access that may be done is the plain machine's
abbrev pub WordIsPlain : Type 0
WordIsPlain = (F : Flat) (access : AccessKind) (g : ℕ) → IsValidFlat F → g < 2 ^ 38
    → may (walk_of F g) access g None ≡ true → data_word F g ≡ plain_word (virtual F) g

-- so an allowed entry that the plain machine knows of is its answer, and read what stands there
pub record IsItsAnswer (F : Flat) (entry : Entry) : Type 0 where
  pub answered : IsAnswered (virtual F) entry
  pub read : HasRead (virtual F) entry

abbrev pub EntryIsPlain : Type 0
EntryIsPlain = (F : Flat) (entry : Entry) → IsValidFlat F → address_of entry < 2 ^ 38 → IsAllowed F entry
    → is_plain entry ≡ true → IsItsAnswer F entry

-- each allowed entry moves plain memory as the plain machine does: those of the bus and of the pager, and all faults, leave it
abbrev pub EntryMovesPlain : Type 0
EntryMovesPlain = (F : Flat) (entry : Entry) → IsValidFlat F → AreClean F → address_of entry < 2 ^ 38
    → IsAllowedButValue F entry → virtual (on F entry) ≡ plain_on (virtual F) entry
