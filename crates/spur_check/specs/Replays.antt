-- The rule on programs: an access, or a fault of one, is the next access of its board's program.
use Rattle.std.specs.Prelude.{ℕ, ◌==◌, if◌then◌else◌, List, Option, Some, None, slice_get, slice_set}
use Rattle.spur_addr.specs.Address.{global_of}
use Rattle.spur_flat.specs.declared.access.AccessKind.{AccessKind}
use Rattle.spur_flat.specs.declared.access.AccessKind.TheVariants as access
use Rattle.spur_flat.specs.declared.illegal.Illegal.{Illegal}
use Rattle.spur_flat.specs.declared.illegal.Clause.TheVariants as clause
use Rattle.spur_flat.specs.declared.entry.Entry.{Entry}
use Rattle.spur_flat.specs.declared.entry.Entry.TheVariants.{Load, Store, Tas, Fault}
use Rattle.spur_flat.specs.Refused.{refused}
use Rattle.spur_flat.specs.Blocks.{board_of}
use Rattle.spur_cpu.specs.declared.cpu.Want.{Want}
use Rattle.spur_cpu.specs.declared.cpu.Want.TheVariants.{Access}
use Rattle.spur_cpu.specs.Meaning.{Meaning}
use Rattle.spur_cpu.specs.After.{Course, Stop, carry_entry, retire}
use Rattle.spur_cpu.specs.Onward.{carry_to_access}
use Rattle.spur_check.specs.declared.next_access.NextAccess.{NextAccess}

-- the numbers of the accesses: 0 is none
abbrev pub access_number : AccessKind → ℕ
access_number access.Load = 1
access_number access.Store = 2
access_number access.Tas = 3

-- two numbers that are to be the same: WANTED is the program's, FOUND the entry's. What follows is asked only where
-- they are the same
abbrev pub differ : ℕ → ℕ → Option Illegal → Option Illegal
differ wanted found rest = if wanted == found then rest else refused clause.Program wanted found

-- the access of an entry is to be the program's: first its number, then its global address, then what follows
abbrev pub access_refusal : Option NextAccess → AccessKind → ℕ → Option Illegal → Option Illegal
access_refusal None kind at rest = refused clause.Program 0 (access_number kind)
access_refusal (Some next) kind at rest = differ (access_number next.kind) (access_number kind) (differ next.at at rest)

-- the word that the program's access writes
abbrev pub value_wanted : Option NextAccess → ℕ
value_wanted None = 0
value_wanted (Some next) = next.value

-- why an entry is not of the program's next access. A load's and a test-and-set's word is not the program's, and the
-- entries of the bus and of the pager are of no program
abbrev pub program_refusal : Option NextAccess → Entry → Option Illegal
program_refusal next (Load board at value) = access_refusal next access.Load at None
program_refusal next (Store board at value) =
    access_refusal next access.Store at (differ (value_wanted next) value None)
program_refusal next (Tas board at old) = access_refusal next access.Tas at None
program_refusal next (Fault board kind access at) = access_refusal next access at None
program_refusal next _ = None

-- a board's program along the entries of a history: its segment registers, its budget, and where it has come
pub record Replayed (S : Type 0) : Type 0 where
  pub segs : List ℕ
  pub budget : ℕ
  pub course : Course S

-- the access that a board does next: one that has an ending, or whose processor wants none, has none
abbrev pub access_in : List ℕ → Want → Option Stop → Option NextAccess
access_in segs (Access kind va value) None = Some record { kind = kind; at = global_of segs va; value = value }
access_in segs want ending = None

-- a board after an entry that may have carried it on
abbrev pub or_stays : {S : Type 0} → Course S → Option (Course S) → Course S
or_stays c None = c
or_stays c (Some d) = d

module _ {S : Type 0} (m : Meaning S) where
  abbrev pub next_access : Replayed S → Option NextAccess
  next_access r = access_in r.segs (m.wants r.course.cpu) r.course.ending

  -- a board after one local instruction, and one carried on to its next access within its budget
  abbrev pub after_local : Replayed S → Replayed S
  after_local r = record r { course = retire m r.segs r.budget r.course (m.local r.course.cpu) }

  abbrev pub at_access : Replayed S → Replayed S
  at_access r = record r { course = carry_to_access m r.segs r.budget r.course }

  -- a board after an entry of its own. A fault that is served leaves its access standing
  abbrev pub taken : Replayed S → Entry → Replayed S
  taken r entry = record r { course = or_stays r.course (carry_entry m r.segs r.budget r.course entry) }

  -- why an entry is not of the next access of its board's program; a board that is not there has no access
  abbrev pub refusal_at : Option (Replayed S) → Entry → Option Illegal
  refusal_at None entry = program_refusal None entry
  refusal_at (Some r) entry = program_refusal (next_access (at_access r)) entry

  abbrev pub replay_refusal : List (Replayed S) → Entry → Option Illegal
  replay_refusal replays entry = refusal_at (slice_get replays (board_of entry)) entry

  abbrev pub with_taken : List (Replayed S) → ℕ → Option (Replayed S) → Entry → List (Replayed S)
  with_taken replays board None entry = replays
  with_taken replays board (Some r) entry = slice_set replays board (taken (at_access r) entry)

  abbrev pub moved : List (Replayed S) → Entry → List (Replayed S)
  moved replays entry = with_taken replays (board_of entry) (slice_get replays (board_of entry)) entry

  -- all boards after an entry: an access, or a fault of one, is taken by its board
  abbrev pub replays_on : List (Replayed S) → Entry → List (Replayed S)
  replays_on replays (Load board at value) = moved replays (Load board at value)
  replays_on replays (Store board at value) = moved replays (Store board at value)
  replays_on replays (Tas board at old) = moved replays (Tas board at old)
  replays_on replays (Fault board kind access at) = moved replays (Fault board kind access at)
  replays_on replays _ = replays
