-- What is counted in a turn's entries: faults of one kind, and the fills and claims that an access uses.
use Rattle.std.specs.Prelude.{ℕ, ◌+◌, ◌≤◌, ◌&&◌, Bool, true, false, if◌then◌else◌, List, [], ◌∷◌, filter, length}
use Rattle.spur_flat.specs.declared.access.FaultKind.{FaultKind}
use Rattle.spur_flat.specs.declared.access.FaultKind.TheVariants as fault
use Rattle.spur_flat.specs.declared.entry.Entry.{Entry}
use Rattle.spur_flat.specs.declared.entry.Entry.TheVariants as entry
use Rattle.spur_flat.specs.Blocks.{Role, Apart, Opens, Serves, board_of, role_of}
use Rattle.spur_flat.specs.History.{is_own}
use Rattle.spur_walk.specs.Laws.{is_fetch}

abbrev pub same_fault : FaultKind → FaultKind → Bool
same_fault fault.Align fault.Align = true
same_fault fault.Unmapped fault.Unmapped = true
same_fault fault.Missing fault.Missing = true
same_fault fault.Leaving fault.Leaving = true
same_fault fault.Protection fault.Protection = true
same_fault fault.Reference fault.Reference = true
same_fault fault.Dirty fault.Dirty = true
same_fault kind other = false

-- whether an entry is a fault of this kind, and how many of some entries are
abbrev pub is_fault_of : FaultKind → Entry → Bool
is_fault_of kind (entry.Fault board why access at) = same_fault kind why
is_fault_of kind _ = false

abbrev pub fault_count : FaultKind → List Entry → ℕ
fault_count kind entries = length (filter (is_fault_of kind) entries)

-- whether an entry serves: an access, a fault, or a change of a page's entry
abbrev pub is_serving_role : Role → Bool
is_serving_role Opens = false
is_serving_role (Serves blocks owned) = true
is_serving_role Apart = false

abbrev pub is_serving : Entry → Bool
is_serving e = is_serving_role (role_of e)

-- whether the first of these entries that serves is an access or a fault
abbrev pub serves_access : List Entry → Bool
serves_access [] = false
serves_access (e ∷ es) = if is_serving e then is_own (board_of e) e else serves_access es

-- how many fills and claims there are; and, of one board's entries, how many of them its accesses use: after those the
-- next entry that serves is an access or a fault
abbrev pub fetch_count : List Entry → ℕ
fetch_count entries = length (filter is_fetch entries)

abbrev pub access_fetches : List Entry → ℕ
access_fetches [] = 0
access_fetches (e ∷ es) = (if is_fetch e && serves_access es then 1 else 0) + access_fetches es

-- the entries of a turn have at most one fault of each kind, and its access uses at most three fills and claims
pub record IsFrugal (entries : List Entry) : Type 0 where
  pub once : (kind : FaultKind) → fault_count kind entries ≤ 1
  pub fetches : access_fetches entries ≤ 3
