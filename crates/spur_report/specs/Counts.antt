-- How many entries of each kind a history has: each count has a name, and a test that its entries pass.
use Rattle.std.specs.Prelude.{ℕ, ◌≡◌, ◌+◌, ◌==◌, Bool, true, false, List, [], ◌∷◌, codes, filter, length, map, slice_get, Some}
use Rattle.std.specs.List.{sum_by}
use Rattle.spur_flat.specs.declared.entry.Entry.{Entry}
use Rattle.spur_flat.specs.declared.entry.Entry.TheVariants.{Load, Store, Tas, Fault, Fill, Claim, WriteBack, Refresh, BlockFlush, Leave, PageOut, PageIn, SetRef, SetDirty, ClearRef}
use Rattle.spur_flat.specs.Refusal.{fault_number}

-- ---- the tests

abbrev pub is_load : Entry → Bool
is_load (Load board at value) = true
is_load entry = false

abbrev pub is_store : Entry → Bool
is_store (Store board at value) = true
is_store entry = false

abbrev pub is_tas : Entry → Bool
is_tas (Tas board at old) = true
is_tas entry = false

-- a fault of the kind with this number
abbrev pub is_fault : ℕ → Entry → Bool
is_fault number (Fault board kind access at) = fault_number kind == number
is_fault number entry = false

-- a fill of any layer, for reading or for writing
abbrev pub is_fill : Entry → Bool
is_fill (Fill board layer need at) = true
is_fill entry = false

abbrev pub is_claim : Entry → Bool
is_claim (Claim board at) = true
is_claim entry = false

abbrev pub is_write_back : Entry → Bool
is_write_back (WriteBack board at) = true
is_write_back entry = false

abbrev pub is_refresh : Entry → Bool
is_refresh (Refresh board at) = true
is_refresh entry = false

abbrev pub is_flush : Entry → Bool
is_flush (BlockFlush board holder at) = true
is_flush entry = false

abbrev pub is_leave : Entry → Bool
is_leave (Leave board at) = true
is_leave entry = false

abbrev pub is_out : Entry → Bool
is_out (PageOut board at) = true
is_out entry = false

abbrev pub is_in : Entry → Bool
is_in (PageIn board at frame) = true
is_in entry = false

abbrev pub is_set_ref : Entry → Bool
is_set_ref (SetRef board at) = true
is_set_ref entry = false

abbrev pub is_set_dirty : Entry → Bool
is_set_dirty (SetDirty board at) = true
is_set_dirty entry = false

abbrev pub is_clear_ref : Entry → Bool
is_clear_ref (ClearRef board at) = true
is_clear_ref entry = false

-- ---- the counts

pub record Count : Type 0 where
  pub name : List ℕ
  pub test : Entry → Bool

abbrev pub count : List ℕ → (Entry → Bool) → Count
count name test = record { name = name; test = test }

-- the counts, in the order in which they are told; the faults in the order of their numbers
abbrev pub all_counts : List Count
all_counts =
    count (codes "loads") is_load ∷ count (codes "stores") is_store ∷ count (codes "tas") is_tas
    ∷ count (codes "align") (is_fault 1) ∷ count (codes "unmapped") (is_fault 2) ∷ count (codes "missing") (is_fault 3)
    ∷ count (codes "leaving") (is_fault 4) ∷ count (codes "protection") (is_fault 5) ∷ count (codes "reference") (is_fault 6)
    ∷ count (codes "dirty") (is_fault 7)
    ∷ count (codes "fills") is_fill ∷ count (codes "claims") is_claim ∷ count (codes "writebacks") is_write_back
    ∷ count (codes "refreshes") is_refresh ∷ count (codes "flushes") is_flush
    ∷ count (codes "leaves") is_leave ∷ count (codes "outs") is_out ∷ count (codes "ins") is_in
    ∷ count (codes "setrefs") is_set_ref ∷ count (codes "setdirties") is_set_dirty ∷ count (codes "clearrefs") is_clear_ref ∷ []

-- how many entries pass the test of a count
abbrev pub number_of : List Entry → Count → ℕ
number_of entries c = length (filter c.test entries)

abbrev pub counts_of : List Entry → List ℕ
counts_of entries = map (number_of entries) all_counts

-- ---- laws

-- the place of an entry's count
abbrev pub row_of : Entry → ℕ
row_of (Load board at value) = 0
row_of (Store board at value) = 1
row_of (Tas board at old) = 2
row_of (Fault board kind access at) = 2 + fault_number kind
row_of (Fill board layer need at) = 10
row_of (Claim board at) = 11
row_of (WriteBack board at) = 12
row_of (Refresh board at) = 13
row_of (BlockFlush board holder at) = 14
row_of (Leave board at) = 15
row_of (PageOut board at) = 16
row_of (PageIn board at frame) = 17
row_of (SetRef board at) = 18
row_of (SetDirty board at) = 19
row_of (ClearRef board at) = 20

-- an entry passes the test of exactly one count, which is the one at its place
abbrev pub OneCount : Type 0
OneCount = (entry : Entry) (place : ℕ) (c : Count) → slice_get all_counts place ≡ Some c → c.test entry ≡ (place == row_of entry)

-- so the counts of a history add up to its length
abbrev pub CountsAddUp : Type 0
CountsAddUp = (entries : List Entry) → sum_by (number_of entries) all_counts ≡ length entries
