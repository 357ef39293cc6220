-- What entries change, and which histories are legal.
use Rattle.std.specs.Prelude.{ℕ, ◌≡◌, ⊤, ◌==◌, true, false, Bool, List, [], ◌∷◌, Some, None, slice_set, filter}
use Rattle.spur_flat.specs.declared.flat.Flat.{Flat}
use Rattle.spur_flat.specs.declared.entry.Entry.{Entry}
use Rattle.spur_flat.specs.declared.entry.Entry.TheVariants.{Load, Store, Tas, Fault, Fill, Claim, WriteBack, Refresh, BlockFlush, Leave, PageOut, PageIn, SetRef, SetDirty, ClearRef}
use Rattle.spur_flat.specs.declared.access.AccessKind.TheVariants as access
use Rattle.spur_flat.specs.Access.{may}
use Rattle.spur_flat.specs.Table.{walk_of, place_of, data_word}
use Rattle.spur_flat.specs.Pager.{word_of, MayPage, may_leave, may_go_out, may_come_in, may_set_referenced, may_set_dirty, may_clear_referenced, is_free_frame, with_entry_bit, gone_out, come_in}

-- the flat state with another word at a place of memory
abbrev pub with_word_at : Flat → ℕ → ℕ → Flat
with_word_at F place value = record F { words = slice_set F.words place value }

-- the flat state after an entry: a store puts its value in the place of its word, a test-and-set puts
-- 1 there; the entries of the pager bring a page in or out, or set or clear one bit of its entry (6 is
-- leaving, 1 referenced, 2 dirty); loads, faults and the entries of the bus change nothing
abbrev pub on : Flat → Entry → Flat
on F (Load board at value) = F
on F (Store board at value) = with_word_at F (place_of F at) value
on F (Tas board at old) = with_word_at F (place_of F at) 1
on F (Fault board kind access at) = F
on F (Fill board layer need at) = F
on F (Claim board at) = F
on F (WriteBack board at) = F
on F (Refresh board at) = F
on F (BlockFlush board holder at) = F
on F (Leave board at) = with_entry_bit F at 6 true
on F (PageOut board at) = gone_out F at (word_of F at)
on F (PageIn board at frame) = come_in F at (word_of F at) frame
on F (SetRef board at) = with_entry_bit F at 1 true
on F (SetDirty board at) = with_entry_bit F at 2 true
on F (ClearRef board at) = with_entry_bit F at 1 false

-- the flat state after a history
abbrev pub flat_after : Flat → List Entry → Flat
flat_after F [] = F
flat_after F (entry ∷ rest) = flat_after (on F entry) rest

-- an entry is allowed in a flat state: an access that is done may be done, and what a load or a
-- test-and-set read is the data word; a fault may answer its access; an entry of the pager may stand,
-- and a page that comes in has a free frame. The entries of the bus are allowed in every flat state.
abbrev pub IsAllowed : Flat → Entry → Type 0
IsAllowed F (Load board at value) = (may (walk_of F at) access.Load at None ≡ true) × (value ≡ data_word F at)
IsAllowed F (Store board at value) = may (walk_of F at) access.Store at None ≡ true
IsAllowed F (Tas board at old) = (may (walk_of F at) access.Tas at None ≡ true) × (old ≡ data_word F at)
IsAllowed F (Fault board kind access at) = may (walk_of F at) access at (Some kind) ≡ true
IsAllowed F (Fill board layer need at) = ⊤
IsAllowed F (Claim board at) = ⊤
IsAllowed F (WriteBack board at) = ⊤
IsAllowed F (Refresh board at) = ⊤
IsAllowed F (BlockFlush board holder at) = ⊤
IsAllowed F (Leave board at) = MayPage F at may_leave
IsAllowed F (PageOut board at) = MayPage F at may_go_out
IsAllowed F (PageIn board at frame) = MayPage F at may_come_in × (is_free_frame F frame ≡ true)
IsAllowed F (SetRef board at) = MayPage F at may_set_referenced
IsAllowed F (SetDirty board at) = MayPage F at may_set_dirty
IsAllowed F (ClearRef board at) = MayPage F at may_clear_referenced

-- a legal history: each entry is allowed in the flat state after the entries before it
abbrev pub IsLegal : Flat → List Entry → Type 0
IsLegal F [] = ⊤
IsLegal F (entry ∷ rest) = IsAllowed F entry × IsLegal (on F entry) rest

-- whether an entry is an access or a fault of board b
abbrev pub is_own : ℕ → Entry → Bool
is_own b (Load board at value) = board == b
is_own b (Store board at value) = board == b
is_own b (Tas board at old) = board == b
is_own b (Fault board kind access at) = board == b
is_own b _ = false

-- a board's own entries, in the history's order
abbrev pub own_entries : List Entry → ℕ → List Entry
own_entries history b = filter (is_own b) history
