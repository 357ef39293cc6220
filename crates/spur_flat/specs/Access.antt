-- What an access may be answered, and which faults apply to it.
use Rattle.std.specs.Prelude.{ℕ, ◌&&◌, ◌||◌, Bool, true, false, not, if◌then◌else◌, Option, Some, None, List, [], ◌∷◌, filter}
use Rattle.std.specs.List.{find}
use Rattle.spur_addr.specs.Address.{is_aligned}
use Rattle.spur_addr.specs.PageEntry.{is_valid, is_referenced, is_dirty, is_on_swap, is_leaving, protection_of}
use Rattle.spur_addr.specs.declared.page_entry.Protection.{Protection as Allowance}
use Rattle.spur_addr.specs.declared.page_entry.Protection.TheVariants.{Nothing, ReadOnly, ReadWrite}
use Rattle.spur_flat.specs.declared.access.AccessKind.{AccessKind}
use Rattle.spur_flat.specs.declared.access.AccessKind.TheVariants.{Load, Store, Tas}
use Rattle.spur_flat.specs.declared.access.FaultKind.{FaultKind}
use Rattle.spur_flat.specs.declared.access.FaultKind.TheVariants.{Align, Unmapped, Missing, Leaving, Protection, Reference, Dirty}

-- whether an access is a write: a store or a test-and-set
abbrev pub is_write : AccessKind → Bool
is_write Load = false
is_write Store = true
is_write Tas = true

-- whether a protection allows an access: the first none, the second those that are no write, the third all
abbrev pub grants : Allowance → AccessKind → Bool
grants Nothing access = false
grants ReadOnly access = not (is_write access)
grants ReadWrite access = true

-- whether the protection of an entry allows an access
abbrev pub allows : ℕ → AccessKind → Bool
allows entry access = grants (protection_of entry) access

-- the answers that an access to an aligned address may have, under the entry of its page: no fault
-- means that the access is done
abbrev pub may_with : ℕ → AccessKind → Option FaultKind → Bool
may_with entry access None = is_valid entry && allows entry access && (is_dirty entry || not (is_write access))
may_with entry access (Some Align) = false
may_with entry access (Some Unmapped) = not (is_valid entry) && not (is_on_swap entry)
may_with entry access (Some Missing) = not (is_valid entry) && is_on_swap entry
may_with entry access (Some Leaving) = is_valid entry && is_leaving entry
may_with entry access (Some Protection) = is_valid entry && not (allows entry access)
may_with entry access (Some Reference) = is_valid entry && not (is_leaving entry) && not (is_referenced entry) && allows entry access
may_with entry access (Some Dirty) = is_valid entry && not (is_leaving entry) && not (is_dirty entry) && allows entry access && is_write access

-- where a page has no entry, the access is answered by Unmapped alone
abbrev pub is_unmapped : Option FaultKind → Bool
is_unmapped (Some Unmapped) = true
is_unmapped _ = false

abbrev pub may_aligned : Option ℕ → AccessKind → Option FaultKind → Bool
may_aligned None access answer = is_unmapped answer
may_aligned (Some entry) access answer = may_with entry access answer

-- where the address is not aligned, by Align alone
abbrev pub is_align : Option FaultKind → Bool
is_align (Some Align) = true
is_align _ = false

-- the allowed answers of an access: the entry of the page, if there is one, the access, the address
-- and the answer. The value that is read is not spoken of here.
abbrev pub may : Option ℕ → AccessKind → ℕ → Option FaultKind → Bool
may entry access g answer = if is_aligned g then may_aligned entry access answer else is_align answer

-- whether a fault applies to an aligned access under the entry of its page, whatever applies besides
abbrev pub applies_under : ℕ → AccessKind → FaultKind → Bool
applies_under entry access Align = false
applies_under entry access Unmapped = not (is_valid entry) && not (is_on_swap entry)
applies_under entry access Missing = not (is_valid entry)
applies_under entry access Leaving = is_leaving entry
applies_under entry access Protection = not (allows entry access)
applies_under entry access Reference = not (is_referenced entry)
applies_under entry access Dirty = is_write access && not (is_dirty entry)

-- whether a fault applies to an access: the entry of the page, if there is one, the access, the address and the fault
abbrev pub applies : Option ℕ → AccessKind → ℕ → FaultKind → Bool
applies entry access g Align = not (is_aligned g)
applies None access g Unmapped = true
applies (Some entry) access g fault = applies_under entry access fault
applies None access g fault = false

-- the order in which the faults are looked for
abbrev pub fault_order : List FaultKind
fault_order = Align ∷ Unmapped ∷ Missing ∷ Leaving ∷ Protection ∷ Reference ∷ Dirty ∷ []

-- the miss answer of an access: the first fault that applies, or none, and the access is done
abbrev pub miss_of : Option ℕ → AccessKind → ℕ → Option FaultKind
miss_of entry access g = find (applies entry access g) fault_order

-- the miss answer of an aligned access under the entry of its page
abbrev pub fault_under : ℕ → AccessKind → Option FaultKind
fault_under entry access = find (applies_under entry access) fault_order

-- whether a fault that applies always bars an access from being done: an access that is done may leave the other two
-- unnoticed
abbrev pub bars : FaultKind → Bool
bars Align = true
bars Unmapped = true
bars Missing = true
bars Leaving = false
bars Protection = true
bars Reference = false
bars Dirty = true

-- the fault that bars an access from being done: the first that applies, of those that always bar it
abbrev pub bar_of : Option ℕ → AccessKind → ℕ → Option FaultKind
bar_of entry access g = find (applies entry access g) (filter bars fault_order)
