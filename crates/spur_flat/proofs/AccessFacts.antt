-- What a miss answer is good for.
use Rattle.std.proofs.Common.{◌≡◌, ◌∙◌, ◌&&◌, not, None, Some, Bool, true, if◌then◌else◌, sym, ap, ℕ, Option, refl, subst, rules}
use Rattle.spur_addr.specs.PageEntry.{is_dirty, is_leaving, is_on_swap, is_referenced, is_valid}
use Rattle.spur_snoop.specs.declared.Need.{Need}
use Rattle.spur_snoop.specs.declared.Need.TheVariants.{Read, Write}
use Rattle.spur_flat.specs.declared.access.AccessKind.{AccessKind}
use Rattle.spur_flat.specs.declared.access.AccessKind.TheVariants as access
use Rattle.spur_flat.specs.declared.access.FaultKind.{FaultKind}
use Rattle.spur_flat.specs.declared.access.FaultKind.TheVariants.{Unmapped, Missing, Leaving, Protection, Reference, Dirty}
use Rattle.spur_flat.specs.declared.entry.Entry.TheVariants.{Load, Store, Tas, Fault}
use Rattle.spur_flat.specs.Access.{allows, fault_under, is_align, is_write, may, may_with, miss_of}
use Rattle.spur_flat.specs.Table.{data_word, walk_of}
use Rattle.spur_flat.specs.TagRules.{access_of, is_read}
use Rattle.spur_flat.specs.Laws.{DoneMayBeRead, IsReady, ReadyIsDone, MissIsAllowed, MissIsNeverRefused, MissUnderEntry, RefusedUnlessAllowed}

pub refused-unless-allowed : RefusedUnlessAllowed
refused-unless-allowed F entry = search rules

pub may-miss_of : (entry : Option ℕ) (access : AccessKind) (g : ℕ) → may entry access g (miss_of entry access g) ≡ true
may-miss_of entry access g = search rules

pub miss-is-allowed : MissIsAllowed
miss-is-allowed F access g = may-miss_of (walk_of F g) access g

pub miss-under-entry : MissUnderEntry
miss-under-entry entry g access = search rules

-- an answer that is the miss answer is allowed
pub miss_may : (entry : Option ℕ) (access : AccessKind) (g : ℕ) (answer : Option FaultKind) → miss_of entry access g ≡ answer → may entry access g answer ≡ true
miss_may entry access g answer is = subst (λ (a : Option FaultKind). may entry access g a ≡ true) is (may-miss_of entry access g)

pub miss-is-never-refused : MissIsNeverRefused
miss-is-never-refused F board g = record {
  fault = λ access kind is. (refused-unless-allowed F (Fault board kind access g)).1 (miss_may (walk_of F g) access g _ is);
  load = λ is. (refused-unless-allowed F (Load board g (data_word F g))).1 (miss_may (walk_of F g) access.Load g _ is, refl);
  store = λ value is. (refused-unless-allowed F (Store board g value)).1 (miss_may (walk_of F g) access.Store g _ is);
  tas = λ is. (refused-unless-allowed F (Tas board g (data_word F g))).1 (miss_may (walk_of F g) access.Tas g _ is, refl);
}

-- a load needs no more than any other access
done_may_load : (entry : Option ℕ) (kind : AccessKind) (g : ℕ) → may entry kind g None ≡ true → may entry access.Load g None ≡ true
done_may_load entry kind g done = search rules

pub done-may-be-read : DoneMayBeRead
done-may-be-read F kind g done = done_may_load (walk_of F g) kind g done

-- the answers of a page that needs no fault
only_done : (entry : ℕ) (access : AccessKind) (answer : Option FaultKind) → IsReady entry access → may_with entry access answer ≡ true → answer ≡ None
only_done entry access answer ready allowed = search rules

pub ready-is-done : ReadyIsDone
ready-is-done F access g entry answer aligned walked ready allowed =
    only_done entry access answer ready
    (sym (ap (λ (b : Bool). if b then may_with entry access answer else is_align answer) aligned)
    ∙ ap (λ (w : Option ℕ). may w access g answer) (sym walked) ∙ allowed)

-- the first fault of an access under an entry, by tests one after another
pub fault_under-tests : (entry : ℕ) (access : AccessKind)
    → fault_under entry access
    ≡ (if not (is_valid entry) && not (is_on_swap entry) then Some Unmapped
    else if not (is_valid entry) then Some Missing
    else if is_leaving entry then Some Leaving
    else if not (allows entry access) then Some Protection
    else if not (is_referenced entry) then Some Reference
    else if is_write access && not (is_dirty entry) then Some Dirty
    else None)
fault_under-tests entry access = refl

-- and that of the access that a fill is for
pub fault_under-need : (entry : ℕ) (need : Need)
    → fault_under entry (access_of need)
    ≡ (if not (is_valid entry) && not (is_on_swap entry) then Some Unmapped
    else if not (is_valid entry) then Some Missing
    else if is_leaving entry then Some Leaving
    else if not (allows entry (access_of need)) then Some Protection
    else if not (is_referenced entry) then Some Reference
    else if not (is_read need) && not (is_dirty entry) then Some Dirty
    else None)
fault_under-need entry Read = refl
fault_under-need entry Write = refl
