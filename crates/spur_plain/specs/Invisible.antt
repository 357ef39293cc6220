-- Paging is invisible.
use Rattle.std.specs.Prelude.{◌≡◌, ◌^◌, ◌<◌, List, All}
use Rattle.spur_flat.specs.declared.flat.Flat.{Flat}
use Rattle.spur_flat.specs.declared.entry.Entry.{Entry}
use Rattle.spur_flat.specs.Clean.{AreClean}
use Rattle.spur_flat.specs.History.{flat_after, IsLegal}
use Rattle.spur_flat.specs.Laws.{address_of}
use Rattle.spur_flat.specs.Untold.{IsLegalButValues}
use Rattle.spur_flat.specs.Validity.{IsValidFlat}
use Rattle.spur_plain.specs.PlainHistory.{IsAnswered, IsPlain, plain_after, plain_entries}
use Rattle.spur_plain.specs.Virtual.{virtual}

-- the addresses of entries are global ones
abbrev pub AreGlobal : List Entry → Type 0
AreGlobal es = All (λ entry. address_of entry < 2 ^ 38) es

-- A history, without the entries of the bus and of the pager and without the faults that are served, is one of the plain
-- machine, and leads to the plain memory of the flat state after the whole of it.
pub record IsInvisible (F : Flat) (history : List Entry) : Type 0 where
  pub plain : IsPlain (virtual F) (plain_entries history)
  pub ends : virtual (flat_after F history) ≡ plain_after (virtual F) (plain_entries history)

-- So is a legal history from a valid flat state whose clean pages have the words of their slots. Of addresses nothing is
-- asked but that those of accesses are global.
abbrev pub PagingIsInvisible : Type 0
PagingIsInvisible = (F : Flat) (history : List Entry) → IsValidFlat F → AreClean F → AreGlobal (plain_entries history)
    → IsLegal F history → IsInvisible F history

-- The same of a history that is legal but for the values that it read: each entry has the plain machine's answer, and the
-- words that are written are the plain machine's.
pub record IsInvisibleButValues (F : Flat) (history : List Entry) : Type 0 where
  pub answered : All (IsAnswered (virtual F)) (plain_entries history)
  pub ends : virtual (flat_after F history) ≡ plain_after (virtual F) (plain_entries history)

abbrev pub PagingIsInvisibleButValues : Type 0
PagingIsInvisibleButValues = (F : Flat) (history : List Entry) → IsValidFlat F → AreClean F → AreGlobal (plain_entries history)
    → IsLegalButValues F history → IsInvisibleButValues F history

-- and the flat state that it leads to is valid, with clean pages, so that the next history is so too
pub record StaysInvisible (F : Flat) (history : List Entry) : Type 0 where
  pub valid : IsValidFlat (flat_after F history)
  pub clean : AreClean (flat_after F history)

abbrev pub LegalStaysInvisible : Type 0
LegalStaysInvisible = (F : Flat) (history : List Entry) → IsValidFlat F → AreClean F → AreGlobal (plain_entries history)
    → IsLegalButValues F history → StaysInvisible F history
