-- Clean pages: a valid page that is not dirty has the words of its swap slot.
use Rattle.std.specs.Prelude.{ℕ, ◌≡◌, ◌^◌, ◌<◌, true, false, List, All}
use Rattle.spur_addr.specs.Address.{page_address, user_pages}
use Rattle.spur_addr.specs.PageEntry.{is_valid, is_dirty, number_of}
use Rattle.spur_flat.specs.declared.flat.Flat.{Flat}
use Rattle.spur_flat.specs.declared.entry.Entry.{Entry}
use Rattle.spur_addr.specs.Pages.{page_at}
use Rattle.spur_flat.specs.Pager.{swap_slot_of, word_of}
use Rattle.spur_flat.specs.Validity.{IsValidFlat}
use Rattle.spur_flat.specs.History.{on, flat_after, IsAllowed, IsLegal}
use Rattle.spur_flat.specs.Laws.{address_of}

-- each valid page that is not dirty has the words of its slot
abbrev pub AreClean : Flat → Type 0
AreClean F = (page : ℕ) → page < user_pages
    → is_valid (word_of F (page_address page)) ≡ true → is_dirty (word_of F (page_address page)) ≡ false
    → page_at F.words (number_of (word_of F (page_address page))) ≡ page_at F.swap (swap_slot_of F (page_address page))

-- an allowed entry of a valid flat state keeps its clean pages clean
abbrev pub StaysClean : Type 0
StaysClean = (F : Flat) (entry : Entry) → IsValidFlat F → AreClean F → address_of entry < 2 ^ 38 → IsAllowed F entry
    → AreClean (on F entry)

-- and so does a legal history
abbrev pub LegalStaysClean : Type 0
LegalStaysClean = (F : Flat) (history : List Entry) → IsValidFlat F → AreClean F
    → All (λ entry. address_of entry < 2 ^ 38) history → IsLegal F history → AreClean (flat_after F history)

-- where no page is valid, they are clean
abbrev pub NoneValidIsClean : Type 0
NoneValidIsClean = (F : Flat)
    → ((page : ℕ) → page < user_pages → is_valid (word_of F (page_address page)) ≡ false) → AreClean F
