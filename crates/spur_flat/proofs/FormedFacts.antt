-- Entries that are well formed, and lists of entries that a step of a board makes.
use Rattle.std.proofs.Common.{◌≡◌, ◌∙◌, ℕ, ◌+◌, ◌*◌, ◌/◌, ◌%◌, ◌^◌, ◌<◌, Bool, if◌then◌else◌, ap, refl, List, [], ◌∷◌, ◌++◌, filter, arith}
use Rattle.std.specs.List.{AllByRecursion}
use Rattle.spur_addr.specs.Address.{block_start_of, entry_address_of, page_address}
use Rattle.spur_flat.specs.declared.entry.Entry.{Entry}
use Rattle.spur_flat.specs.Formed.{IsFormed, IsMade}
use Rattle.spur_flat.specs.History.{is_own, own_entries}

-- the first byte of a block is at its start, and is an address where the block's bytes are
pub block_start_starts : (at : ℕ) → block_start_of at % 2 ^ 5 ≡ 0
block_start_starts at = let r : at / 2 ^ 5 * 2 ^ 5 % 2 ^ 5 ≡ 0 = omega arith in r

pub block_start_small : (at : ℕ) → at < 2 ^ 38 → block_start_of at < 2 ^ 38
block_start_small at small = let r : at / 2 ^ 5 * 2 ^ 5 < 2 ^ 38 = omega arith in r

-- the first byte of a page is at its start
pub page_address_starts : (page : ℕ) → page_address page % 2 ^ 12 ≡ 0
page_address_starts page = let r : page * 2 ^ 12 % 2 ^ 12 ≡ 0 = omega arith in r

-- the entry of an address's page has an address
pub entry_address_small : (at : ℕ) → at < 2 ^ 38 → entry_address_of at < 2 ^ 38
entry_address_small at small = let r : 255 * 2 ^ 30 + 4 * (at / 2 ^ 12) < 2 ^ 38 = omega arith in r

-- an entry that a step makes is well formed
pub made_is_formed : {b boards : ℕ} {e : Entry} → IsMade b boards e → IsFormed boards e
made_is_formed made = record { there = made.there; small = made.small; starts = made.starts }

-- the entries of two steps, one after the other
pub made_append : (b boards : ℕ) (some more : List Entry) → AllByRecursion (IsMade b boards) some → AllByRecursion (IsMade b boards) more
    → AllByRecursion (IsMade b boards) (some ++ more)
made_append b boards [] more first second = second
made_append b boards (e ∷ es) more first second = (first.0, made_append b boards es more first.1 second)

-- no board has an access or a fault of its own among them
pub own_of_made : (b boards : ℕ) (es : List Entry) → AllByRecursion (IsMade b boards) es → (i : ℕ) → own_entries es i ≡ []
own_of_made b boards [] all i = refl
own_of_made b boards (e ∷ es) all i =
    ap (λ (own : Bool). if own then e ∷ filter (is_own i) es else filter (is_own i) es) (all.0.apart i) ∙ own_of_made b boards es all.1 i
