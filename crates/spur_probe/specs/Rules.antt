-- What probes mean: a state, which is a list of numbers, and a rule.
use Rattle.std.specs.Prelude.{ℕ, ◌+◌, ◌-◌, ◌/◌, ◌^◌, ◌==◌, min, Bool, false, if◌then◌else◌, List, [], ◌∷◌, Option, Some, None}
use Rattle.spur_addr.specs.Address.{block_of}
use Rattle.spur_flat.specs.declared.entry.Entry.{Entry}
use Rattle.spur_flat.specs.declared.entry.Entry.TheVariants.{Claim, Store}
use Rattle.spur_probe.specs.declared.probe.Wish.{Wish}
use Rattle.spur_probe.specs.declared.probe.Wish.TheVariants.{GoOn, Stop}

-- the state after an entry, and the wish, by the state before
abbrev pub Rule : Type 0
Rule = List ℕ → Entry → List ℕ × Wish

-- a count that stays at its last value
abbrev pub raised : ℕ → ℕ
raised n = min (n + 1) (2 ^ 64 - 1)

abbrev pub first_number : List ℕ → ℕ
first_number [] = 0
first_number (n ∷ ns) = n

abbrev pub second_number : List ℕ → ℕ
second_number [] = 0
second_number (n ∷ ns) = first_number ns

-- ---- the entries are counted

abbrev pub counts : Rule
counts state entry = (raised (first_number state) ∷ [], GoOn)

-- ---- an address is watched

-- an address, and what is counted or kept of it
pub record AtAddress : Type 0 where
  pub at : ℕ
  pub number : ℕ

abbrev pub pair_of : AtAddress → List ℕ
pair_of w = w.at ∷ w.number ∷ []

-- the entry is a claim of the block of an address
abbrev pub claims_block : ℕ → Entry → Bool
claims_block at (Claim board claimed) = block_of claimed == block_of at
claims_block at entry = false

-- each claim of the block of the address is counted, and wishes a stop
abbrev pub watches : Rule
watches state entry =
    if claims_block (first_number state) entry
    then (first_number state ∷ raised (second_number state) ∷ [], Stop)
    else (first_number state ∷ second_number state ∷ [], GoOn)

-- ---- the stores to a word are followed

-- the value that an entry stores to the word of an address
abbrev pub stored_word : ℕ → Entry → Option ℕ
stored_word at (Store board place value) = if place / 4 == at / 4 then Some value else None
stored_word at entry = None

abbrev pub or_kept : Option ℕ → ℕ → ℕ
or_kept None kept = kept
or_kept (Some value) kept = value

-- the value that was last stored is kept
abbrev pub follows : Rule
follows state entry =
    (first_number state ∷ or_kept (stored_word (first_number state) entry) (second_number state) ∷ [], GoOn)
