-- The open entries of a board with their numbers, as the checker's code keeps them.
use Rattle.std.specs.Prelude.{ℕ, List, [], map, Option}
use Rattle.spur_flat.specs.declared.illegal.Illegal.{Illegal}
use Rattle.spur_flat.specs.declared.entry.Entry.{Entry}
use Rattle.spur_flat.specs.Blocks.{Role, role_of}
use Rattle.spur_flat.specs.Needed.{lack_in, needed_refusal, numbers_in, open_in}

pub record Numbered : Type 0 where
  pub entries : List Entry
  pub numbers : List ℕ

abbrev pub none_open : Numbered
none_open = record { entries = []; numbers = [] }

-- why an entry with this role is idle, or which open one it shows to be so
abbrev pub idle_refusal : ℕ → Numbered → Role → Option Illegal
idle_refusal lines o role = needed_refusal o.numbers (lack_in lines o.entries role)

-- the open entries after an entry of the board with this number
abbrev pub noted : Numbered → Entry → ℕ → Numbered
noted o entry number = record {
  entries = open_in o.entries entry (role_of entry);
  numbers = numbers_in o.numbers number (role_of entry);
}

abbrev pub entries_of : List Numbered → List (List Entry)
entries_of lists = map (λ o. o.entries) lists

abbrev pub numbers_of : List Numbered → List (List ℕ)
numbers_of lists = map (λ o. o.numbers) lists
