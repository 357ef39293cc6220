-- The addresses that the words of the command line watch.
use Rattle.std.specs.Prelude.{ℕ, ◌≡◌, ◌≤◌, ◌<◌, ◌^◌, if◌then◌else◌, List, [], ◌∷◌, ◌++◌, All, length, Option, Some, None, option_and_then, option_to_list, is_ok, Ok}
use Rattle.std.specs.Str.{bytes_eq}
use Rattle.spur_words.specs.declared.table.Flag.TheVariants.{Watch}
use Rattle.spur_words.specs.declared.table.Field.TheVariants as field
use Rattle.spur_words.specs.declared.task.Task.{Task}
use Rattle.spur_words.specs.Tasks.{fits_field}
use Rattle.spur_words.specs.Words.{flag_name, number_in, task_of, times_in}

-- the address that a word writes, where it writes one
abbrev pub address_written : List ℕ → Option ℕ
address_written word = option_and_then (λ n. if fits_field field.Watch n then Some n else None) (number_in field.Watch word)

-- the address that the next word writes, where there is one
abbrev pub address_next : List (List ℕ) → Option ℕ
address_next [] = None
address_next (word ∷ words) = address_written word

-- the addresses behind the words `--watch`, in their order
abbrev pub addresses_in : List (List ℕ) → List ℕ
addresses_in [] = []
addresses_in (word ∷ words) =
    (if bytes_eq word (flag_name Watch) then option_to_list (address_next words) else []) ++ addresses_in words

-- the addresses that a line of the table watches; another line watches none
abbrev pub watched : List (List ℕ) → List ℕ
watched words = if is_ok (task_of words) then addresses_in words else []

-- ---- laws

-- a line of the table watches as many addresses as it has words `--watch`
abbrev pub EachIsWatched : Type 0
EachIsWatched =
    (words : List (List ℕ)) (task : Task) → task_of words ≡ Ok task → length (watched words) ≡ times_in Watch words

-- a line watches at most 8 addresses
abbrev pub FewAreWatched : Type 0
FewAreWatched = (words : List (List ℕ)) → length (watched words) ≤ 8

-- each is the number of a byte below 2 ^ 38
abbrev pub GlobalAreWatched : Type 0
GlobalAreWatched = (words : List (List ℕ)) → All (λ at. at < 2 ^ 38) (watched words)
