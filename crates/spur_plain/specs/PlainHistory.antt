-- Histories of the plain machine: accesses that are done, and the faults that end a program.
use Rattle.std.specs.Prelude.{◌≡◌, ⊤, ℕ, Bool, true, false, List, [], ◌∷◌, Some, None, filter}
use Rattle.spur_flat.specs.declared.access.AccessKind.TheVariants as access
use Rattle.spur_flat.specs.declared.entry.Entry.{Entry}
use Rattle.spur_flat.specs.declared.entry.Entry.TheVariants.{Load, Store, Tas, Fault}
use Rattle.spur_cpu.specs.Meaning.{is_ending}
use Rattle.spur_cpu.specs.After.{is_done}
use Rattle.spur_plain.specs.PlainMemory.{PlainMemory, plain_answer, plain_word, plain_with, same_word}

-- what the plain machine knows of: an access that is done, and a fault that ends a program. The faults that are served, the
-- entries of the pager and those of the bus it does not know
abbrev pub is_plain : Entry → Bool
is_plain (Load board at value) = true
is_plain (Store board at value) = true
is_plain (Tas board at old) = true
is_plain (Fault board kind access at) = is_ending kind
is_plain _ = false

abbrev pub plain_entries : List Entry → List Entry
plain_entries history = filter is_plain history

-- and of these the accesses that are done
abbrev pub done_entries : List Entry → List Entry
done_entries history = filter is_done history

-- plain memory after an entry: a store puts its value, and a test-and-set puts 1
abbrev pub plain_on : PlainMemory → Entry → PlainMemory
plain_on M (Store board at value) = plain_with M at value
plain_on M (Tas board at old) = plain_with M at 1
plain_on M _ = M

abbrev pub plain_after : PlainMemory → List Entry → PlainMemory
plain_after M [] = M
plain_after M (entry ∷ rest) = plain_after (plain_on M entry) rest

-- an entry is the plain machine's answer to its access, whatever word was read
abbrev pub IsAnswered : PlainMemory → Entry → Type 0
IsAnswered M (Load board at value) = plain_answer M access.Load at ≡ None
IsAnswered M (Store board at value) = plain_answer M access.Store at ≡ None
IsAnswered M (Tas board at old) = plain_answer M access.Tas at ≡ None
IsAnswered M (Fault board kind access at) = plain_answer M access at ≡ Some kind
IsAnswered M _ = ⊥

-- what a load and a test-and-set read is the word that stands there
abbrev pub HasRead : PlainMemory → Entry → Type 0
HasRead M (Load board at value) = value ≡ plain_word M at
HasRead M (Tas board at old) = old ≡ plain_word M at
HasRead M _ = ⊤

-- a history of the plain machine: each entry is its answer, and reads what stands, in the memory after the entries before it
abbrev pub IsPlain : PlainMemory → List Entry → Type 0
IsPlain M [] = ⊤
IsPlain M (entry ∷ rest) = IsAnswered M entry × HasRead M entry × IsPlain (plain_on M entry) rest

-- whether an entry writes the word of an address
abbrev pub writes_word : ℕ → Entry → Bool
writes_word g (Store board at value) = same_word at g
writes_word g (Tas board at old) = same_word at g
writes_word g _ = false

-- the value that a write puts
abbrev pub written_by : Entry → ℕ
written_by (Store board at value) = value
written_by _ = 1
