-- Which inputs each command accepts and refuses, and what is taken of a source.
use Rattle.std.specs.Prelude.{◌≡◌, ℕ, ◌+◌, ◌<◌, ◌≤◌, Bool, true, false, List, length, Option, Some, None, Result, Ok, String}
use Rattle.std.specs.declared.alloc.Global.{Global}
use Rattle.spur_io.specs.Told.{IsAtEnd, Loses, LosesCount}
use Rattle.spur_object.specs.declared.unit.Unit.{Unit as Program}
use Rattle.spur_loader.specs.declared.opening.Options.{Options}
use Rattle.spur_report.specs.declared.report.Flags.{Flags}
use Rattle.spur_words.specs.declared.task.Order.{Order}
use Rattle.spur_words.specs.declared.task.Task.{Task}
use Rattle.spur_words.specs.declared.task.Task.TheVariants.{Run, Check, Asm, Gen}
use Rattle.spur_words.specs.Words.{task_alone, task_of, texts}
use Rattle.spur_input.specs.declared.refusal.Refusal.{Refusal}
use Rattle.spur_input.specs.Program.{IsLoadable, check_limit, program_limit}
use Rattle.spur_input.specs.Refused.{IsRefusedToAssemble, IsRefusedToCheck, IsRefusedToRun}

-- what the words of the command line ask for, or the number of the word that is refused; and the same where there are no
-- threads, and so no `run`
abbrev pub asked_by : List (String Global) → Result Task ℕ
asked_by words = task_of (texts words)

abbrev pub asked_alone_by : List (String Global) → Result Task ℕ
asked_alone_by words = task_alone (texts words)

-- whether a command reads an input
abbrev pub reads_input : Task → Bool
reads_input (Run order options flags) = true
reads_input (Check budget) = true
reads_input Asm = true
reads_input (Gen number boards pages) = false

-- the most bytes of an input
abbrev pub limit_of : Task → ℕ
limit_of (Run order options flags) = program_limit
limit_of (Check budget) = check_limit
limit_of Asm = program_limit
limit_of (Gen number boards pages) = 0

-- accepted program text: the words of the command line are of the table and ask for a run of this order, with these
-- options and flags; and the input is the program of this unit, to which no load fault applies
pub record IsAccepted (asked : Result Task ℕ) (input : List ℕ) (order : Order) (options : Options) (flags : Flags)
    (unit : Program) : Type 0 where
  pub command : asked ≡ Ok (Run order options flags)
  pub loadable : IsLoadable options input unit

-- why a command refuses an input
abbrev pub IsRefused : Task → List ℕ → Refusal → Type 0
IsRefused (Run order options flags) input refusal = IsRefusedToRun options input refusal
IsRefused (Check budget) input refusal = IsRefusedToCheck budget input refusal
IsRefused Asm input refusal = IsRefusedToAssemble input refusal
IsRefused (Gen number boards pages) input refusal = ⊥

-- ---- what is taken of a source

-- what a source gave whole: where it tells its bytes, these were all that were left
pub record IsWhole (old new : Option (List ℕ)) (input : List ℕ) : Type 0 where
  pub given : Loses old new input
  pub end : IsAtEnd new

-- the input is what a source has left, where it tells
abbrev pub IsLeft : Option (List ℕ) → List ℕ → Type 0
IsLeft None input = Unit {0}
IsLeft (Some left) input = left ≡ input

-- an input was read: all of it, or of one with too many bytes one more than the limit
pub data IsRead (limit : ℕ) (old new : Option (List ℕ)) (input : List ℕ) : Type 0 where
  ReadWhole : length input ≤ limit → IsWhole old new input → IsRead limit old new input
  ReadFront : limit < length input → IsLeft old input → LosesCount old new (limit + 1) → IsRead limit old new input
