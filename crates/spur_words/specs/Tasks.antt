-- What the words of the command line set, and the task that is made of it.
use Rattle.std.specs.Prelude.{ℕ, ◌≡◌, ◌≤◌, ◌^◌, ◌&&◌, Bool, true, false, nat_le, nat_lt, None}
use Rattle.std.specs.Int.{is_power_of_two}
use Rattle.spur_loader.specs.Limits.{IsOptions}
use Rattle.spur_gen.specs.Ranges.{is_between, outside}
use Rattle.spur_words.specs.declared.settings.Settings.{Settings}
use Rattle.spur_words.specs.declared.table.Field.{Field}
use Rattle.spur_words.specs.declared.table.Field.TheVariants as field
use Rattle.spur_words.specs.declared.table.Flag.{Flag}
use Rattle.spur_words.specs.declared.table.Flag.TheVariants as flag
use Rattle.spur_words.specs.declared.table.Verb.{Verb}
use Rattle.spur_words.specs.declared.table.Verb.TheVariants as verb
use Rattle.spur_words.specs.declared.task.Order.{Order}
use Rattle.spur_words.specs.declared.task.Order.TheVariants.{Threads, Scheduled}
use Rattle.spur_words.specs.declared.task.Task.{Task}
use Rattle.spur_words.specs.declared.task.Task.TheVariants as task

-- what holds where no word says more
abbrev pub first_settings : Settings
first_settings = record {
  schedule = record { start = 0; late = false };
  number = 0;
  boards = 1;
  pages = 1;
  options = record { frames = 256; lines = 4096; budget = 100000; ahead = 0 };
  flags = record { counts = false; trace = false };
}

-- ---- the table of fields: which numbers may fill a field, and what they set: an address that is watched sets nothing

abbrev pub fits_field : Field → ℕ → Bool
fits_field field.Start n = nat_lt n (2 ^ 64)
fits_field field.Number n = nat_lt n (2 ^ 32)
fits_field field.Boards n = is_between 1 12 n
fits_field field.Pages n = is_between 1 512 n
fits_field field.Frames n = is_between 1 3900 n
fits_field field.Lines n = is_between 16 4096 n && is_power_of_two n
fits_field field.Budget n = is_between 1 250000 n
fits_field field.Ahead n = nat_le n 128
fits_field field.Watch n = nat_lt n (2 ^ 38)

abbrev pub with_field : Field → Settings → ℕ → Settings
with_field field.Start settings n = record settings { schedule = record settings.schedule { start = n } }
with_field field.Number settings n = record settings { number = n }
with_field field.Boards settings n = record settings { boards = n }
with_field field.Pages settings n = record settings { pages = n }
with_field field.Frames settings n = record settings { options = record settings.options { frames = n } }
with_field field.Lines settings n = record settings { options = record settings.options { lines = n } }
with_field field.Budget settings n = record settings { options = record settings.options { budget = n } }
with_field field.Ahead settings n = record settings { options = record settings.options { ahead = n } }
with_field field.Watch settings n = settings

-- ---- what a flag sets by itself: one that has a value sets nothing more

abbrev pub with_flag : Flag → Settings → Settings
with_flag flag.Frames settings = settings
with_flag flag.Lines settings = settings
with_flag flag.Budget settings = settings
with_flag flag.Ahead settings = settings
with_flag flag.Counts settings = record settings { flags = record settings.flags { counts = true } }
with_flag flag.Trace settings = record settings { flags = record settings.flags { trace = true } }
with_flag flag.Late settings = record settings { schedule = record settings.schedule { late = true } }
with_flag flag.Watch settings = settings

-- ---- what a command asks for with these settings

abbrev pub task_for : Verb → Settings → Task
task_for verb.Run settings = task.Run Threads settings.options settings.flags
task_for verb.Sched settings = task.Run (Scheduled settings.schedule) settings.options settings.flags
task_for verb.Check settings = task.Check settings.options.budget
task_for verb.Asm settings = task.Asm
task_for verb.Gen settings = task.Gen settings.number settings.boards settings.pages

-- ---- the ranges of a task's numbers

-- a task's numbers are in their ranges: a run's options, a check's budget, and the numbers of a text that is generated
-- where the generator has one of them
abbrev pub IsTaskInRange : Task → Type 0
IsTaskInRange (task.Run order options flags) = IsOptions options
IsTaskInRange (task.Check budget) = (1 ≤ budget) × (budget ≤ 250000)
IsTaskInRange task.Asm = Unit {0}
IsTaskInRange (task.Gen number boards pages) = outside boards pages ≡ None

-- a task for which no threads are needed
abbrev pub NeedsNoThreads : Order → Type 0
NeedsNoThreads Threads = ⊥
NeedsNoThreads (Scheduled schedule) = Unit {0}

abbrev pub IsAlone : Task → Type 0
IsAlone (task.Run order options flags) = NeedsNoThreads order
IsAlone (task.Check budget) = Unit {0}
IsAlone task.Asm = Unit {0}
IsAlone (task.Gen number boards pages) = Unit {0}
