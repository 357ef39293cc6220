-- The words of the command line, one at a time, and the ranges of the task that they ask for.
use Rattle.std.proofs.Common.{◌≡◌, ℕ, ◌≤◌, Bool, true, false, if◌then◌else◌, List, [], ◌∷◌, ◌++◌, Option, Some, None, Result, Ok, Err, IfOk, refl, sym, subst, arith}
use Rattle.std.specs.Prelude.{nat_le, option_and_then}
use Rattle.std.specs.Int.{is_power_of_two}
use Rattle.std.proofs.lemmas.Bool.{and_parts, leb-true}
use Rattle.spur_snoop.specs.Size.{IsLineCount}
use Rattle.spur_cache.proofs.SizeFacts.{counted}
use Rattle.spur_gen.specs.Ranges.{is_between, outside}
use Rattle.spur_words.specs.declared.settings.Settings.{Settings}
use Rattle.spur_words.specs.declared.table.Field.{Field}
use Rattle.spur_words.specs.declared.table.Field.TheVariants as field
use Rattle.spur_words.specs.declared.table.Flag.{Flag}
use Rattle.spur_words.specs.declared.table.Flag.TheVariants as flag
use Rattle.spur_words.specs.declared.table.Verb.{Verb}
use Rattle.spur_words.specs.declared.table.Verb.TheVariants as verb
use Rattle.spur_words.specs.declared.task.Task.{Task}
use Rattle.spur_loader.specs.Limits.{IsOptions}
use Rattle.spur_words.specs.Tasks.{IsTaskInRange, first_settings, fits_field, task_for, with_field, with_flag}
use Rattle.spur_words.specs.Words.{command_fields, command_named, flag_fields, next_flag, number_behind, number_in, or_offends, task_from, task_of, with_number, filled_by}

-- what a word says that doesn't offend
said_by : {A B : Type 0} (said : Option A) (number : ℕ) (f : A → Result B ℕ) (y : B) → or_offends said number f ≡ Ok y
    → (x : A) × (said ≡ Some x) × (f x ≡ Ok y)
said_by None number f y is = absurd cc
said_by (Some x) number f y is = (x, refl, is)

-- the next word fills the field that is wanted
pub field_said : (verb : Verb) (settings : Settings) (task : Task) (field : Field) (wanted : List Field)
    (before : List (List ℕ)) (word : List ℕ) (words : List (List ℕ))
    → task_from verb settings (field ∷ wanted) before (word ∷ words) ≡ Ok task
    → (filled : Settings) × (filled_by field settings word ≡ Some filled)
    × (task_from verb filled wanted (before ++ word ∷ []) words ≡ Ok task)
field_said verb settings task field wanted before word words is =
    let rest : Settings → Result Task ℕ = λ filled. task_from verb filled wanted (before ++ word ∷ []) words in
    said_by (filled_by field settings word) (number_behind before) rest task is

-- where no field is wanted, it is a flag
pub flag_said : (verb : Verb) (settings : Settings) (task : Task) (before : List (List ℕ)) (word : List ℕ)
    (words : List (List ℕ)) → task_from verb settings [] before (word ∷ words) ≡ Ok task
    → (f : Flag) × (next_flag verb before word ≡ Some f)
    × (task_from verb (with_flag f settings) (flag_fields f) (before ++ word ∷ []) words ≡ Ok task)
flag_said verb settings task before word words is =
    let seen = before ++ word ∷ [] in
    let rest : Flag → Result Task ℕ = λ f. task_from verb (with_flag f settings) (flag_fields f) seen words in
    said_by (next_flag verb before word) (number_behind before) rest task is

-- the first word of all is a command
pub command_said : (task : Task) (name : List ℕ) (words : List (List ℕ)) → task_of (name ∷ words) ≡ Ok task
    → (verb : Verb) × (command_named name ≡ Some verb)
    × (task_from verb first_settings (command_fields verb) [] words ≡ Ok task)
command_said task name words is =
    let rest : Verb → Result Task ℕ = λ verb. task_from verb first_settings (command_fields verb) [] words in
    said_by (command_named name) 1 rest task is

-- ---- the settings are in their ranges

record AreInRange (settings : Settings) : Type 0 where
  boards : fits_field field.Boards settings.boards ≡ true
  pages : fits_field field.Pages settings.pages ≡ true
  frames : fits_field field.Frames settings.options.frames ≡ true
  lines : fits_field field.Lines settings.options.lines ≡ true
  budget : fits_field field.Budget settings.options.budget ≡ true
  ahead : fits_field field.Ahead settings.options.ahead ≡ true

line_count : IsLineCount 4096
line_count = record { exponent = 12; power = refl; some_lines = omega arith; few_lines = omega arith }

first_in_range : AreInRange first_settings
first_in_range = record {
  boards = refl;
  pages = refl;
  frames = refl;
  lines = (counted 4096 (is_power_of_two 4096) refl (omega arith) (omega arith)).1 line_count;
  budget = refl;
  ahead = refl;
}

filled_in_range : (field : Field) (settings : Settings) (n : ℕ) → AreInRange settings → fits_field field n ≡ true
    → AreInRange (with_field field settings n)
filled_in_range field.Start settings n fine is =
    record { boards = fine.boards; pages = fine.pages; frames = fine.frames; lines = fine.lines; budget = fine.budget; ahead = fine.ahead }
filled_in_range field.Number settings n fine is =
    record { boards = fine.boards; pages = fine.pages; frames = fine.frames; lines = fine.lines; budget = fine.budget; ahead = fine.ahead }
filled_in_range field.Boards settings n fine is =
    record { boards = is; pages = fine.pages; frames = fine.frames; lines = fine.lines; budget = fine.budget; ahead = fine.ahead }
filled_in_range field.Pages settings n fine is =
    record { boards = fine.boards; pages = is; frames = fine.frames; lines = fine.lines; budget = fine.budget; ahead = fine.ahead }
filled_in_range field.Frames settings n fine is =
    record { boards = fine.boards; pages = fine.pages; frames = is; lines = fine.lines; budget = fine.budget; ahead = fine.ahead }
filled_in_range field.Lines settings n fine is =
    record { boards = fine.boards; pages = fine.pages; frames = fine.frames; lines = is; budget = fine.budget; ahead = fine.ahead }
filled_in_range field.Budget settings n fine is =
    record { boards = fine.boards; pages = fine.pages; frames = fine.frames; lines = fine.lines; budget = is; ahead = fine.ahead }
filled_in_range field.Ahead settings n fine is =
    record { boards = fine.boards; pages = fine.pages; frames = fine.frames; lines = fine.lines; budget = fine.budget; ahead = is }
filled_in_range field.Watch settings n fine is = fine

flagged_in_range : (flag : Flag) (settings : Settings) → AreInRange settings → AreInRange (with_flag flag settings)
flagged_in_range flag.Frames settings fine = fine
flagged_in_range flag.Lines settings fine = fine
flagged_in_range flag.Budget settings fine = fine
flagged_in_range flag.Ahead settings fine = fine
flagged_in_range flag.Watch settings fine = fine
flagged_in_range flag.Counts settings fine =
    record { boards = fine.boards; pages = fine.pages; frames = fine.frames; lines = fine.lines; budget = fine.budget; ahead = fine.ahead }
flagged_in_range flag.Trace settings fine =
    record { boards = fine.boards; pages = fine.pages; frames = fine.frames; lines = fine.lines; budget = fine.budget; ahead = fine.ahead }
flagged_in_range flag.Late settings fine =
    record { boards = fine.boards; pages = fine.pages; frames = fine.frames; lines = fine.lines; budget = fine.budget; ahead = fine.ahead }

allowed_in_range : (field : Field) (settings filled : Settings) (n : ℕ) (allowed : Bool) → AreInRange settings → fits_field field n ≡ allowed
    → (if allowed then Some (with_field field settings n) else None) ≡ Some filled → AreInRange filled
allowed_in_range field settings filled n false fine is same = absurd cc
allowed_in_range field settings filled n true fine is same =
    let e : with_field field settings n ≡ filled = cc in
    subst AreInRange e (filled_in_range field settings n fine is)

number_in_range : (field : Field) (settings filled : Settings) (number : Option ℕ) → AreInRange settings
    → option_and_then (with_number field settings) number ≡ Some filled → AreInRange filled
number_in_range field settings filled None fine is = absurd cc
number_in_range field settings filled (Some n) fine is = allowed_in_range field settings filled n (fits_field field n) fine refl is

-- ---- and so is the task that is made of them

within : (least most n : ℕ) → is_between least most n ≡ true → (least ≤ n) × (n ≤ most)
within least most n is = (let parts = and_parts (nat_le least n) (nat_le n most) is in (leb-true least n parts.0, leb-true n most parts.1))

lines_within : (n : ℕ) → fits_field field.Lines n ≡ true → IsLineCount n
lines_within n is =
    let parts = and_parts (is_between 16 4096 n) (is_power_of_two n) is in
    let range = within 16 4096 n parts.0 in
    (counted n (is_power_of_two n) refl range.0 range.1).0 parts.1

options_in_range : (settings : Settings) → AreInRange settings → IsOptions settings.options
options_in_range settings fine =
    let frames = within 1 3900 settings.options.frames fine.frames in
    let budget = within 1 250000 settings.options.budget fine.budget in
    record {
      some_frames = frames.0;
      few_frames = frames.1;
      lines = lines_within settings.options.lines fine.lines;
      some_budget = budget.0;
      few_budget = budget.1;
      ahead = leb-true settings.options.ahead 128 fine.ahead;
    }

none_outside : (boards pages : ℕ) → is_between 1 12 boards ≡ true → is_between 1 512 pages ≡ true → outside boards pages ≡ None
none_outside boards pages few_boards few_pages = rw (few_boards, few_pages) refl

task_in_range : (verb : Verb) (settings : Settings) → AreInRange settings → IsTaskInRange (task_for verb settings)
task_in_range verb.Run settings fine = options_in_range settings fine
task_in_range verb.Sched settings fine = options_in_range settings fine
task_in_range verb.Check settings fine = within 1 250000 settings.options.budget fine.budget
task_in_range verb.Asm settings fine = tt
task_in_range verb.Gen settings fine = none_outside settings.boards settings.pages fine.boards fine.pages

from_in_range : (verb : Verb) (settings : Settings) (result : Task) (wanted : List Field) (before words : List (List ℕ)) → AreInRange settings
    → task_from verb settings wanted before words ≡ Ok result → IsTaskInRange result
from_in_range verb settings result [] before [] fine is = (let e : task_for verb settings ≡ result = cc in subst IsTaskInRange e (task_in_range verb settings fine))
from_in_range verb settings result (field ∷ wanted) before [] fine is = absurd cc
from_in_range verb settings result (field ∷ wanted) before (word ∷ words) fine is =
    let said = field_said verb settings result field wanted before word words is in
    let fine_then = number_in_range field settings said.0 (number_in field word) fine said.1 in
    from_in_range verb said.0 result wanted (before ++ word ∷ []) words fine_then said.2
from_in_range verb settings result [] before (word ∷ words) fine is =
    let said = flag_said verb settings result before word words is in
    let fine_then = flagged_in_range said.0 settings fine in
    let seen = before ++ word ∷ [] in
    from_in_range verb (with_flag said.0 settings) result (flag_fields said.0) seen words fine_then said.2

-- the task that words ask for
in_range : (words : List (List ℕ)) (task : Task) → task_of words ≡ Ok task → IsTaskInRange task
in_range [] task is = absurd cc
in_range (name ∷ words) task is =
    let said = command_said task name words is in
    from_in_range said.0 first_settings task (command_fields said.0) [] words first_in_range said.2

pub range_if-Ok : (words : List (List ℕ)) (result : Result Task ℕ) → result ≡ task_of words → IfOk result IsTaskInRange
range_if-Ok words (Ok task) is = in_range words task (sym is)
range_if-Ok words (Err number) is = tt
