-- The words of the command line, behind the program's name: a command, its numbers, and flags with their values.
use Rattle.std.specs.Prelude.{ℕ, ◌+◌, ◌*◌, ◌-◌, ◌&&◌, Bool, false, nat_lt, nat_le, if◌then◌else◌, List, [], ◌∷◌, ◌++◌, length, count_by, Option, Some, None, option_and_then, Result, Ok, Err, codes, map, String, string_bytes}
use Rattle.std.specs.Char.{is_ascii_digit}
use Rattle.std.specs.Str.{bytes_eq}
use Rattle.std.specs.declared.alloc.Global.{Global}
use Rattle.spur_words.specs.declared.settings.Settings.{Settings}
use Rattle.spur_words.specs.declared.table.Verb.{Verb}
use Rattle.spur_words.specs.declared.table.Verb.TheVariants.{Run, Sched, Check, Asm, Gen}
use Rattle.spur_words.specs.declared.table.Flag.{Flag}
use Rattle.spur_words.specs.declared.table.Flag.TheVariants.{Frames, Lines, Budget, Ahead, Counts, Trace, Late, Watch}
use Rattle.spur_words.specs.declared.table.Field.{Field}
use Rattle.spur_words.specs.declared.table.Field.TheVariants as field
use Rattle.spur_words.specs.declared.task.Task.{Task}
use Rattle.spur_words.specs.Tasks.{first_settings, fits_field, task_for, with_field, with_flag}

-- the bytes of each word
abbrev pub texts : List (String Global) → List (List ℕ)
texts words = map string_bytes words

-- ---- the table of flags: how a flag is named, how often it may stand, and which fields the words behind it fill

abbrev pub flag_name : Flag → List ℕ
flag_name Frames = codes "--frames"
flag_name Lines = codes "--lines"
flag_name Budget = codes "--budget"
flag_name Ahead = codes "--ahead"
flag_name Counts = codes "--counts"
flag_name Trace = codes "--trace"
flag_name Late = codes "--late"
flag_name Watch = codes "--watch"

abbrev pub flag_times : Flag → ℕ
flag_times Frames = 1
flag_times Lines = 1
flag_times Budget = 1
flag_times Ahead = 1
flag_times Counts = 1
flag_times Trace = 1
flag_times Late = 1
flag_times Watch = 8

abbrev pub flag_fields : Flag → List Field
flag_fields Frames = field.Frames ∷ []
flag_fields Lines = field.Lines ∷ []
flag_fields Budget = field.Budget ∷ []
flag_fields Ahead = field.Ahead ∷ []
flag_fields Counts = []
flag_fields Trace = []
flag_fields Late = []
flag_fields Watch = field.Watch ∷ []

-- ---- the table of commands: how a command is named, which fields the words behind it fill, and which flags it has

abbrev pub command_named : List ℕ → Option Verb
command_named name =
    if bytes_eq name (codes "run") then Some Run else
    (if bytes_eq name (codes "sched") then Some Sched else
    (if bytes_eq name (codes "check") then Some Check else
    (if bytes_eq name (codes "asm") then Some Asm else
    (if bytes_eq name (codes "gen") then Some Gen else None))))

abbrev pub command_fields : Verb → List Field
command_fields Run = []
command_fields Sched = field.Start ∷ []
command_fields Check = []
command_fields Asm = []
command_fields Gen = field.Number ∷ field.Boards ∷ field.Pages ∷ []

abbrev pub command_flags : Verb → List Flag
command_flags Run = Frames ∷ Lines ∷ Budget ∷ Ahead ∷ Counts ∷ Trace ∷ []
command_flags Sched = Frames ∷ Lines ∷ Budget ∷ Ahead ∷ Counts ∷ Trace ∷ Late ∷ Watch ∷ []
command_flags Check = Budget ∷ []
command_flags Asm = []
command_flags Gen = []

-- ---- reading by the table

-- the number that these digits write behind those of n, if they are digits
abbrev pub decimal_after : ℕ → List ℕ → Option ℕ
decimal_after n [] = Some n
decimal_after n (c ∷ cs) = if is_ascii_digit c then decimal_after (n * 10 + (c - 48)) cs else None

-- the number of 1 to 20 decimal digits, of which the first may be zeros
abbrev pub decimal_of : List ℕ → Option ℕ
decimal_of word = if nat_lt 0 (length word) && nat_le (length word) 20 then decimal_after 0 word else None

-- the value of a lower-case hexadecimal digit: the codes of 0 and a are 48 and 97
abbrev pub hexadecimal_digit : ℕ → Option ℕ
hexadecimal_digit c =
    if is_ascii_digit c then Some (c - 48) else
    (if nat_le 97 c && nat_le c 102 then Some (c - 97 + 10) else None)

-- the number that these digits write behind those of n, if they are lower-case hexadecimal digits
abbrev pub hexadecimal_after : ℕ → List ℕ → Option ℕ
hexadecimal_after n [] = Some n
hexadecimal_after n (c ∷ cs) = option_and_then (λ digit. hexadecimal_after (n * 16 + digit) cs) (hexadecimal_digit c)

-- the number of 1 to 10 lower-case hexadecimal digits, of which the first may be zeros
abbrev pub hexadecimal_of : List ℕ → Option ℕ
hexadecimal_of word = if nat_lt 0 (length word) && nat_le (length word) 10 then hexadecimal_after 0 word else None

-- the number that a word writes in a field: an address in hexadecimal digits, and all else in decimal ones
abbrev pub number_in : Field → List ℕ → Option ℕ
number_in field.Start word = decimal_of word
number_in field.Number word = decimal_of word
number_in field.Boards word = decimal_of word
number_in field.Pages word = decimal_of word
number_in field.Frames word = decimal_of word
number_in field.Lines word = decimal_of word
number_in field.Budget word = decimal_of word
number_in field.Ahead word = decimal_of word
number_in field.Watch word = hexadecimal_of word

-- the settings with the number of a word in a field, where the word is a number that may fill it
abbrev pub with_number : Field → Settings → ℕ → Option Settings
with_number field settings n = if fits_field field n then Some (with_field field settings n) else None

abbrev pub filled_by : Field → Settings → List ℕ → Option Settings
filled_by field settings word = option_and_then (with_number field settings) (number_in field word)

-- the flag of these with this name
abbrev pub flag_among : List Flag → List ℕ → Option Flag
flag_among [] name = None
flag_among (flag ∷ others) name = if bytes_eq name (flag_name flag) then Some flag else flag_among others name

-- how often the flag's name stands among these words
abbrev pub times_in : Flag → List (List ℕ) → ℕ
times_in flag words = count_by (λ word. bytes_eq word (flag_name flag)) words

-- a flag that may stand once more, behind these words
abbrev pub stands : List (List ℕ) → Option Flag → Option Flag
stands before None = None
stands before (Some flag) = if nat_lt (times_in flag before) (flag_times flag) then Some flag else None

abbrev pub next_flag : Verb → List (List ℕ) → List ℕ → Option Flag
next_flag verb before word = stands before (flag_among (command_flags verb) word)

-- what a word says, where it says something; else the word offends, by its number
abbrev pub or_offends : {A B : Type 0} → Option A → ℕ → (A → Result B ℕ) → Result B ℕ
or_offends None number then_what = Err number
or_offends (Some said) number then_what = then_what said

-- the number, counted from 1, of the word behind the command and these
abbrev pub number_behind : List (List ℕ) → ℕ
number_behind before = length before + 2

-- the words that are left, behind the command and the words before them: the next ones fill the fields that are wanted,
-- and where none is wanted a flag is next, with the fields that it wants. A line that ends too early is answered by the
-- number behind its last word.
abbrev pub task_from : Verb → Settings → List Field → List (List ℕ) → List (List ℕ) → Result Task ℕ
task_from verb settings [] before [] = Ok (task_for verb settings)
task_from verb settings (field ∷ wanted) before [] = Err (number_behind before)
task_from verb settings (field ∷ wanted) before (word ∷ words) =
    or_offends (filled_by field settings word) (number_behind before)
    (λ filled. task_from verb filled wanted (before ++ word ∷ []) words)
task_from verb settings [] before (word ∷ words) =
    or_offends (next_flag verb before word) (number_behind before)
    (λ flag. task_from verb (with_flag flag settings) (flag_fields flag) (before ++ word ∷ []) words)

-- the task that the words ask for, or the number, counted from 1, of the first word that is not of the table
abbrev pub task_of : List (List ℕ) → Result Task ℕ
task_of [] = Err 1
task_of (name ∷ words) =
    or_offends (command_named name) 1 (λ verb. task_from verb first_settings (command_fields verb) [] words)

-- ---- where there are no threads

-- the first word is `run`
abbrev pub asks_to_run : List (List ℕ) → Bool
asks_to_run [] = false
asks_to_run (name ∷ words) = bytes_eq name (codes "run")

-- the task that the words ask for where the word `run` is none of the table
abbrev pub task_alone : List (List ℕ) → Result Task ℕ
task_alone words = if asks_to_run words then Err 1 else task_of words
