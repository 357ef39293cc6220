-- The addresses that a line of the table watches: as many as its words `--watch`, few of them, and each is global.
use Rattle.std.proofs.Common.{◌≡◌, ◌∙◌, ℕ, ◌+◌, ◌<◌, ◌≤◌, ◌^◌, Bool, true, false, cond, if◌then◌else◌, List, [], ◌∷◌, ◌++◌, length, Option, Some, None, Result, Ok, Err, refl, ap, subst, arith}
use Rattle.std.specs.Prelude.{All, is_ok, nat_lt, option_and_then, option_to_list}
use Rattle.std.specs.Str.{bytes_eq}
use Rattle.std.proofs.lemmas.Bool.{ltb-true}
use Rattle.std.proofs.lemmas.List.Elements.{All-append, All-cons, All-nil}
use Rattle.std.proofs.lemmas.List.Sums.{sum_by-cons, sum_by_push}
use Rattle.std.proofs.lemmas.Option.{cond_some}
use Rattle.std.proofs.lemmas.Slice.Eq.{bytes_eq-Decides}
use Rattle.spur_words.specs.declared.settings.Settings.{Settings}
use Rattle.spur_words.specs.declared.table.Field.{Field}
use Rattle.spur_words.specs.declared.table.Field.TheVariants as field
use Rattle.spur_words.specs.declared.table.Flag.{Flag}
use Rattle.spur_words.specs.declared.table.Flag.TheVariants as flag
use Rattle.spur_words.specs.declared.table.Verb.{Verb}
use Rattle.spur_words.specs.declared.task.Task.{Task}
use Rattle.spur_words.specs.Tasks.{first_settings, fits_field, with_field, with_flag}
use Rattle.spur_words.specs.Watched.{EachIsWatched, FewAreWatched, GlobalAreWatched, address_next, addresses_in}
use Rattle.spur_words.specs.Words.{command_fields, command_flags, command_named, filled_by, flag_among, flag_fields, flag_name, flag_times, next_flag, number_in, stands, task_from, task_of, times_in, with_number}
use Rattle.spur_words.proofs.WordFacts.{command_said, field_said, flag_said}

-- ---- the word `--watch`

abbrev is_watch : List ℕ → Bool
is_watch word = bytes_eq word (flag_name flag.Watch)

watch_word : (word : List ℕ) → is_watch word ≡ true → word ≡ flag_name flag.Watch
watch_word word is = (bytes_eq-Decides word (flag_name flag.Watch)).0 is

-- where `--watch` says nothing, a word that says something is another
other_word : {A : Type 0} (said : List ℕ → Option A) (word : List ℕ) (x : A) → said (flag_name flag.Watch) ≡ None
    → said word ≡ Some x → is_watch word ≡ false
other_word {A} said word x silent is = by (is_watch word) refl
  where
    by : (b : Bool) → is_watch word ≡ b → is_watch word ≡ false
    by false away = away
    by true here = (let same : said word ≡ said (flag_name flag.Watch) = ap said (watch_word word here) in absurd cc)

-- it writes no number
no_number : (field : Field) → number_in field (flag_name flag.Watch) ≡ None
no_number field.Start = refl
no_number field.Number = refl
no_number field.Boards = refl
no_number field.Pages = refl
no_number field.Frames = refl
no_number field.Lines = refl
no_number field.Budget = refl
no_number field.Ahead = refl
no_number field.Watch = refl

-- so a value is another word, and so is a command
value_is_other : (field : Field) (settings filled : Settings) (word : List ℕ)
    → filled_by field settings word ≡ Some filled → is_watch word ≡ false
value_is_other field settings filled word is =
    let silent = ap (option_and_then (with_number field settings)) (no_number field) in
    other_word (filled_by field settings) word filled silent is

command_is_other : (name : List ℕ) (verb : Verb) → command_named name ≡ Some verb → is_watch name ≡ false
command_is_other name verb is = other_word command_named name verb refl is

-- ---- the flag that is next

record IsNext (before : List (List ℕ)) (word : List ℕ) (f : Flag) : Type 0 where
  name : word ≡ flag_name f
  room : times_in f before < flag_times f

named_or : (first f : Flag) (others : List Flag) (name : List ℕ) (b : Bool) → bytes_eq name (flag_name first) ≡ b
    → (flag_among others name ≡ Some f → name ≡ flag_name f)
    → (if b then Some first else flag_among others name) ≡ Some f → name ≡ flag_name f
named_or first f others name false away behind is = behind is
named_or first f others name true here behind is =
    let e : first ≡ f = cc in
    let P : Flag → Type 0 = λ g. name ≡ flag_name g in
    subst P e ((bytes_eq-Decides name (flag_name first)).0 here)

named : (flags : List Flag) (name : List ℕ) (f : Flag) → flag_among flags name ≡ Some f → name ≡ flag_name f
named [] name f is = absurd cc
named (first ∷ others) name f is =
    named_or first f others name (bytes_eq name (flag_name first)) refl (named others name f) is

next_or : (before : List (List ℕ)) (word : List ℕ) (f : Flag) (found : Option Flag)
    → ((g : Flag) → found ≡ Some g → word ≡ flag_name g) → stands before found ≡ Some f → IsNext before word f
next_or before word f None name is = absurd cc
next_or before word f (Some g) name is =
    let parts = cond_some (nat_lt (times_in g before) (flag_times g)) g f is in
    let room = ltb-true (times_in g before) (flag_times g) parts.0 in
    subst (IsNext before word) parts.1 (record { name = name g refl; room = room })

next_is : (verb : Verb) (before : List (List ℕ)) (word : List ℕ) (f : Flag) → next_flag verb before word ≡ Some f
    → IsNext before word f
next_is verb before word f is =
    let flags = command_flags verb in
    next_or before word f (flag_among flags word) (named flags word) is

-- ---- how often `--watch` stands

abbrev watches : List (List ℕ) → ℕ
watches words = times_in flag.Watch words

-- what a word adds to that
abbrev once : Bool → ℕ
once b = cond b 1 0

watches_cons : (word : List ℕ) (words : List (List ℕ)) → watches (word ∷ words) ≡ once (is_watch word) + watches words
watches_cons word words = sum_by-cons (λ w. once (is_watch w)) word words

watches_push : (before : List (List ℕ)) (word : List ℕ)
    → watches (before ++ word ∷ []) ≡ watches before + once (is_watch word)
watches_push before word = sum_by_push (λ w. once (is_watch w)) before word

other_push : (before : List (List ℕ)) (word : List ℕ) → is_watch word ≡ false → watches before ≤ 8
    → watches (before ++ word ∷ []) ≤ 8
other_push before word away few =
    let push = watches_push before word in
    let none : once (is_watch word) ≡ 0 = ap once away in
    omega arith

flag_push : (f : Flag) (before : List (List ℕ)) (word : List ℕ) → IsNext before word f → watches before ≤ 8
    → watches (before ++ word ∷ []) ≤ 8
flag_push flag.Frames before word next few = other_push before word (ap is_watch next.name) few
flag_push flag.Lines before word next few = other_push before word (ap is_watch next.name) few
flag_push flag.Budget before word next few = other_push before word (ap is_watch next.name) few
flag_push flag.Ahead before word next few = other_push before word (ap is_watch next.name) few
flag_push flag.Counts before word next few = other_push before word (ap is_watch next.name) few
flag_push flag.Trace before word next few = other_push before word (ap is_watch next.name) few
flag_push flag.Late before word next few = other_push before word (ap is_watch next.name) few
flag_push flag.Watch before word next few =
    let push = watches_push before word in
    let here : is_watch word ≡ true = ap is_watch next.name in
    let one : once (is_watch word) ≡ 1 = ap once here in
    let room : watches before < 8 = next.room in
    omega arith

-- ---- each `--watch` has its address

-- as many addresses as words `--watch`
abbrev IsCounted : List (List ℕ) → Type 0
IsCounted words = length (addresses_in words) ≡ watches words

other_counted : (word : List ℕ) (words : List (List ℕ)) → is_watch word ≡ false → IsCounted words
    → IsCounted (word ∷ words)
other_counted word words away same =
    let here : Bool → List ℕ = λ b. (if b then option_to_list (address_next words) else []) ++ addresses_in words in
    let addresses : addresses_in (word ∷ words) ≡ addresses_in words = ap here away in
    let lengths : length (addresses_in (word ∷ words)) ≡ length (addresses_in words) = ap length addresses in
    let cons = watches_cons word words in
    let none : once (is_watch word) ≡ 0 = ap once away in
    omega arith

watch_counted : (word : List ℕ) (words : List (List ℕ)) (at : ℕ) → is_watch word ≡ true → address_next words ≡ Some at
    → IsCounted words → IsCounted (word ∷ words)
watch_counted word words at is next same =
    let here : Bool → List ℕ = λ b. (if b then option_to_list (address_next words) else []) ++ addresses_in words in
    let with_next : Option ℕ → List ℕ = λ o. option_to_list o ++ addresses_in words in
    let addresses : addresses_in (word ∷ words) ≡ at ∷ addresses_in words = ap here is ∙ ap with_next next in
    let lengths : length (addresses_in (word ∷ words)) ≡ length (at ∷ addresses_in words) = ap length addresses in
    let cons = watches_cons word words in
    let one : once (is_watch word) ≡ 1 = ap once is in
    omega arith

-- a number that may be an address
abbrev allowed : ℕ → Option ℕ
allowed n = if fits_field field.Watch n then Some n else None

-- a word that fills the field of an address writes one
allowed_address : (settings filled : Settings) (n : ℕ) (fits : Bool)
    → (if fits then Some (with_field field.Watch settings n) else None) ≡ Some filled
    → (at : ℕ) × ((if fits then Some n else None) ≡ Some at)
allowed_address settings filled n true is = (n, refl)
allowed_address settings filled n false is = absurd cc

number_address : (settings filled : Settings) (number : Option ℕ)
    → option_and_then (with_number field.Watch settings) number ≡ Some filled
    → (at : ℕ) × (option_and_then allowed number ≡ Some at)
number_address settings filled None is = absurd cc
number_address settings filled (Some n) is = allowed_address settings filled n (fits_field field.Watch n) is

next_address : (verb : Verb) (settings : Settings) (task : Task) (before words : List (List ℕ))
    → task_from verb settings (field.Watch ∷ []) before words ≡ Ok task → (at : ℕ) × (address_next words ≡ Some at)
next_address verb settings task before [] is = absurd cc
next_address verb settings task before (word ∷ words) is =
    let said = field_said verb settings task field.Watch [] before word words is in
    number_address settings said.0 (number_in field.Watch word) said.1

flag_counted : (verb : Verb) (settings : Settings) (task : Task) (f : Flag) (before : List (List ℕ)) (word : List ℕ)
    (words : List (List ℕ)) → word ≡ flag_name f → task_from verb settings (flag_fields f) before words ≡ Ok task
    → IsCounted words → IsCounted (word ∷ words)
flag_counted verb settings task flag.Frames before word words e is same = other_counted word words (ap is_watch e) same
flag_counted verb settings task flag.Lines before word words e is same = other_counted word words (ap is_watch e) same
flag_counted verb settings task flag.Budget before word words e is same = other_counted word words (ap is_watch e) same
flag_counted verb settings task flag.Ahead before word words e is same = other_counted word words (ap is_watch e) same
flag_counted verb settings task flag.Counts before word words e is same = other_counted word words (ap is_watch e) same
flag_counted verb settings task flag.Trace before word words e is same = other_counted word words (ap is_watch e) same
flag_counted verb settings task flag.Late before word words e is same = other_counted word words (ap is_watch e) same
flag_counted verb settings task flag.Watch before word words e is same =
    let next = next_address verb settings task before words is in
    watch_counted word words next.0 (ap is_watch e) next.1 same

-- ---- a line of the table

-- the words behind these have an address for each `--watch`, and all words have it 8 times at most
record IsRead (before words : List (List ℕ)) : Type 0 where
  counted : IsCounted words
  few : watches before + watches words ≤ 8

few_cons : (before : List (List ℕ)) (word : List ℕ) (words : List (List ℕ))
    → watches (before ++ word ∷ []) + watches words ≤ 8 → watches before + watches (word ∷ words) ≤ 8
few_cons before word words few =
    let push = watches_push before word in
    let cons = watches_cons word words in
    omega arith

read_from : (verb : Verb) (settings : Settings) (task : Task) (wanted : List Field) (before words : List (List ℕ))
    → watches before ≤ 8 → task_from verb settings wanted before words ≡ Ok task → IsRead before words
read_from verb settings task [] before [] few is = record { counted = refl; few = omega arith }
read_from verb settings task (field ∷ wanted) before [] few is = absurd cc
read_from verb settings task (field ∷ wanted) before (word ∷ words) few is =
    let said = field_said verb settings task field wanted before word words is in
    let other = value_is_other field settings said.0 word said.1 in
    let few_then = other_push before word other few in
    let rest = read_from verb said.0 task wanted (before ++ word ∷ []) words few_then said.2 in
    record { counted = other_counted word words other rest.counted; few = few_cons before word words rest.few }
read_from verb settings task [] before (word ∷ words) few is =
    let said = flag_said verb settings task before word words is in
    let next = next_is verb before word said.0 said.1 in
    let set = with_flag said.0 settings in
    let seen = before ++ word ∷ [] in
    let few_then = flag_push said.0 before word next few in
    let rest = read_from verb set task (flag_fields said.0) seen words few_then said.2 in
    record {
      counted = flag_counted verb set task said.0 seen word words next.name said.2 rest.counted;
      few = few_cons before word words rest.few;
    }

line_is_read : (words : List (List ℕ)) (task : Task) → task_of words ≡ Ok task → IsRead [] words
line_is_read [] task is = absurd cc
line_is_read (name ∷ words) task is =
    let said = command_said task name words is in
    let other = command_is_other name said.0 said.1 in
    let rest = read_from said.0 first_settings task (command_fields said.0) [] words (omega arith) said.2 in
    let cons = watches_cons name words in
    let none : once (is_watch name) ≡ 0 = ap once other in
    let few : watches [] + watches words ≤ 8 = rest.few in
    record { counted = other_counted name words other rest.counted; few = omega arith }

-- the addresses of a line that was answered so
abbrev watched_where : List (List ℕ) → Result Task ℕ → List ℕ
watched_where words r = if is_ok r then addresses_in words else []

pub each_is_watched : EachIsWatched
each_is_watched words task is =
    let line = line_is_read words task is in
    ap (λ (r : Result Task ℕ). length (watched_where words r)) is ∙ line.counted

few_or : (words : List (List ℕ)) (r : Result Task ℕ) → task_of words ≡ r → length (watched_where words r) ≤ 8
few_or words (Err number) is = omega arith
few_or words (Ok task) is =
    let line = line_is_read words task is in
    let counted : length (addresses_in words) ≡ watches words = line.counted in
    let few : watches [] + watches words ≤ 8 = line.few in
    omega arith

pub few_are_watched : FewAreWatched
few_are_watched words = few_or words (task_of words) refl

-- ---- each address is global

abbrev IsGlobal : ℕ → Type 0
IsGlobal at = at < 2 ^ 38

allowed_global : (number : Option ℕ) (at : ℕ) → option_and_then allowed number ≡ Some at → IsGlobal at
allowed_global None at is = absurd cc
allowed_global (Some n) at is =
    let parts = cond_some (fits_field field.Watch n) n at is in
    subst IsGlobal parts.1 (ltb-true n (2 ^ 38) parts.0)

next_global : (words : List (List ℕ)) (at : ℕ) → address_next words ≡ Some at → IsGlobal at
next_global [] at is = absurd cc
next_global (word ∷ words) at is = allowed_global (number_in field.Watch word) at is

one_global : (words : List (List ℕ)) (next : Option ℕ) → address_next words ≡ next → All IsGlobal (option_to_list next)
one_global words None is = All-nil IsGlobal
one_global words (Some at) is = All-cons IsGlobal at [] (next_global words at is) (All-nil IsGlobal)

here_global : (b : Bool) (words : List (List ℕ)) → All IsGlobal (if b then option_to_list (address_next words) else [])
here_global true words = one_global words (address_next words) refl
here_global false words = All-nil IsGlobal

all_global : (words : List (List ℕ)) → All IsGlobal (addresses_in words)
all_global [] = All-nil IsGlobal
all_global (word ∷ words) =
    let here : List ℕ = if is_watch word then option_to_list (address_next words) else [] in
    All-append IsGlobal here (addresses_in words) (here_global (is_watch word) words) (all_global words)

global_or : (b : Bool) (words : List (List ℕ)) → All IsGlobal (if b then addresses_in words else [])
global_or true words = all_global words
global_or false words = All-nil IsGlobal

pub global_are_watched : GlobalAreWatched
global_are_watched words = global_or (is_ok (task_of words)) words
