-- Where the first word is not `run`, no threads are asked for.
use Rattle.std.proofs.Common.{◌≡◌, ◌≢◌, ℕ, Bool, true, false, if◌then◌else◌, List, [], ◌∷◌, ◌++◌, Some, None, Result, Ok, Err, IfOk, refl, sym, ap, ◌∙◌, subst, codes}
use Rattle.std.specs.Str.{bytes_eq}
use Rattle.spur_words.specs.declared.settings.Settings.{Settings}
use Rattle.spur_words.specs.declared.table.Field.{Field}
use Rattle.spur_words.specs.declared.table.Verb.{Verb}
use Rattle.spur_words.specs.declared.table.Verb.TheVariants.{Run, Sched, Check, Asm, Gen}
use Rattle.spur_words.specs.declared.task.Task.{Task}
use Rattle.spur_words.specs.Tasks.{IsAlone, first_settings, task_for, with_flag}
use Rattle.spur_words.specs.Words.{asks_to_run, command_fields, flag_fields, task_from, task_of}
use Rattle.spur_words.proofs.WordFacts.{command_said, field_said, flag_said}

-- a task is made of some settings by its command
made_by : (verb : Verb) (settings : Settings) (wanted : List Field) (before words : List (List ℕ)) (task : Task)
    → task_from verb settings wanted before words ≡ Ok task → (s : Settings) × (task ≡ task_for verb s)
made_by verb settings [] before [] task is = (settings, cc)
made_by verb settings (field ∷ wanted) before [] task is = absurd cc
made_by verb settings (field ∷ wanted) before (word ∷ words) task is =
    let said = field_said verb settings task field wanted before word words is in
    made_by verb said.0 wanted (before ++ word ∷ []) words task said.2
made_by verb settings [] before (word ∷ words) task is =
    let said = flag_said verb settings task before word words is in
    made_by verb (with_flag said.0 settings) (flag_fields said.0) (before ++ word ∷ []) words task said.2

-- no other name is that of `run`
named_else : (sched check asm gen : Bool)
    → (if sched then Some Sched else (if check then Some Check else (if asm then Some Asm else (if gen then Some Gen else None)))) ≢ Some Run
named_else true check asm gen is = cc
named_else false true asm gen is = cc
named_else false false true gen is = cc
named_else false false false true is = cc
named_else false false false false is = cc

named_by : (run : Bool) (name : List ℕ) → run ≡ false
    → (if run then Some Run else (if bytes_eq name (codes "sched") then Some Sched else
    (if bytes_eq name (codes "check") then Some Check else (if bytes_eq name (codes "asm") then Some Asm else (if bytes_eq name (codes "gen") then Some Gen else None))))) ≢ Some Run
named_by true name other is = cc
named_by false name other is = named_else (bytes_eq name (codes "sched")) (bytes_eq name (codes "check")) (bytes_eq name (codes "asm")) (bytes_eq name (codes "gen")) is

alone_by : (verb : Verb) (settings : Settings) → verb ≢ Run → IsAlone (task_for verb settings)
alone_by Run settings other = absurd (other refl)
alone_by Sched settings other = tt
alone_by Check settings other = tt
alone_by Asm settings other = tt
alone_by Gen settings other = tt

task_is_alone : (words : List (List ℕ)) (task : Task) → asks_to_run words ≡ false → task_of words ≡ Ok task → IsAlone task
task_is_alone [] task other is = absurd cc
task_is_alone (name ∷ words) task other is =
    let said = command_said task name words is in
    let made = made_by said.0 first_settings (command_fields said.0) [] words task said.2 in
    let not : said.0 ≢ Run = λ same. named_by (bytes_eq name (codes "run")) name other (said.1 ∙ ap (λ (v : Verb). Some v) same) in
    subst IsAlone (sym made.1) (alone_by said.0 made.0 not)

pub alone_if-Ok : (words : List (List ℕ)) (result : Result Task ℕ) → asks_to_run words ≡ false → task_of words ≡ result → IfOk result IsAlone
alone_if-Ok words (Ok task) other is = task_is_alone words task other is
alone_if-Ok words (Err number) other is = tt
