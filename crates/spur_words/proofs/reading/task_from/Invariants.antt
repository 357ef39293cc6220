use Rattle.std.proofs.Common.{◌≡◌, [], drop, take}
use Rattle.spur_words.specs.Tasks.{first_settings}
use Rattle.spur_words.specs.Words.{command_fields, task_from, texts}
use Rattle.spur_words.proofs.reading.task_from.Given as goal

-- the words that are left give what all of them give
abbrev pub invariant-loop-place : goal.invariant-loop-place
invariant-loop-place l =
    task_from l.verb l.settings l.wanted (texts (take l.place l.words)) (texts (drop l.place l.words))
    ≡ task_from l.verb first_settings (command_fields l.verb) [] (texts l.words)
