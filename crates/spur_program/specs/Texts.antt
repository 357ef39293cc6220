-- The lines that the program itself writes, each ended by a line feed, with numbers in decimal. Reports, traces,
-- objects and refusals of inputs have their texts in the crates below.
use Rattle.std.specs.Prelude.{ℕ, List, ◌++◌, codes}
use Rattle.std.specs.Fmt.{decimal}
use Rattle.spur_text.specs.Line.{feed}
use Rattle.spur_flat.specs.declared.illegal.Clause.{Clause}
use Rattle.spur_flat.specs.declared.illegal.Clause.TheVariants.{Program, Answer, Fault, Pager, Tags, Needed}
use Rattle.spur_input.specs.Texts.{number_text}
use Rattle.spur_check.specs.declared.verdict.Verdict.{Verdict}
use Rattle.spur_check.specs.declared.verdict.Verdict.TheVariants.{Good, Bad}

-- the refusal of a word of the command line, by its number
abbrev pub words_line : ℕ → List ℕ
words_line number = codes "refused: word " ++ decimal number ++ feed

-- the word for a rule of the checker
abbrev pub clause_word : Clause → List ℕ
clause_word Program = codes "program"
clause_word Answer = codes "answer"
clause_word Fault = codes "fault"
clause_word Pager = codes "pager"
clause_word Tags = codes "tags"
clause_word Needed = codes "needed"

-- the entry that is refused, by its number from 1, and the rule that it breaks
unfoldable pub entry_place : ℕ → Clause → List ℕ
entry_place at clause = number_text (codes "bad ") at ++ codes " " ++ clause_word clause

-- the rule's two numbers
unfoldable pub numbers_text : ℕ → ℕ → List ℕ
numbers_text wanted found = number_text (codes " ") wanted ++ number_text (codes " ") found

-- a verdict: good, with the number of entries; or bad
abbrev pub verdict_line : Verdict → List ℕ
verdict_line (Good entries) = number_text (codes "good ") entries ++ feed
verdict_line (Bad at clause wanted found) = entry_place at clause ++ numbers_text wanted found ++ feed
