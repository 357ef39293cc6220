use Rattle.std.proofs.Common.{◌≡◌, sym, ap, ◌∙◌, arith}
use Rattle.spur_isa.specs.Word.{instr_word, parts_at, instr_at}
use Rattle.spur_isa.proofs.WordFacts.{instr_again}
use Rattle.spur_isa.proofs.word.decode.Goals as goal
use Rattle.spur_isa.proofs.word.decode.Goals.{in_default-via-in-Some+else-encode-word, in_default-via-in_default}

pub returns-in-Some-clause-again : goal.returns-in-Some-clause-again
returns-in-Some-clause-again c i h e =
    let found = c.candidate.ensures ∙ ap (λ w. instr_at (parts_at w)) e ∙ instr_again i h in
    cc

pub returns-in_default-clause-only : goal.returns-in_default-clause-only
returns-in_default-clause-only c i h e =
    let found = c.candidate.ensures ∙ ap (λ w. instr_at (parts_at w)) e ∙ instr_again i h in
    elim c.in_default.branch [
      | in_default-via-in-Some+else-encode-word w ↦ (
          let same : w.in-Some.instr ≡ i = cc in
          let encoded = w.encode.ensures.value ∙ ap instr_word same ∙ sym e in
          grind (arith, encoded)
          )
      | in_default-via-in_default w ↦ w.in_default.not-Some i found
    ]

pub returns-in_default-clause-again : goal.returns-in_default-clause-again
returns-in_default-clause-again c i h e = absurd (returns-in_default-clause-only c i h e)
