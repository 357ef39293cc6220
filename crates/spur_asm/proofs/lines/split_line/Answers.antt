use Rattle.std.proofs.Common.{◌≡◌, sym, length, arith}
use Rattle.std.specs.List.{position_or_len}
use Rattle.std.proofs.lemmas.Grind.{common_steps}
use Rattle.spur_asm.specs.Bytes.{is_feed}
use Rattle.spur_asm.proofs.FirstFacts.{position_or_len-Some, position_or_len-None}
use Rattle.spur_asm.proofs.lines.split_line.Goals as goal

pub returns-in-Some-clause-line : goal.returns-in-Some-clause-line
returns-in-Some-clause-line c =
    let text = c.args.text.now in
    let at : position_or_len is_feed text ≡ c.in-Some.end = position_or_len-Some is_feed text _ (sym c.in-Some.ensures) in
    rw at

pub returns-in-Some-clause-rest : goal.returns-in-Some-clause-rest
returns-in-Some-clause-rest c =
    let text = c.args.text.now in
    let at : position_or_len is_feed text ≡ c.in-Some.end = position_or_len-Some is_feed text _ (sym c.in-Some.ensures) in
    rw at (grind (arith, common_steps))

pub returns-in-None-clause-line : goal.returns-in-None-clause-line
returns-in-None-clause-line c =
    let text = c.args.text.now in
    let at : position_or_len is_feed text ≡ length text = position_or_len-None is_feed text (sym c.in-None.ensures) in
    rw at c.split_at.ensures.front

pub returns-in-None-clause-rest : goal.returns-in-None-clause-rest
returns-in-None-clause-rest c =
    let text = c.args.text.now in
    let at : position_or_len is_feed text ≡ length text = position_or_len-None is_feed text (sym c.in-None.ensures) in
    rw at (grind (arith, common_steps))
