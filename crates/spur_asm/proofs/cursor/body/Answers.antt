use Rattle.std.proofs.Common.{◌≡◌, sym, length, arith}
use Rattle.std.specs.List.{position_or_len}
use Rattle.std.proofs.lemmas.Grind.{common_steps}
use Rattle.spur_asm.specs.Bytes.{is_semicolon}
use Rattle.spur_asm.proofs.FirstFacts.{position_or_len-Some, position_or_len-None}
use Rattle.spur_asm.proofs.cursor.body.Goals as goal

pub returns-in-Some : goal.returns-in-Some
returns-in-Some c =
    let text = c.args.line.now in
    let at : position_or_len is_semicolon text ≡ c.in-Some.end = position_or_len-Some is_semicolon text _ (sym c.in-Some.ensures) in
    rw at

pub returns-in-None : goal.returns-in-None
returns-in-None c =
    let text = c.args.line.now in
    let at : position_or_len is_semicolon text ≡ length text = position_or_len-None is_semicolon text (sym c.in-None.ensures) in
    rw at (grind (arith, common_steps))
