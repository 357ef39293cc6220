-- Lines, from tokens and fields.
use Rattle.spur_asm.proofs.Levels.{LineLaw, NextLaw, LabelLaw}
use Rattle.spur_asm.proofs.TokenLaw.{tokens_law, free_law}
use Rattle.spur_asm.proofs.FieldsLaw.{fields_law}
use Rattle.spur_asm.proofs.NextLine.{lines_from_tokens}

pub line_is_read : LineLaw
line_is_read = (lines_from_tokens tokens_law free_law fields_law).0

pub next_is_read : NextLaw
next_is_read = (lines_from_tokens tokens_law free_law fields_law).1

pub label_is_read : LabelLaw
label_is_read = (lines_from_tokens tokens_law free_law fields_law).2
