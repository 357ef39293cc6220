-- What a text says is what is read of it, from the laws of its lines.
use Rattle.spur_asm.specs.Laws.{ReadsWhatIsSaid, SaysOnce}
use Rattle.spur_asm.proofs.LineLaws.{line_is_read, next_is_read, label_is_read}
use Rattle.spur_asm.proofs.TextsLaw.{texts_from_lines, says_once_from}

pub reads_what_is_said : ReadsWhatIsSaid
reads_what_is_said = texts_from_lines line_is_read next_is_read label_is_read

pub says_once : SaysOnce
says_once = says_once_from reads_what_is_said
