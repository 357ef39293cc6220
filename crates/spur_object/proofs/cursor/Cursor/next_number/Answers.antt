use Rattle.std.proofs.Common.{rules}
use Rattle.spur_object.proofs.CursorFacts.{number_is}
use Rattle.spur_object.proofs.cursor.Cursor.next_number.Goals as goal

pub returns-clause-bytes : goal.returns-clause-bytes
returns-clause-bytes c =
    number_is c.args.self.now c.in_ok-four.four c.read_u32.result c.in_ok-four.ensures.there c.in_ok-four.ensures.four (search rules) c.read_u32.ensures
