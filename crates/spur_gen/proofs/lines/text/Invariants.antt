use Rattle.std.specs.List.{flat_map}
use Rattle.std.proofs.Common.{◌≡◌, ◌++◌}
use Rattle.spur_gen.specs.Text.{board_text, page_line, up_to}
use Rattle.spur_gen.proofs.lines.text.Given as goal

abbrev pub invariant-loop-page : goal.invariant-loop-page
invariant-loop-page l = l.text.items ≡ l.initial.text.items ++ flat_map page_line (up_to l.page)

abbrev pub invariant-loop-board : goal.invariant-loop-board
invariant-loop-board l = l.text.items ≡ l.initial.text.items ++ flat_map (board_text l.number l.pages) (up_to l.board)
