use Rattle.std.proofs.Common.{◌≡◌, ◌++◌, ap, List, ℕ, subst, sym}
use Rattle.std.specs.Prelude.{OnOk, codes}
use Rattle.spur_text.specs.Line.{feed}
use Rattle.spur_input.specs.Texts.{load_line, number_text}
use Rattle.spur_input.proofs.writing.put_load_line.Goals as goal

pub returns-in-NoRoom : goal.returns-in-NoRoom
returns-in-NoRoom c =
    let is : load_line c.args.fault ≡ number_text (codes "refused: load: no room ") c.in-NoRoom.frames ++ feed = ap load_line c.in-NoRoom.is in
    subst (λ (line : List ℕ). OnOk c.put_counted_line.result (c.put_counted_line.new.out.items ≡ c.args.out.now.items ++ line)) (sym is) c.put_counted_line.ensures
