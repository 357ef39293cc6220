use Rattle.std.proofs.Common.{◌∙◌, ◌<◌, ap, subst, sym, map, ℕ, List, Option}
use Rattle.std.specs.Option.{option_copied}
use Rattle.std.proofs.lemmas.List.{length-map}
use Rattle.spur_cache.specs.declared.line.Line.{Line}
use Rattle.spur_cache.specs.Lines.{found}
use Rattle.spur_bus.proofs.BoardFacts.{lines_here}
use Rattle.spur_bus.proofs.CallFacts.{frame_room}
use Rattle.spur_bus.proofs.calls.save_owned.Goals as goal

pub put_line-requires : goal.put_line-requires
put_line-requires g c =
    let lines_of = g.T.HasCache.lens.lines_of in
    let within = subst (λ (n : ℕ). c.args.b < n) (sym (length-map c.args.boards.now lines_of)) c.requires.own in
    let there = ap (λ (ls : List (Option Line)). found ls c.args.at)
    (lines_here lines_of c.args.boards.now c.args.b c.index-boards-b.result c.requires.own ∙ ap lines_of (sym c.index-boards-b.is) ∙ sym c.cache.ensures.lines)
    ∙ sym c.find.ensures ∙ ap option_copied c.in-Some.is in
    frame_room (map lines_of c.args.boards.now) c.args.phys.now c.args.b c.args.at c.in-Some.line.now c.requires.serves within there
