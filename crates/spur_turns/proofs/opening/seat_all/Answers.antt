use Rattle.std.proofs.Common.{rules, ◌≡◌, ◌∷◌, ◌++◌, [], ap, ◌∙◌}
use Rattle.atomic_table.specs.Seated.{TableId}
use Rattle.spur_turns.specs.Shown.{seat_view}
use Rattle.spur_turns.proofs.ListedFacts.{split_next}
use Rattle.spur_turns.proofs.opening.seat_all.Goals as goal

pub loop-number-preserved : goal.loop-number-preserved
loop-number-preserved g c =
    let inv = c.loop-number.invariant in
    let same : c.another-seat.result.table_id ≡ c.args.first.table_id = c.another-seat.ensures.of_table.1 ∙ inv.table in
    let items : c.push-pushed.new.self.items ≡ c.loop-number.seats.items ++ seat_view c.another-seat.result.table_id c.another-seat.result.me.0 ∷ [] = search rules in record {
      table = c.another-seat.ensures.of_table.0 ∙ inv.table;
      wide = search rules;
      seats = split_next _ _ _ _ _ _ _ _ inv.seats c.another-seat.ensures.first c.another-seat.ensures.new (items ∙ ap (λ (t : TableId). c.loop-number.seats.items ++ seat_view t c.another-seat.result.me.0 ∷ []) same);
    }
