use Rattle.std.proofs.Common.{rules, arith, ◌+◌, ◌∷◌, [], sym, ap, ◌∙◌, Some}
use Rattle.atomic_table.specs.Table.{rest}
use Rattle.spur_turns.specs.declared.table.Item.TheVariants.{Place}
use Rattle.spur_turns.specs.Room.{IsGoodWithRoom, name_with_room}
use Rattle.spur_turns.proofs.OwnFacts.{takes_from}
use Rattle.spur_turns.proofs.RoomFacts.{rests_with_room}
use Rattle.spur_turns.proofs.own.take_own.Goals as goal

pub compare_exchange-found-requires : goal.compare_exchange-found-requires
compare_exchange-found-requires g c =
    let wide = c.requires.words in let low = c.requires.low in let free = c.requires.free in (
      c.requires.of_table,
      omega (arith, wide, low),
      takes_from (IsGoodWithRoom g.P.Pact.good) (name_with_room g.P.Pact.name) g.P.Pact.own_step (rests_with_room g.P.Pact.good g.P.Pact.own_step g.P.Pact.rests) _ _ _ _ c.requires.named.0 _ free.live c.requires.number free.stock free.own c.requires.named.1 free.hand low,
    )

pub exchange-requires : goal.exchange-requires
exchange-requires g c =
    let hit = c.compare_exchange-found.ensures.2.hit c.if-found-ne0.false in
    let hand = hit.2 ∙ ap (λ n. (n + 1, Some (Place hit.0)) ∷ []) c.requires.number in
    (search rules, (_, hand ∙ ap (λ cs. (c.args.number + 1, Some (Place hit.0)) ∷ rest cs) (sym hand)))
