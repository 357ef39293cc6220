use Rattle.std.proofs.Common.{rules, arith, ◌+◌, ◌∷◌, ap, ◌∙◌, Some}
use Rattle.atomic_table.specs.Table.{rest}
use Rattle.spur_turns.specs.declared.table.Item.TheVariants.{Place}
use Rattle.spur_turns.specs.Room.{IsGoodWithRoom, name_with_room}
use Rattle.spur_turns.proofs.OwnFacts.{gives_from}
use Rattle.spur_turns.proofs.RoomFacts.{keeps_with_room}
use Rattle.spur_turns.proofs.own.give_own.Goals as goal

pub store-requires : goal.store-requires
store-requires g c =
    let wide = c.requires.words in let low = c.requires.low in
    let put = c.exchange-taken_out.ensures.3 in (
      search rules,
      omega (arith, wide, low),
      gives_from (IsGoodWithRoom g.P.Pact.good) (name_with_room g.P.Pact.name) g.P.Pact.own_step (keeps_with_room g.P.Pact.good g.P.Pact.own_step g.P.Pact.keeps) _ _ _ _ c.requires.step.0 c.args.place c.requires.named.0 _
          (ap (λ m. m.0.live) put ∙ c.requires.live) (ap (λ m. m.0.number) put ∙ c.requires.number)
          (ap (λ m. m.0.own) put ∙ c.requires.step.1) c.requires.step.2 (ap (λ m. m.0.name) put ∙ c.requires.named.1)
          (ap (λ m. m.1) put ∙ ap (λ cs. (c.args.number + 1, Some (Place c.args.place)) ∷ rest cs) c.requires.holds),
    )
