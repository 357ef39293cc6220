use Rattle.std.proofs.Common.{rules, arith, ◌≡◌, ◌+◌, refl, sym, ap, ◌∙◌, length, subst, ℕ}
use Rattle.spur_turns.specs.Room.{IsGoodWithRoom, name_with_room}
use Rattle.spur_turns.specs.Views.{first_view}
use Rattle.spur_turns.specs.Hands.{IsReady}
use Rattle.spur_turns.proofs.CommitFacts.{opens}
use Rattle.spur_turns.proofs.HandFacts.{numbered_values, ready_opened, opened_me}
use Rattle.spur_turns.proofs.opening.open.Goals as goal

pub fetch_add-requires : goal.fetch_add-requires
fetch_add-requires g c =
    let wide = c.requires.words in let all = c.requires.count in
    let held = c.take_empty.ensures.held in
    let same = c.take_empty.ensures.view in
    let filled = c.put_in.ensures.hand in
    let view = c.put_in.ensures.view in
    let many : c.len-count.result ≡ length c.args.places.items = search rules in (
      search rules,
      omega (arith, wide, all),
      opens (IsGoodWithRoom g.P.Pact.good) (name_with_room g.P.Pact.name) _ _ _ (record { bus = c.args.bus; room = filled.room }) c.args.places.items _
          (ap (λ v. v.live) view ∙ held.live) (ap (λ v. v.number) view ∙ ap (λ v. v.number) same) (ap (λ v. v.own) view ∙ held.own) (ap (λ v. length v.stock) view ∙ (held.tall ∙ (ap (λ n. n + 1) many ∙ all)))
          (numbered_values _ _ filled.hand_is) all (record { is_good = c.requires.good; room = filled.roomy }) (ap (λ v. v.name) view ∙ ap (λ v. v.name) same),
    )

pub give_back-requires-clause-ready : goal.give_back-requires-clause-ready
give_back-requires-clause-ready g c =
    let held = c.take_empty.ensures.held in
    let filled = c.put_in.ensures.hand in
    let view = c.put_in.ensures.view in
    subst (λ (n : ℕ). IsReady n c.fetch_add.new.seat.me) c.requires.count (ready_opened (name_with_room g.P.Pact.name) _ _ (length c.args.places.items) (record { bus = c.args.bus; room = filled.room }) c.args.places.items _ _ c.fetch_add.ensures.2 (ap (λ v. v.live) view ∙ held.live) (ap (λ v. v.own) view ∙ held.own) filled.hand_is refl)

pub returns-clause-opened : goal.returns-clause-opened
returns-clause-opened g c =
    let filled = c.put_in.ensures.hand in
    let view = c.put_in.ensures.view in
    let same = c.take_empty.ensures.view in
    c.give_back.ensures.gave ∙ opened_me (name_with_room g.P.Pact.name) _ _ (record { bus = c.args.bus; room = filled.room }) c.args.places.items _ _ c.fetch_add.ensures.2 (view ∙ (same ∙ ap (λ l. record first_view { stock = l }) (sym (ap (λ v. v.stock) view)))) filled.hand_is
