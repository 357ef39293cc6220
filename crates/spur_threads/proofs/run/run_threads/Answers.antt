use Rattle.std.proofs.Common.{◌∙◌, ◌<◌, ℕ, ap, subst, sym}
use Rattle.spur_threads.proofs.SeatFacts.{one_name}
use Rattle.spur_threads.proofs.run.run_threads.Goals as goal

-- the seats have the name of the bus that came out, and that of the one that was put in
pub returns-clause-beginning : goal.returns-clause-beginning
returns-clause-beginning g c =
    ap (λ w. w.beginning) c.whole.ensures.whole
    ∙ one_name c.close-bus.result.0.beginning c.args.world.beginning c.run_seats.new.seats.items (subst (λ (n : ℕ). 0 < n) (sym c.run_seats.ensures.idle.many) c.in_ok-turns.ensures.some_places)
    c.close-bus.ensures.named (c.run_seats.ensures.named c.args.world.beginning c.in_ok-turns.ensures.named)
