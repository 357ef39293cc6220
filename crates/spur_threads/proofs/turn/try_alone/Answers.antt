use Rattle.std.proofs.Common.{◌∙◌, ℕ, subst, sym, ap}
use Rattle.spur_board.specs.Own.{IsOwnStep}
use Rattle.spur_threads.proofs.turn.try_alone.Goals as goal

-- the board is that of the seat, so what it did alone is an own step of the seat's place
pub give_own-requires-clause-step : goal.give_own-requires-clause-step
give_own-requires-clause-step g c =
    let got = c.in-Got.ensures.got in (
      c.in-Got.board,
      ap (λ s. s.holds) got,
      subst (λ (n : ℕ). IsOwnStep g.C.Cpu.meaning g.C.Cpu.state g.C.Cpu.room n c.in-Got.board c.own_turn-turn.new.self) (c.in-Got.ensures.rests.number ∙ sym (ap (λ s. s.number) got)) c.own_turn-turn.ensures.step,
    )
