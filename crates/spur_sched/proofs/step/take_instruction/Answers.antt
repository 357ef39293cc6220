use Rattle.std.proofs.Common.{◌≡◌, ◌∙◌, ◌⊎◌, ap, arith, inl, inr, refl}
use Rattle.spur_board.specs.declared.turn.Turn.{Turn}
use Rattle.spur_board.specs.declared.turn.Turn.TheVariants as turn
use Rattle.spur_core.specs.Own.{WantsBus}
use Rattle.spur_core.proofs.InstructionFacts.{steps-take-instructions}
use Rattle.spur_sched.specs.Steps.{MergesAll, MergesNone}
use Rattle.spur_sched.proofs.StepFacts.{asks_no_bus, bus_prefix, bus_stepped, on_either, on_ok_both, on_ok_then, prefix_same, wanting_at}
use Rattle.spur_sched.proofs.step.take_instruction.Goals as goal

pub returns-in-NeedsBus-clause-prefix : goal.returns-in-NeedsBus-clause-prefix
returns-in-NeedsBus-clause-prefix g c =
    let old = c.args.world.now in
    let mid = c.own.new.self in
    let new = c.bus_turn.new.self in
    let same = c.in-NeedsBus.ensures.still (omega arith) tt in
    let wanting = wanting_at g.C.Cpu.meaning g.C.Cpu.state g.C.Cpu.room c.args.b old.boards.items mid.boards.items c.in-NeedsBus.field-0 c.in-NeedsBus.ensures.own in
    on_either c.bus_turn.result
    (λ stepped. bus_prefix g.C.Cpu.meaning g.C.Cpu.state g.C.Cpu.room c.args.b old mid new same (stepped wanting))
    (λ err. prefix_same old.store.history.entries new.store.history.entries (ap (λ w. w.store.history.entries) err ∙ ap (λ w. w.store.history.entries) same))
    c.bus_turn.ensures.stepped c.bus_turn.ensures.err

pub returns-in-NeedsBus-clause-instruction : goal.returns-in-NeedsBus-clause-instruction
returns-in-NeedsBus-clause-instruction g c =
    let old = c.args.world.now in
    let mid = c.own.new.self in
    let new = c.bus_turn.new.self in
    let same = c.in-NeedsBus.ensures.still (omega arith) tt in
    let wanting = wanting_at g.C.Cpu.meaning g.C.Cpu.state g.C.Cpu.room c.args.b old.boards.items mid.boards.items c.in-NeedsBus.field-0 c.in-NeedsBus.ensures.own in
    on_ok_both c.bus_turn.result
    (λ stepped empty. steps-take-instructions g.C.Cpu.meaning g.C.Cpu.state c.args.b _ _ _ _ (bus_stepped g.C.Cpu.meaning g.C.Cpu.state g.C.Cpu.room c.args.b old mid new same (stepped wanting) empty))
    c.bus_turn.ensures.stepped c.bus_turn.ensures.empty

pub returns-in-NeedsBus-clause-joined : goal.returns-in-NeedsBus-clause-joined
returns-in-NeedsBus-clause-joined g c = on_ok_then c.bus_turn.result (λ empty. MergesAll empty) c.bus_turn.ensures.empty

pub returns-in-NeedsBus-clause-stepped : goal.returns-in-NeedsBus-clause-stepped
returns-in-NeedsBus-clause-stepped g c =
    let old = c.args.world.now in
    let mid = c.own.new.self in
    let new = c.bus_turn.new.self in
    let same = c.in-NeedsBus.ensures.still (omega arith) tt in
    let wanting = wanting_at g.C.Cpu.meaning g.C.Cpu.state g.C.Cpu.room c.args.b old.boards.items mid.boards.items c.in-NeedsBus.field-0 c.in-NeedsBus.ensures.own in
    on_ok_both c.bus_turn.result
    (λ stepped empty were. bus_stepped g.C.Cpu.meaning g.C.Cpu.state g.C.Cpu.room c.args.b old mid new same (stepped wanting) empty)
    c.bus_turn.ensures.stepped c.bus_turn.ensures.empty

pub returns-in-NeedsBus-clause-kept : goal.returns-in-NeedsBus-clause-kept
returns-in-NeedsBus-clause-kept g c = λ alone.
    let old = c.args.world.now in
    let mid = c.own.new.self in
    let same = c.in-NeedsBus.ensures.still (omega arith) tt in
    absurd (asks_no_bus g.C.Cpu.meaning g.C.Cpu.state g.C.Cpu.room c.args.b old.boards.items mid.boards.items c.in-NeedsBus.field-0 c.in-NeedsBus.ensures.own (ap (λ w. w.boards.items) same) alone)

-- a turn that stopped for another cause did not need the bus
no_bus : (r : Turn) → (r ≡ turn.Again) ⊎ (r ≡ turn.Ended) → WantsBus r → ⊥
no_bus turn.Again over wants = wants
no_bus turn.Ended over wants = wants
no_bus (turn.NeedsBus reason) (inl is) wants = absurd cc
no_bus (turn.NeedsBus reason) (inr is) wants = absurd cc

pub returns-in-Again : goal.returns-in-Again
returns-in-Again g c =
    let old = c.args.world.now in
    let mid = c.own.new.self in
    let history = ap (λ s. s.history.entries) c.own.ensures.store in
    record {
      good = c.own.ensures.good;
      beginning = c.own.ensures.beginning;
      prefix = prefix_same old.store.history.entries mid.store.history.entries history;
      instruction = c.own.ensures.instruction refl (no_bus c.own.result c.in-Again.is) c.requires.running;
      joined = MergesNone history;
      stepped = λ empty. c.own.ensures.stepped refl (no_bus c.own.result c.in-Again.is) c.requires.running empty;
      kept = λ alone. c.own.ensures.store;
    }
