use Rattle.std.proofs.Common.{ℕ, List, ap, length, refl, subst}
use Rattle.spur_swap.specs.Meaning.{SameButFaults, Swap}
use Rattle.spur_pager.specs.declared.store.Store.{Store}
use Rattle.spur_core.specs.declared.world.Beginning.{Beginning}
use Rattle.spur_core.specs.Filled.{filled_with}
use Rattle.spur_core.proofs.BeginFacts.{begun_good, logs_empty}
use Rattle.spur_core.proofs.world.World.begin.Goals as goal

pub returns-in-Ok-clause-good : goal.returns-in-Ok-clause-good
returns-in-Ok-clause-good g c =
    let meaning = g.B.Backing.meaning in
    let before : Swap = meaning c.args.backing in
    let now : Swap = meaning c.fill_swap.new.backing in
    let made = c.in-Ok.ensures in
    let beginning : Beginning g.row.C.Denot g.row.B.Denot = record { opening = c.of.result; cpus = c.of-2.result; backing = c.of-3.result } in
    let store : Store g.row.B.Denot = record { phys = c.in-Ok.parts.phys; frames = c.in-Ok.parts.frames; backing = c.fill_swap.new.backing; history = c.new.result; ahead = c.args.opening.options.ahead } in
    let filled : SameButFaults (filled_with before (length c.args.opening.flat.pages) c.args.opening.flat.swap) now =
    subst (λ (z : ℕ × List ℕ). SameButFaults (filled_with before z.0 z.1) now) (λ k. (c.len-slots.ensures k, c.as_slice.ensures k)) c.in_default.ensures.filled in
    begun_good g.C.Cpu.meaning g.C.Cpu.state g.C.Cpu.room meaning beginning c.args.opening c.args.cpus.items store c.in-Ok.parts.boards.items before g.met.C.Cpu.lawful c.requires
    (record { opening = c.of.ensures; cpus = ap (λ v. v.items) c.of-2.ensures; backing = c.of-3.ensures })
    (record { memory = made.phys; frames = made.frames; history = c.new.ensures; ahead = refl }) made.boards filled

pub returns-in-Ok-clause-empty : goal.returns-in-Ok-clause-empty
returns-in-Ok-clause-empty g c =
    logs_empty g.C.Cpu.meaning g.C.Cpu.state g.C.Cpu.room c.args.opening c.args.cpus.items c.in-Ok.parts.boards.items c.requires.count c.in-Ok.ensures.boards
