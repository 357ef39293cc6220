use Rattle.std.proofs.Common.{refl, sym}
use Rattle.spur_program.proofs.SeenFacts.{out_anyhow, shown_kept}
use Rattle.spur_program.proofs.threads.run_world.Goals as goal

pub returns-in-Ok-see : goal.returns-in-Ok-see
returns-in-Ok-see g c = record {
  good = c.in-Ok.ensures.good;
  empty = c.in-Ok.ensures.empty;
  beginning = c.in-Ok.ensures.beginning;
  out = out_anyhow g.C.Cpu.meaning g.C.Cpu.state _ _ c.in-Ok.ensures.ended;
  went = tt;
  shown = shown_kept _ _ c.history.result.now c.in-Ok.world.store.history.entries c.in-Ok-see.seen c.in-Ok-see.seen (sym c.history.ensures) refl c.in-Ok-see.ensures.shown;
}
