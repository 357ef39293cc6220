use Rattle.spur_program.proofs.SeenFacts.{shown_from_none}
use Rattle.spur_program.proofs.run.run_world.Goals as goal

pub returns-in-Ok : goal.returns-in-Ok
returns-in-Ok g c = record {
  good = c.follow.ensures.good;
  empty = c.in-Ok.ensures.empty;
  beginning = c.follow.ensures.beginning;
  out = c.in-Ok.ensures.ended;
  went = c.in-Ok.ensures.order;
  shown = shown_from_none _ _ _ _ _ _ c.requires.fresh c.in-Ok.ensures.shown;
}
