use Rattle.spur_pager.proofs.OpeningFacts.{layout-stands, opening-stands}
use Rattle.spur_pager.proofs.turn_laws.opening_stands.Goals as goal

pub returns-clause-layout : goal.returns-clause-layout
returns-clause-layout c = layout-stands

pub returns-clause-opening : goal.returns-clause-opening
returns-clause-opening c = opening-stands
