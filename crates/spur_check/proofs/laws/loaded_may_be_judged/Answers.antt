use Rattle.spur_check.proofs.Opened.{loaded-may-be-judged}
use Rattle.spur_check.proofs.laws.loaded_may_be_judged.Goals as goal

pub returns : goal.returns
returns c = loaded-may-be-judged
