use Rattle.spur_core.proofs.LoadedFacts as loaded
use Rattle.spur_core.proofs.begin_laws.loaded_may_begin.Goals as goal

pub returns : goal.returns
returns c = loaded.loaded_may_begin
