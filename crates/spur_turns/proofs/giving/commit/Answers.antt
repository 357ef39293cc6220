use Rattle.std.proofs.Common.{arith}
use Rattle.spur_turns.proofs.HandFacts.{commits_ready, committed_ready}
use Rattle.spur_turns.proofs.giving.commit.Goals as goal

pub fetch_add-requires : goal.fetch_add-requires
fetch_add-requires g c = let wide = c.requires.words in let many = c.requires.ready.many in
    (c.requires.of_table, omega (arith, wide, many), commits_ready g.P.Pact.good g.P.Pact.name _ _ _ _ c.requires.ready)

pub returns-clause-ready : goal.returns-clause-ready
returns-clause-ready g c = committed_ready g.P.Pact.good g.P.Pact.name _ _ _ _ _ c.requires.ready c.fetch_add.ensures.2
