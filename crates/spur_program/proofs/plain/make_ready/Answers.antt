use Rattle.std.proofs.Common.{refl}
use Rattle.spur_program.proofs.PlainFacts.{bare_begins, states_are}
use Rattle.spur_program.proofs.TraceFacts.{few_boards}
use Rattle.spur_program.proofs.plain.make_ready.Goals as goal

pub head_of-head-requires : goal.head_of-head-requires
head_of-head-requires c = few_boards c.args.opening c.requires

pub returns : goal.returns
returns c = record {
  head = c.head_of-head.ensures;
  bare = refl;
  begins = bare_begins c.args.opening c.new.result c.in_ok-cpus.cpus.items c.requires c.in_ok-cpus.ensures;
  states = states_are c.args.opening.code c.args.opening.options.budget c.in_ok-cpus.cpus.items c.in_ok-cpus.ensures;
}
