use Rattle.std.proofs.Common.{arith}
use Rattle.spur_report.proofs.CountFacts.{counts_next, few_so_far}
use Rattle.spur_report.proofs.tally.counts.Goals as goal

pub overflow_add-numbers : goal.overflow_add-numbers
overflow_add-numbers c =
    let few = few_so_far c.args.entries.now c.loop-entry.entry-index c.row_of-row.result c.loop-entry.numbers c.loop-entry.invariant c.row_of-row.ensures.within c.loop-entry-test.true in
    omega (arith, few, c.loop-entry-test.true, c.well_formed)

pub loop-entry-preserved : goal.loop-entry-preserved
loop-entry-preserved c = counts_next c.args.entries.now c.loop-entry.entry-index c.entry-item.result c.row_of-row.result c.loop-entry.numbers c.loop-entry.invariant c.loop-entry-test.true c.entry-item.is c.row_of-row.ensures.place
