use Rattle.spur_program.proofs.PlainFacts.{reported_if-Ok}
use Rattle.spur_program.proofs.plain.run_plain_on_threads.Goals as goal

pub returns-clause-reported : goal.returns-clause-reported
returns-clause-reported g c =
    reported_if-Ok g.B.Backing.meaning c.args.opening c.in-Ok.ready _ _ (g.B.Backing.meaning c.args.backing) c.in_ok-ran.ran c.report_of.result c.requires c.in-Ok.ensures c.in_ok-ran.ensures.ran c.report_of.ensures.report
