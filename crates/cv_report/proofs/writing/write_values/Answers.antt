use Rattle.cv_report.specs.Report.{outcome_line}
use Rattle.cv_report.proofs.Took.{TookText-behind}
use Rattle.cv_report.proofs.writing.write_values.Goals as goal

pub returns-clause-taken : goal.returns-clause-taken
returns-clause-taken g c =
    TookText-behind (g.O.Sink.taken c.args.out.now) (g.O.Sink.taken c.write_outcome.new.out) (g.O.Sink.taken c.write_cause.new.out) (outcome_line c.args.element c.args.key.now c.args.computed.now) _ c.write_cause.result
    c.in-Ok.ensures.taken.whole c.write_cause.ensures.taken
