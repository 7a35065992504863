use Rattle.cv_words.specs.declared.words.Job.TheVariants.{Compute}
use Rattle.cv_run.specs.Fates.{fate_of}
use Rattle.cv_run.proofs.Reporting.{values_given}
use Rattle.cv_run.proofs.running.read_values.Goals as goal

pub returns-in-Ok-clause-tells : goal.returns-in-Ok-clause-tells
returns-in-Ok-clause-tells g c =
    values_given (g.S.Source.left c.args.src.now) fate_of c.args.limit c.in-Ok.report (λ document. c.documents_have_one_report.ensures Compute document c.args.limit) c.in-Ok.ensures.tells
