use Rattle.cv_words.specs.declared.words.Job.TheVariants.{Reify}
use Rattle.cv_run.specs.Fates.{fate_of}
use Rattle.cv_run.proofs.Given.{objects_stopped}
use Rattle.cv_run.proofs.Reporting.{objects_given}
use Rattle.cv_run.proofs.running.read_objects.Goals as goal

pub returns-in-Ok-clause-tells : goal.returns-in-Ok-clause-tells
returns-in-Ok-clause-tells g c =
    objects_given (g.S.Source.left c.args.src.now) fate_of c.args.limit c.in-Ok.report (λ document. c.documents_have_one_report.ensures Reify document c.args.limit) c.in-Ok.ensures.tells

pub returns-in-Err-clause-refused : goal.returns-in-Err-clause-refused
returns-in-Err-clause-refused g c = objects_stopped c.args.limit fate_of (g.S.Source.left c.args.src.now) _ c.in-Err.status c.in-Err.ensures.refused
