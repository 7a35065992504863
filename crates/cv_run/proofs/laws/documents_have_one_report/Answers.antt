use Rattle.cv_run.proofs.Reporting.{only_report}
use Rattle.cv_run.proofs.laws.documents_have_one_report.Goals as goal

pub returns : goal.returns
returns c = λ job document limit single text is. only_report c.properties_are_found.ensures document limit single job text is
