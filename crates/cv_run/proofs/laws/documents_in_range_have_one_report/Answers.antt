use Rattle.cv_run.proofs.Reporting.{one_report}
use Rattle.cv_run.proofs.laws.documents_in_range_have_one_report.Goals as goal

pub returns : goal.returns
returns c = λ job document limit sound texts in_range.
    one_report job document limit (c.documents_in_range_have_one_result.ensures document limit sound texts in_range) (c.documents_have_one_report.ensures job document limit)
