use Rattle.std.proofs.Common.{◌∙◌, ap, sym}
use Rattle.cv_report.specs.Report.{cause_of}
use Rattle.cv_report.proofs.Finding.{cause_of-lookup}
use Rattle.cv_report.proofs.causes.Causes.get.Goals as goal

pub returns : goal.returns
returns c =
    c.get.ensures.value ∙ sym (cause_of-lookup c.args.key.now c.self.inside.first.entries) ∙ ap (cause_of c.args.key.now) c.self.view_is
