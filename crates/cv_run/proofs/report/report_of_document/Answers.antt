use Rattle.std.proofs.Common.{◌≡◌, ℕ, ap, ◌∙◌, sym, subst, length}
use Rattle.std.specs.Prelude.{IfErr}
use Rattle.cv_doc.specs.Reading.{shape_of}
use Rattle.cv_words.specs.declared.words.Job.TheVariants.{Compute}
use Rattle.cv_tree.specs.Names.{counted}
use Rattle.cv_run.specs.Fates.{Fate}
use Rattle.cv_run.specs.Telling.{IsRefusal}
use Rattle.cv_run.proofs.Given.{few_names}
use Rattle.cv_run.proofs.report.report_of_document.Goals as goal

pub returns-clause-refused : goal.returns-clause-refused
returns-clause-refused c =
    let document = shape_of c.args.document.now in
    let same : c.len.result ≡ counted document = c.len.ensures.len ∙ ap length c.in_ok-names.ensures in
    subst (λ (f : Fate). IfErr c.report_of_contents.result (IsRefusal Compute c.args.limit f)) (sym (few_names document c.len.result same c.if-len-gt-MOST_NAMES.false)) c.report_of_contents.ensures.refused
