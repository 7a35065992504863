use Rattle.std.proofs.Common.{◌∙◌, ◌++◌, [], ◌∷◌, take, ap, sym}
use Rattle.std.proofs.lemmas.List.{take_more}
use Rattle.cv_report.specs.Report.{cause_of}
use Rattle.cv_report.proofs.Finding.{cause_of-more}
use Rattle.cv_report.proofs.causes.Causes.of.Goals as goal

pub loop-key-preserved : goal.loop-key-preserved
loop-key-preserved c = λ key.
    let done = take c.loop-key.key-index c.args.faults.now in
    let fault = c.loop-key-item.result in
    c.in_ok-add.ensures key
    ∙ cause_of-more c.loop-key.first.entries done (fault ∷ []) c.loop-key.invariant key
    ∙ ap (cause_of key) (ap (λ f. done ++ f ∷ []) c.loop-key-item.is ∙ sym (take_more c.args.faults.now c.loop-key.key-index fault c.loop-key-test.true))
