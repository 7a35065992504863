use Rattle.std.proofs.Common.{ap, ◌∙◌, ◌++◌, List, ℕ}
use Rattle.cv_words.specs.declared.words.Job.TheVariants.{Gen}
use Rattle.cv_gen.specs.Generated.{gen_document}
use Rattle.cv_gen.specs.Summary.{summary_text}
use Rattle.cv_tree.specs.Tree.{values_in}
use Rattle.cv_run.proofs.Reporting.{sums_up}
use Rattle.cv_run.proofs.generated.summary_of.Goals as goal

pub returns-in-Ok-clause-tells : goal.returns-in-Ok-clause-tells
returns-in-Ok-clause-tells c =
    sums_up (gen_document c.args.size) c.args.all.now c.summary.new.out.items c.requires.single (c.documents_have_one_report.ensures Gen (gen_document c.args.size) 16384) c.requires.computed
    (c.in-Ok.ensures.text ∙ ap (λ (l : List ℕ). l ++ summary_text (values_in c.args.all.now)) c.new-text.ensures.items)
