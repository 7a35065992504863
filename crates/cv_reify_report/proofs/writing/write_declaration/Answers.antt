use Rattle.std.proofs.Common.{ap, sym, subst, List, ℕ}
use Rattle.cv_report.specs.Written.{TookText}
use Rattle.cv_reify_report.specs.Report.{object_lines}
use Rattle.cv_reify_report.proofs.writing.write_declaration.Goals as goal

pub returns-in-Ok-clause-taken : goal.returns-in-Ok-clause-taken
returns-in-Ok-clause-taken g c =
    subst (λ (l : List ℕ). TookText (g.O.Sink.taken c.args.out.now) (g.O.Sink.taken c.write_style.new.out) l c.write_style.result)
    (ap (object_lines c.args.element c.args.key.now) (sym c.in-Ok.ensures.ok)) c.write_style.ensures.taken
