use Rattle.std.proofs.Common.{◌∙◌, ap}
use Rattle.cv_calcread.specs.Figures.{Evaluated, evaluated, with_marks, divided}
use Rattle.cv_calcread.proofs.Marks.{marks-Invert}
use Rattle.cv_calcread.proofs.divisors.+marks.Goals as goal

pub add_marks-returns-in_ok-add_divisor-in-Invert : goal.add_marks-returns-in_ok-add_divisor-in-Invert
add_marks-returns-in_ok-add_divisor-in-Invert t c =
    c.in_ok-add_divisor-in-Invert.ensures
    ∙ ap (λ (e : Evaluated). with_marks c.args.marks.now.items (divided e)) c.in_ok-evaluate-in-Invert.ensures
    ∙ ap (λ d. with_marks c.args.marks.now.items (divided (evaluated d))) c.get-in-Invert.ensures
    ∙ rw c.in-Invert.is (marks-Invert c.in-Invert.child c.args.marks.now.items)
