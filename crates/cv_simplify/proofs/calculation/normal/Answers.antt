use Rattle.std.specs.Prelude.{List}
use Rattle.std.proofs.Common.{sym, ◌∙◌, ap, subst}
use Rattle.cv_simplify.specs.Simplified.{terms_of}
use Rattle.cv_simplify.specs.Normal.{Measure, numbers_among, EachUnitOnce}
use Rattle.cv_simplify.proofs.NormalTerms.{simplified_once}
use Rattle.cv_simplify.proofs.calculation.normal.Goals as goal

pub returns-in_ok-parted-in-Ok-clause-once : goal.returns-in_ok-parted-in-Ok-clause-once
returns-in_ok-parted-in-Ok-clause-once c =
    subst (λ (ms : List Measure). EachUnitOnce ms)
    (sym (c.in_ok-parted-in-Ok.ensures.terms ∙ ap numbers_among (c.in_ok-terms_alone-in-Ok.ensures ∙ ap (λ s. terms_of s) c.in-Ok.ensures.value)))
    (simplified_once c.args.x.now c.args.c.now)
