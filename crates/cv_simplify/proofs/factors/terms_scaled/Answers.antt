use Rattle.std.proofs.Common.{◌∙◌, sym, ap}
use Rattle.cv_simplify.specs.Checked.{term_scaled}
use Rattle.cv_simplify.proofs.Rows.{scaled_ends}
use Rattle.cv_simplify.proofs.factors.terms_scaled.Goals as goal

pub returns-in-None : goal.returns-in-None
returns-in-None c =
    sym (scaled_ends c.args.number.now c.args.terms.now c.loop-term.term-index c.term-item.result c.loop-term.row c.loop-term-test.true c.loop-term.invariant
    (ap (term_scaled c.args.number.now) (sym c.term-item.is) ∙ sym c.in_ok-product.ensures ∙ c.in-None.is))
