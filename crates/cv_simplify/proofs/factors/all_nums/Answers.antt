use Rattle.std.proofs.Common.{◌∙◌, sym, ap}
use Rattle.cv_calc.specs.declared.calc.Calc.TheViews.{out-Calc}
use Rattle.cv_simplify.specs.Checked.{is_num}
use Rattle.cv_simplify.proofs.Rows.{nums_end}
use Rattle.cv_simplify.proofs.factors.all_nums.Goals as goal

pub returns-then-not-is_num : goal.returns-then-not-is_num
returns-then-not-is_num c =
    sym (nums_end c.args.terms.now c.loop-term.term-index c.term-item.result c.loop-term-test.true
    (ap (λ d. is_num (out-Calc d)) (sym c.term-item.is) ∙ sym c.is_num.ensures ∙ c.if-not-is_num.true))
