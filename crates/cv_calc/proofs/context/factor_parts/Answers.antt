use Rattle.cv_calc.proofs.Factors.{part-min, part-max}
use Rattle.cv_calc.proofs.context.factor_parts.Goals as goal

pub returns-in-Vmin-clause-value : goal.returns-in-Vmin-clause-value
returns-in-Vmin-clause-value c = rw c.in-Vmin.is (part-min _ _ _ _ c.whole-in-Vmin.ensures c.min.ensures)

pub returns-in-Vmax-clause-value : goal.returns-in-Vmax-clause-value
returns-in-Vmax-clause-value c = rw c.in-Vmax.is (part-max _ _ _ _ c.whole-in-Vmax.ensures c.max.ensures)
