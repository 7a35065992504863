use Rattle.cv_calc.proofs.Told as told
use Rattle.cv_calc.proofs.laws.figures_are_values.Goals as goal

pub returns : goal.returns
returns c = told.figures_are_values
