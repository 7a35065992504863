use Rattle.cv_calc_laws.proofs.OneNumber.{simplifies_to_value}
use Rattle.cv_calc_laws.proofs.UnitTypes.{types_are_told}
use Rattle.cv_calc_laws.proofs.single.calculations_are_numbers.Goals as goal

pub returns-clause-value : goal.returns-clause-value
returns-clause-value c = simplifies_to_value

pub returns-clause-kinds : goal.returns-clause-kinds
returns-clause-kinds c = types_are_told
