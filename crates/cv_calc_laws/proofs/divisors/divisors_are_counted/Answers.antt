use Rattle.cv_simplify.proofs.Figured.{inside_range, inside_value, outside_range}
use Rattle.cv_calc_laws.proofs.UnitFigures.{units_have_no_figure}
use Rattle.cv_calc_laws.proofs.divisors.divisors_are_counted.Goals as goal

pub returns-clause-counted : goal.returns-clause-counted
returns-clause-counted c = record { inside_range = inside_range; inside_value = inside_value; outside_range = outside_range }

pub returns-clause-units : goal.returns-clause-units
returns-clause-units c = units_have_no_figure
