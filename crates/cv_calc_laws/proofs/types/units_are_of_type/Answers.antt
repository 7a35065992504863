use Rattle.cv_calc_laws.proofs.HeldUnits as held
use Rattle.cv_calc_laws.proofs.types.units_are_of_type.Goals as goal

pub returns : goal.returns
returns c = held.units_are_of_type
