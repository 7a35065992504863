use Rattle.cv_calc_laws.proofs.ReadUnits as units
use Rattle.cv_calc_laws.proofs.fonts.units_are_read.Goals as goal

pub returns : goal.returns
returns c = units.units_are_read
