use Rattle.cv_calc_roundtrip.proofs.Calculations as calculations
use Rattle.cv_calc_roundtrip.proofs.laws.calculations_read_back.Goals as goal

pub returns : goal.returns
returns c = calculations.calculations_read_back
