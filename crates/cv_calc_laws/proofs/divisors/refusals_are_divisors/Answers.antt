use Rattle.cv_calc_laws.proofs.RefusedDivisors as refused
use Rattle.cv_calc_laws.proofs.divisors.refusals_are_divisors.Goals as goal

pub returns : goal.returns
returns c = refused.refusals_are_divisors
