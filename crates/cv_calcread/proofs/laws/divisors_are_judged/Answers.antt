use Rattle.cv_calcread.proofs.Judged as judged
use Rattle.cv_calcread.proofs.laws.divisors_are_judged.Goals as goal

pub returns : goal.returns
returns c = judged.divisors_are_judged
