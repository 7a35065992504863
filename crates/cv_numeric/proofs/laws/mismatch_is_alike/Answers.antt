use Rattle.cv_numeric.proofs.Alike.{alike}
use Rattle.cv_numeric.proofs.laws.mismatch_is_alike.Goals as goal

pub returns : goal.returns
returns c = alike
