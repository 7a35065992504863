use Rattle.cv_value.proofs.Alike.{alike}
use Rattle.cv_value.proofs.laws.mismatch_is_alike.Goals as goal

pub returns : goal.returns
returns c = alike c.mismatch_is_alike.ensures c.mismatch_is_alike-2.ensures
