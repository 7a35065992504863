use Rattle.cv_property.proofs.Alike.{alike}
use Rattle.cv_property.proofs.laws.matches_are_alike.Goals as goal

pub returns : goal.returns
returns c = alike c.mismatch_is_alike.ensures c.mismatch_is_alike-2.ensures
