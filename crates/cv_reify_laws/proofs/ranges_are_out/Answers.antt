use Rattle.cv_reify_laws.proofs.Kept.{ranges}
use Rattle.cv_reify_laws.proofs.ranges_are_out.Goals as goal

pub returns : goal.returns
returns c = ranges c.mismatch_is_alike.ensures c.matches_are_alike.ensures
