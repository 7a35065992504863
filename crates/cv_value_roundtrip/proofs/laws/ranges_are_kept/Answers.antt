use Rattle.cv_value_roundtrip.proofs.Sized as sized
use Rattle.cv_value_roundtrip.proofs.laws.ranges_are_kept.Goals as goal

pub returns : goal.returns
returns c = sized.ranges_are_kept
