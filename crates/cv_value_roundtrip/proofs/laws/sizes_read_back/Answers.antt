use Rattle.cv_value_roundtrip.proofs.Sized as sized
use Rattle.cv_value_roundtrip.proofs.laws.sizes_read_back.Goals as goal

pub returns : goal.returns
returns c = sized.sizes_read_back
