use Rattle.cv_value_roundtrip.proofs.Typed as typed
use Rattle.cv_value_roundtrip.proofs.laws.typed_values_read_back.Goals as goal

pub returns : goal.returns
returns c = typed.typed_values_read_back
