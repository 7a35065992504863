use Rattle.cv_value_roundtrip.proofs.Items as items
use Rattle.cv_value_roundtrip.proofs.laws.items_read_back.Goals as goal

pub returns : goal.returns
returns c = items.items_read_back
