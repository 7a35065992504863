use Rattle.cv_om_roundtrip.proofs.Back as back
use Rattle.cv_om_roundtrip.proofs.laws.printed_values_are_read.Goals as goal

pub returns : goal.returns
returns c = back.printed_values_are_read
