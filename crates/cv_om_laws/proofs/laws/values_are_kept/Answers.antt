use Rattle.cv_om_laws.proofs.Valued as valued
use Rattle.cv_om_laws.proofs.laws.values_are_kept.Goals as goal

pub returns : goal.returns
returns c = valued.values_are_kept
