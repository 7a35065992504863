use Rattle.cv_om_laws.proofs.Kept as kept
use Rattle.cv_om_laws.proofs.laws.sum_values_are_kept.Goals as goal

pub returns : goal.returns
returns c = kept.sum_values_are_kept
