use Rattle.cv_om_laws.proofs.Summed as summed
use Rattle.cv_om_laws.proofs.laws.sums_are_kept.Goals as goal

pub returns : goal.returns
returns c = summed.sums_are_kept
