use Rattle.cv_om_laws.proofs.Converted as converted
use Rattle.cv_om_laws.proofs.laws.conversions_are_kept.Goals as goal

pub returns : goal.returns
returns c = converted.conversions_are_kept
