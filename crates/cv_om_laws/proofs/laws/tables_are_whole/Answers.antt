use Rattle.cv_om_laws.proofs.Wholes as wholes
use Rattle.cv_om_laws.proofs.laws.tables_are_whole.Goals as goal

pub returns : goal.returns
returns c = wholes.tables_are_whole
