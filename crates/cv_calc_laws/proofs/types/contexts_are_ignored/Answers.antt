use Rattle.cv_calc_laws.proofs.NoLengths as lengths
use Rattle.cv_calc_laws.proofs.types.contexts_are_ignored.Goals as goal

pub returns : goal.returns
returns c = lengths.contexts_are_ignored
