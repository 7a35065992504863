use Rattle.cv_numeric.proofs.Signs.{signs}
use Rattle.cv_numeric.proofs.laws.signs_are_told.Goals as goal

pub returns : goal.returns
returns c = signs
