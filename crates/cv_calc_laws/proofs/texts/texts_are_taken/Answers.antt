use Rattle.cv_calc_laws.proofs.Taken as taken
use Rattle.cv_calc_laws.proofs.texts.texts_are_taken.Goals as goal

pub returns : goal.returns
returns c = taken.texts_are_taken
