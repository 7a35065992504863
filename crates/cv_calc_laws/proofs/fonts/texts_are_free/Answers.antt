use Rattle.cv_calc_laws.proofs.Free as free
use Rattle.cv_calc_laws.proofs.fonts.texts_are_free.Goals as goal

pub returns : goal.returns
returns c = free.texts_are_free
