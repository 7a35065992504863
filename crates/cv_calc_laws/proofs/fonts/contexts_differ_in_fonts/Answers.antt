use Rattle.cv_calc_laws.proofs.Contexts.{simplifies_alike}
use Rattle.cv_calc_laws.proofs.fonts.contexts_differ_in_fonts.Goals as goal

pub returns : goal.returns
returns c = simplifies_alike
