use Rattle.cv_calc_laws.proofs.FontUnits as fonts
use Rattle.cv_calc_laws.proofs.fonts.font_units_are_told.Goals as goal

pub returns : goal.returns
returns c = fonts.font_units_are_told
