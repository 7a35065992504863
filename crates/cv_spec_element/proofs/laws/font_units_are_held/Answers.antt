use Rattle.cv_spec_element.proofs.OneValuation.{units_held}
use Rattle.cv_spec_element.proofs.laws.font_units_are_held.Goals as goal

pub returns : goal.returns
returns g c = λ e laws values solves p list u sub_is font has. units_held e laws values solves p list u sub_is font has
