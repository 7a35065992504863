use Rattle.cv_spec_element.proofs.OneValuation.{kept_causes, kept_ranges}
use Rattle.cv_spec_element.proofs.laws.causes_are_kept.Goals as goal

pub returns-clause-causes : goal.returns-clause-causes
returns-clause-causes g c = λ e laws values solves earlier p kept cause. kept_causes e laws values solves earlier p kept cause

pub returns-clause-ranges : goal.returns-clause-ranges
returns-clause-ranges g c = λ e laws values solves earlier p kept. kept_ranges e laws values solves earlier p kept
