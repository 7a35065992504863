use Rattle.cv_spec_element.proofs.OneValuation.{settled_solves, settled_causes, settled_ranges}
use Rattle.cv_spec_element.proofs.laws.settled_values_solve.Goals as goal

pub returns-clause-solves : goal.returns-clause-solves
returns-clause-solves g c = λ e laws values settled. settled_solves e laws values settled

pub returns-clause-causes : goal.returns-clause-causes
returns-clause-causes g c = λ e laws values settled p cause. settled_causes e laws values settled p cause

pub returns-clause-ranges : goal.returns-clause-ranges
returns-clause-ranges g c = λ e laws values settled p. settled_ranges e laws values settled p
