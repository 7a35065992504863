use Rattle.cv_spec_element.proofs.OneValuation.{one_valuation, one_value, same_causes, same_ranges}
use Rattle.cv_spec_element.proofs.laws.has_one_valuation.Goals as goal

pub returns-clause-exactly_one : goal.returns-clause-exactly_one
returns-clause-exactly_one g c = λ e laws. one_valuation e laws

pub returns-clause-one_value : goal.returns-clause-one_value
returns-clause-one_value g c = λ e laws values p one other first second. one_value e laws values p one other first second

pub returns-clause-same_causes : goal.returns-clause-same_causes
returns-clause-same_causes g c = λ e laws values others first second p cause. same_causes e laws values others first second p cause

pub returns-clause-same_ranges : goal.returns-clause-same_ranges
returns-clause-same_ranges g c = λ e laws values others first second p. same_ranges e laws values others first second p
