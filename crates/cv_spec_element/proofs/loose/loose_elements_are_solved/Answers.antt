use Rattle.cv_spec_element.proofs.OneValuation.{one_valuation, settled_solves}
use Rattle.cv_spec_element.proofs.Causes.{cause_one, invalid_declared, one_cause_or_none}
use Rattle.cv_spec_element.proofs.Numbered.{number_cyclic}
use Rattle.cv_spec_element.proofs.loose.loose_elements_are_solved.Goals as goal

pub returns-clause-exactly_one : goal.returns-clause-exactly_one
returns-clause-exactly_one g c = λ e laws. one_valuation e laws

pub returns-clause-settled : goal.returns-clause-settled
returns-clause-settled g c = λ e laws values settled. settled_solves e laws values settled

pub returns-clause-one_cause : goal.returns-clause-one_cause
returns-clause-one_cause g c = λ e values p one other first second. cause_one e values p one other first second

pub returns-clause-one_or_none : goal.returns-clause-one_or_none
returns-clause-one_or_none g c = λ e values solves p. one_cause_or_none e values p (values p) (solves p)

pub returns-clause-declared : goal.returns-clause-declared
returns-clause-declared g c = λ e values p cause invalid. invalid_declared e values p cause invalid

pub returns-clause-cycles : goal.returns-clause-cycles
returns-clause-cycles g c = λ e name rows laws numbering i below. number_cyclic e name rows numbering laws.named i below
