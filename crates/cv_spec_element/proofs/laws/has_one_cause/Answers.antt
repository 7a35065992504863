use Rattle.cv_spec_element.proofs.Causes.{cause_one, invalid_declared, one_cause_or_none, invalid_has}
use Rattle.cv_spec_element.proofs.laws.has_one_cause.Goals as goal

pub returns-clause-one_cause : goal.returns-clause-one_cause
returns-clause-one_cause g c = λ e values p one other first second. cause_one e values p one other first second

pub returns-clause-declared : goal.returns-clause-declared
returns-clause-declared g c = λ e values p cause invalid. invalid_declared e values p cause invalid

pub returns-clause-one_or_none : goal.returns-clause-one_or_none
returns-clause-one_or_none g c = λ e values solves p. one_cause_or_none e values p (values p) (solves p)

pub returns-clause-value : goal.returns-clause-value
returns-clause-value g c = λ e values solves p cause invalid. invalid_has e values p (values p) (solves p) cause invalid
