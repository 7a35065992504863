use Rattle.cv_spec_element.proofs.SmallElement.{small_lawful, small_edge}
use Rattle.cv_spec_element.proofs.small.small_element_is_lawful.Goals as goal

pub returns-clause-lawful : goal.returns-clause-lawful
returns-clause-lawful c = small_lawful

pub returns-clause-edge : goal.returns-clause-edge
returns-clause-edge c = small_edge
