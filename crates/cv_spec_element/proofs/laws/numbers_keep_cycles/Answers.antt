use Rattle.cv_spec_element.proofs.Numbered.{number_cyclic, cyclic_number}
use Rattle.cv_spec_element.proofs.laws.numbers_keep_cycles.Goals as goal

pub returns-clause-same : goal.returns-clause-same
returns-clause-same g c = λ e name rows named numbering i below. number_cyclic e name rows numbering named i below

pub returns-clause-numbered : goal.returns-clause-numbered
returns-clause-numbered g c = λ e name rows numbering p loop. cyclic_number e name rows numbering p loop
