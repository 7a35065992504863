use Rattle.cv_calc_laws.proofs.AnsweredNumbers.{answers_have_values, answers_are_numbers}
use Rattle.cv_calc_laws.proofs.single.answers_are_numbers.Goals as goal

pub returns-clause-value : goal.returns-clause-value
returns-clause-value c = answers_have_values

pub returns-clause-number : goal.returns-clause-number
returns-clause-number c = answers_are_numbers
