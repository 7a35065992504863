use Rattle.cv_calc_laws.proofs.LengthNumber.{lengths_simplify_to_value, answers_are_lengths}
use Rattle.cv_calc_laws.proofs.single.lengths_are_numbers.Goals as goal

pub returns-clause-value : goal.returns-clause-value
returns-clause-value c = lengths_simplify_to_value

pub returns-clause-number : goal.returns-clause-number
returns-clause-number c = answers_are_lengths
