use Rattle.cv_text_laws.proofs.Numbers.{numbers_are_longest, no_number_is_missed}
use Rattle.cv_text_laws.proofs.longest.numbers_are_longest.Goals as goal

pub returns-clause-longest : goal.returns-clause-longest
returns-clause-longest c = numbers_are_longest

pub returns-clause-none : goal.returns-clause-none
returns-clause-none c = no_number_is_missed
