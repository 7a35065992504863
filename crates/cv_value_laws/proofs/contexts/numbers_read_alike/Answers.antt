use Rattle.cv_value_laws.proofs.Numbers as numbers
use Rattle.cv_value_laws.proofs.contexts.numbers_read_alike.Goals as goal

pub returns : goal.returns
returns c = numbers.numbers_read_alike
