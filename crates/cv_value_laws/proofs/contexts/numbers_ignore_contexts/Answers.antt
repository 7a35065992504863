use Rattle.cv_value_laws.proofs.OtherNumbers as numbers
use Rattle.cv_value_laws.proofs.contexts.numbers_ignore_contexts.Goals as goal

pub returns : goal.returns
returns c = numbers.numbers_ignore_contexts
