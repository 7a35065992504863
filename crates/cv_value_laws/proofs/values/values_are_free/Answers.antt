use Rattle.cv_value_laws.proofs.NoKeywords as values
use Rattle.cv_value_laws.proofs.values.values_are_free.Goals as goal

pub returns : goal.returns
returns c = values.values_are_free
