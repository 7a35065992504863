use Rattle.cv_value_laws.proofs.TakenValues as taken
use Rattle.cv_value_laws.proofs.texts.values_are_taken.Goals as goal

pub returns : goal.returns
returns c = taken.values_are_taken
