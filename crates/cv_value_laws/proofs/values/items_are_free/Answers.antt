use Rattle.cv_value_laws.proofs.NoKeywords as keywords
use Rattle.cv_value_laws.proofs.values.items_are_free.Goals as goal

pub returns : goal.returns
returns c = keywords.items_are_free
