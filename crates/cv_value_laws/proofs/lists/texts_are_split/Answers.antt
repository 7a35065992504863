use Rattle.cv_value_laws.proofs.ItemEntries as entries
use Rattle.cv_value_laws.proofs.lists.texts_are_split.Goals as goal

pub returns : goal.returns
returns c = entries.texts_are_split
