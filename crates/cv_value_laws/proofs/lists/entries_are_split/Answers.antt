use Rattle.cv_value_laws.proofs.Joined as joined
use Rattle.cv_value_laws.proofs.lists.entries_are_split.Goals as goal

pub returns : goal.returns
returns c = joined.entries_are_split
