use Rattle.cv_props.proofs.Keeping as keeping
use Rattle.cv_props.proofs.laws.winners_are_by_key.Goals as goal

pub returns : goal.returns
returns c = keeping.winners_are_by_key
