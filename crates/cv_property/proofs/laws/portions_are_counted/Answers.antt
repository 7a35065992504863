use Rattle.cv_property.proofs.Portions as portions
use Rattle.cv_property.proofs.laws.portions_are_counted.Goals as goal

pub returns : goal.returns
returns c = portions.portions_are_counted
