use Rattle.cv_gen.proofs.Small.{small_sums}
use Rattle.cv_gen.proofs.laws.small_sums_are_within.Goals as goal

pub returns : goal.returns
returns c = small_sums
