use Rattle.cv_value_laws.proofs.KnownLengths as lengths
use Rattle.cv_value_laws.proofs.sizes.sizes_are_numbers.Goals as goal

pub returns : goal.returns
returns c = lengths.sizes_are_numbers
