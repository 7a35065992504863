use Rattle.cv_value_roundtrip.proofs.Numbers as numbers
use Rattle.cv_value_roundtrip.proofs.laws.numbers_are_read.Goals as goal

pub returns : goal.returns
returns c = numbers.numbers_are_read
