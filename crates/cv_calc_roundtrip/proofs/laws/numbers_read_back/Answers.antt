use Rattle.cv_calc_roundtrip.proofs.Numbers as numbers
use Rattle.cv_calc_roundtrip.proofs.laws.numbers_read_back.Goals as goal

pub returns : goal.returns
returns c = numbers.numbers_read_back
