use Rattle.std.proofs.Common.{arith}
use Rattle.cv_valuation.proofs.RowTest.{number_below}
use Rattle.cv_valuation.proofs.valuation.place_of.Goals as goal

pub returns-else-number-lt-INHERITED-clause-within : goal.returns-else-number-lt-INHERITED-clause-within
returns-else-number-lt-INHERITED-clause-within c = omega (arith, c.number-number.ensures, number_below c.args.property)
