use Rattle.std.proofs.Common.{◌≡◌, ◌++◌, drop}
use Rattle.cv_calcread.specs.Answer.{divisor_places}
use Rattle.cv_calcread.proofs.places.divisor_places.Given as goal

abbrev pub invariant-loop-i : goal.invariant-loop-i
invariant-loop-i l = l.places.items ++ divisor_places l.i (drop l.i l.tokens) ≡ divisor_places 0 l.tokens
