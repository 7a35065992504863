use Rattle.std.proofs.Common.{◌≡◌, drop}
use Rattle.cv_numeric.specs.Numeric.{is_digits}
use Rattle.cv_numeric.proofs.numeric.is_digits.Given as goal

abbrev pub invariant-loop-byte : goal.invariant-loop-byte
invariant-loop-byte l = is_digits (drop l.byte-index l.text) ≡ is_digits l.text
