use Rattle.std.proofs.Common.{◌≡◌, drop}
use Rattle.cv_calcread.specs.Answer.{wide_place}
use Rattle.cv_calcread.proofs.places.wide_place.Given as goal

abbrev pub invariant-loop-i : goal.invariant-loop-i
invariant-loop-i l = wide_place l.i (drop l.i l.tokens) ≡ wide_place 0 l.tokens
