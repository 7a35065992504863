use Rattle.std.specs.Prelude.{fold}
use Rattle.std.proofs.Common.{◌≡◌, reverse, length}
use Rattle.cv_simplify.specs.Checked.{with_factor}
use Rattle.cv_simplify.proofs.factors.with_factors.Given as goal

abbrev pub invariant-loop-factor : goal.invariant-loop-factor
invariant-loop-factor l = fold with_factor l.factors (reverse l.rest) ≡ fold with_factor l.initial.factors (reverse l.initial.rest)

abbrev pub decreases-loop-factor : goal.decreases-loop-factor
decreases-loop-factor l = length l.rest
