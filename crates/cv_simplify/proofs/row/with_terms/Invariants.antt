use Rattle.std.proofs.Common.{◌≡◌, reverse, length}
use Rattle.cv_simplify.specs.Checked.{with_terms}
use Rattle.cv_simplify.proofs.row.with_terms.Given as goal

abbrev pub invariant-loop-term : goal.invariant-loop-term
invariant-loop-term l = with_terms l.row (reverse l.rest) ≡ with_terms l.initial.row (reverse l.initial.rest)

abbrev pub decreases-loop-term : goal.decreases-loop-term
decreases-loop-term l = length l.rest
