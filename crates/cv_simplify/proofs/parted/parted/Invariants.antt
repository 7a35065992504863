use Rattle.std.proofs.Common.{◌≡◌, ◌++◌, ◌-◌, ◌≤◌, length, reverse}
use Rattle.cv_simplify.specs.Normal.{numbers_among, others_among}
use Rattle.cv_simplify.proofs.parted.parted.Given as goal

-- what stands already, and what the rest gives, is the whole
abbrev pub invariant-loop-term : goal.invariant-loop-term
invariant-loop-term l =
    (length l.rest ≤ l.count)
    × (l.normal.terms ++ numbers_among (reverse l.rest) ≡ numbers_among l.fn.terms)
    × (l.normal.others ++ others_among (l.count - length l.rest) (reverse l.rest) ≡ others_among 0 l.fn.terms)

abbrev pub decreases-loop-term : goal.decreases-loop-term
decreases-loop-term l = length l.rest
