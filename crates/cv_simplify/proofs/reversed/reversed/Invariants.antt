use Rattle.std.proofs.Common.{◌≡◌, ◌++◌, reverse, length}
use Rattle.cv_simplify.proofs.reversed.reversed.Given as goal

abbrev pub invariant-loop-child : goal.invariant-loop-child
invariant-loop-child l = l.reversed ++ reverse l.children ≡ reverse l.initial.children

abbrev pub decreases-loop-child : goal.decreases-loop-child
decreases-loop-child l = length l.children
