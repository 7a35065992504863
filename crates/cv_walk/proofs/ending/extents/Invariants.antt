-- The elements from an index on are looked at.
use Rattle.cv_walk.proofs.Ends.{IsEnding}
use Rattle.cv_walk.proofs.ending.extents.Given as goal

abbrev pub invariant-loop-index : goal.invariant-loop-index
invariant-loop-index l = IsEnding l.elements l.ends.items l.index

abbrev pub decreases-loop-index : goal.decreases-loop-index
decreases-loop-index l = l.index
