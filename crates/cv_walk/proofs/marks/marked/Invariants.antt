-- So many elements behind the first are looked at.
use Rattle.std.proofs.Common.{length}
use Rattle.cv_walk.proofs.Marking.{IsMarking}
use Rattle.cv_walk.proofs.marks.marked.Given as goal

abbrev pub invariant-loop-element : goal.invariant-loop-element
invariant-loop-element l = IsMarking l.start l.elements l.marks.items l.place l.rest

abbrev pub decreases-loop-element : goal.decreases-loop-element
decreases-loop-element l = length l.rest
