-- The walk is under way.
use Rattle.std.proofs.Common.{length}
use Rattle.cv_walk.proofs.Going.{IsGoing}
use Rattle.cv_walk.proofs.walking.step_marked.Given as goal

abbrev pub invariant-loop-element : goal.invariant-loop-element
invariant-loop-element g l = IsGoing g.S.Step.ready g.S.Step.gives l.start l.elements l.marks l.fn.step l.index l.rest l.left l.step

abbrev pub decreases-loop-element : goal.decreases-loop-element
decreases-loop-element g l = length l.rest
