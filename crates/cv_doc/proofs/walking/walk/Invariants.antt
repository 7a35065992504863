-- The walk is under way.
use Rattle.std.proofs.Common.{length}
use Rattle.cv_doc.proofs.UnderWay.{IsUnderWay}
use Rattle.cv_doc.proofs.walking.walk.Given as goal

abbrev pub invariant-loop-element : goal.invariant-loop-element
invariant-loop-element g l = IsUnderWay g.S.Step.ready g.S.Step.gives l.elements.items l.fn.step l.index l.rest l.step

abbrev pub decreases-loop-element : goal.decreases-loop-element
decreases-loop-element g l = length l.rest
