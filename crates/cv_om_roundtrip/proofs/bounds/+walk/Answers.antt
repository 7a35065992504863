use Rattle.cv_om_roundtrip.proofs.InBounds.{next_inside, last_inside}
use Rattle.cv_om_roundtrip.proofs.bounds.+walk.Goals as goal

pub calculations-loop-child-preserved : goal.calculations-loop-child-preserved
calculations-loop-child-preserved t c =
    next_inside c.args.children.now c.loop-child.child-index c.child-item.result c.child-item.result c.loop-child-test.true c.child-item.is c.calculation.ensures c.loop-child.invariant

pub calculations-returns : goal.calculations-returns
calculations-returns t c = last_inside c.args.children.now c.loop-child.child-index c.loop-child-test.false c.loop-child.invariant
