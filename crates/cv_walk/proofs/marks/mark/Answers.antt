use Rattle.std.proofs.Common.{arith, ◌∙◌}
use Rattle.cv_walk.proofs.Marking.{filled_next}
use Rattle.cv_walk.proofs.marks.mark.Goals as goal

pub loop-marks-preserved : goal.loop-marks-preserved
loop-marks-preserved c =
    let next = filled_next c.loop-marks.marks.items c.push.new.self.items c.args.place (omega (arith, c.loop-marks-test.true, c.len.ensures)) c.in_ok-push.ensures.items in
    (next.0, next.1 ∙ c.loop-marks.invariant.1)
