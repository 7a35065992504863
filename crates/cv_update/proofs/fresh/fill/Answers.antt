use Rattle.std.proofs.Common.{arith, ◌∙◌}
use Rattle.cv_update.proofs.Putting.{filled_next}
use Rattle.cv_update.proofs.fresh.fill.Goals as goal

pub loop-all-preserved : goal.loop-all-preserved
loop-all-preserved c =
    let next = filled_next c.loop-all.all.items c.push.new.self.items c.args.place (omega (arith, c.loop-all-test.true, c.len.ensures)) c.in_ok-push.ensures.items in
    (next.0, next.1 ∙ c.loop-all.invariant.1)
