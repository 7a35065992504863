use Rattle.cv_update.proofs.Next.{stepped_is}
use Rattle.cv_update.proofs.renewing.RenewingStep.step.Goals as goal

pub returns-in-Ok : goal.returns-in-Ok
returns-in-Ok c = stepped_is c.args.self.now c.keep.new.self c.args.index c.args.parent c.in-Ok.computed c.keep.result c.in-Ok.ensures.computed c.keep.ensures.ok c.keep.ensures.err
