use Rattle.cv_tree.proofs.Next.{stepped}
use Rattle.cv_tree.proofs.tree.ComputingStep.step.Goals as goal

pub returns-in-Ok : goal.returns-in-Ok
returns-in-Ok c = stepped c.args.self.now c.keep.new.self c.args.index c.args.parent c.in-Ok.computed c.keep.result c.in-Ok.ensures.computed c.keep.ensures.ok c.keep.ensures.err
