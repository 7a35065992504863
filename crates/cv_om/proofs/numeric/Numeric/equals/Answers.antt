use Rattle.cv_om.proofs.Sames.{told}
use Rattle.cv_om.proofs.numeric.Numeric.equals.Goals as goal

pub returns : goal.returns
returns c = told c.same.result c.args.self.now c.args.other.now c.tree.result.now c.tree-2.result.now c.same.ensures c.tree.ensures.tree c.tree-2.ensures.tree
