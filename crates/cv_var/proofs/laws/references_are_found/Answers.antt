use Rattle.cv_var.proofs.Mentions.{references_found}
use Rattle.cv_var.proofs.laws.references_are_found.Goals as goal

pub returns : goal.returns
returns c = references_found c.blocks_are_balanced.ensures
