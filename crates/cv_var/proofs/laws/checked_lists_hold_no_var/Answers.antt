use Rattle.cv_var.proofs.NoVar.{checked_hold}
use Rattle.cv_var.proofs.laws.checked_lists_hold_no_var.Goals as goal

pub returns : goal.returns
returns c = checked_hold c.blocks_are_balanced.ensures
