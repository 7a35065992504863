use Rattle.cv_simplify.proofs.UnitOrder as order
use Rattle.cv_simplify.proofs.laws.ranks_are_byte_order.Goals as goal

pub returns : goal.returns
returns c = order.ranks_are_byte_order
