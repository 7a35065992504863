use Rattle.cv_om_roundtrip.proofs.Back.{printed_values_are_read}
use Rattle.cv_om_roundtrip.proofs.bounds.value_is_read.Goals as goal

pub returns : goal.returns
returns c = printed_values_are_read c.args.value.now c.tree-tree.ensures.has_type c.numbers_are_in_bounds.ensures
