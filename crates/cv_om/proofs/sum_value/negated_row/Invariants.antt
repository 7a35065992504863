use Rattle.std.specs.Prelude.{map}
use Rattle.std.proofs.Common.{◌≡◌, take}
use Rattle.cv_om.specs.SumValue.{negated_item}
use Rattle.cv_om.proofs.sum_value.negated_row.Given as goal

abbrev pub invariant-loop-item : goal.invariant-loop-item
invariant-loop-item l = l.negative ≡ map negated_item (take l.item-index l.row)
