use Rattle.std.specs.Prelude.{Ok}
use Rattle.std.proofs.Common.{◌≡◌, drop}
use Rattle.cv_om.specs.SumValue.{with_row}
use Rattle.cv_om.proofs.sum_value.add_row.Given as goal

abbrev pub invariant-loop-item : goal.invariant-loop-item
invariant-loop-item l = with_row (Ok l.terms) (drop l.item-index l.row) ≡ with_row (Ok l.initial.terms) l.row
