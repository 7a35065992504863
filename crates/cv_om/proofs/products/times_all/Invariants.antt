use Rattle.std.specs.Prelude.{fold, Ok}
use Rattle.std.proofs.Common.{◌≡◌, drop}
use Rattle.cv_om.specs.SumValue.{times_row}
use Rattle.cv_om.proofs.products.times_all.Given as goal

abbrev pub invariant-loop-others : goal.invariant-loop-others
invariant-loop-others l = fold times_row (Ok l.row) (drop l.others-index l.rest) ≡ fold times_row (Ok l.fn.first) l.rest
