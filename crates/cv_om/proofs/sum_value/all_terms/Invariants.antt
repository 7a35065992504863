use Rattle.std.specs.Prelude.{fold, Ok}
use Rattle.std.proofs.Common.{◌≡◌, drop}
use Rattle.cv_om.specs.SumValue.{with_row, sum_row}
use Rattle.cv_om.proofs.sum_value.all_terms.Given as goal

abbrev pub invariant-loop-row : goal.invariant-loop-row
invariant-loop-row l = fold with_row (Ok l.terms) (drop l.row-index l.rows) ≡ sum_row l.rows
