use Rattle.std.proofs.Common.{◌≡◌, ℕ, length}
use Rattle.cv_valuation.specs.Rows.{in_row}
use Rattle.cv_valuation.proofs.row.pad.Given as goal

abbrev pub invariant-loop : goal.invariant-loop
invariant-loop l = record {
  same : (place : ℕ) → in_row l.all.items place ≡ in_row l.fn.all.items place;
  counted : length l.all.items ≡ l.counter;
}
