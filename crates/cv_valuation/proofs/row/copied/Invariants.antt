use Rattle.std.proofs.Common.{◌≡◌, take}
use Rattle.cv_valuation.proofs.row.copied.Given as goal

abbrev pub invariant-loop-outcome : goal.invariant-loop-outcome
invariant-loop-outcome l = l.all.items ≡ take l.outcome-index l.row
