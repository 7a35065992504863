use Rattle.std.proofs.Common.{◌≡◌}
use Rattle.cv_valuation.specs.declared.key.Key.{Key}
use Rattle.cv_valuation.specs.Valuations.{outcome_at}
use Rattle.cv_valuation.proofs.Begun.{begun}
use Rattle.cv_valuation.proofs.valuation.Valuation.initial.Given as goal

abbrev pub invariant-loop-number : goal.invariant-loop-number
invariant-loop-number l = (key : Key) → outcome_at l.values key ≡ begun l.number key
