use Rattle.cv_valuation.proofs.Outcomes as outcomes
use Rattle.cv_valuation.proofs.laws.outcomes_are_by_key.Goals as goal

pub returns : goal.returns
returns c = outcomes.outcomes_are_by_key
