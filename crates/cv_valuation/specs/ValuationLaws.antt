-- What it is to give a key an outcome.
use Rattle.std.specs.Prelude.{◌≡◌, ◌≢◌}
use Rattle.std.specs.FinMap as map
use Rattle.cv_valuation.specs.declared.key.Key.{Key}
use Rattle.cv_valuation.specs.declared.outcome.Outcome.{Outcome}
use Rattle.cv_valuation.specs.declared.outcome.Outcome.TheVariants.{Invalid}
use Rattle.cv_valuation.specs.Valuations.{Values, outcome_at, with_outcome}

-- The outcome of one key changes, and values with the same outcomes are the same.
pub record OutcomesAreByKey : Type 0 where
  pub none : (key : Key) → outcome_at map.empty key ≡ Invalid
  pub here : (values : Values) (key : Key) (outcome : Outcome) → outcome_at (with_outcome values key outcome) key ≡ outcome
  pub elsewhere : (values : Values) (key : Key) (outcome : Outcome) (other : Key) → other ≢ key → outcome_at (with_outcome values key outcome) other ≡ outcome_at values other
  pub same : (values others : Values) → ((key : Key) → outcome_at values key ≡ outcome_at others key) → values ≡ others
