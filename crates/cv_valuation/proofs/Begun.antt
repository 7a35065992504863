-- Outcomes once the properties below a number have their initial values.
use Rattle.std.proofs.Common.{ℕ, nat_lt}
use Rattle.std.specs.Prelude.{if◌then◌else◌}
use Rattle.cv_property.specs.Table.{initial_of, number_of}
use Rattle.cv_valuation.specs.declared.key.Key.{Key}
use Rattle.cv_valuation.specs.declared.key.Key.TheVariants.{Custom, Table}
use Rattle.cv_valuation.specs.declared.outcome.Outcome.{Outcome}
use Rattle.cv_valuation.specs.declared.outcome.Outcome.TheVariants.{Value, Invalid}

abbrev pub begun : ℕ → Key → Outcome
begun number (Custom name) = Invalid
begun number (Table p) = if nat_lt (number_of p) number then Value (initial_of p) else Invalid
