-- What values begin with: initial values, and those that are inherited (Cascading and Inheritance 4, "Defaulting").
use Rattle.std.specs.Prelude.{ℕ, ◌==◌, if◌then◌else◌}
use Rattle.cv_property.specs.Table.{inherits, initial_of, number_of}
use Rattle.cv_valuation.specs.declared.key.Key.{Key}
use Rattle.cv_valuation.specs.declared.key.Key.TheVariants.{Custom, Table}
use Rattle.cv_valuation.specs.declared.outcome.Outcome.{Outcome}
use Rattle.cv_valuation.specs.declared.outcome.Outcome.TheVariants.{Value, Invalid}
use Rattle.cv_valuation.specs.Valuations.{Values, outcome_at}

-- the initial value of each ordinary property, and no value of a custom one
abbrev pub table_initial : Key → Outcome
table_initial (Custom name) = Invalid
table_initial (Table property) = Value (initial_of property)

-- what the parent has for custom properties and for ordinary ones that inherit; for the others what `initial` has
abbrev pub inherited_at : Values → Values → Key → Outcome
inherited_at parent initial (Custom name) = outcome_at parent (Custom name)
inherited_at parent initial (Table property) = if inherits property then outcome_at parent (Table property) else outcome_at initial (Table property)

-- the outcome of a key once the property of this number has its initial value
abbrev pub initial_or : ℕ → Key → Outcome → Outcome
initial_or number (Custom name) outcome = outcome
initial_or number (Table property) outcome = if number_of property == number then Value (initial_of property) else outcome
