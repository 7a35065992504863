-- The values that a property may take in place of a declared one, and an element as the contracts cite it.
use Rattle.std.specs.Prelude.{Option, Some, None, if◌then◌else◌}
use Rattle.cv_spec_ratio.specs.Ratio.{Ratio}
use Rattle.cv_spec_text.specs.declared.token.Token.{Token}
use Rattle.cv_calc.specs.declared.unit.Unit.{Unit as Measure}
use Rattle.cv_value.specs.declared.typed.Typed.{Typed}
use Rattle.cv_spec_element.specs.Element.{Element}
use Rattle.cv_spec_element.specs.Keywords.{unset, by_keyword}
use Rattle.cv_valuation.specs.declared.key.Key.{Key}
use Rattle.cv_valuation.specs.declared.outcome.Outcome.{Outcome}
use Rattle.cv_valuation.specs.declared.outcome.Outcome.TheVariants.{Invalid}
use Rattle.cv_valuation.specs.Valuations.{Values, outcome_at}
use Rattle.cv_props.specs.Registered.{Registered}
use Rattle.cv_spec_valuation.specs.Registered.{is_loose, inherits, initial_at}

abbrev pub AnElement : Type 0
AnElement = Element Key Token Typed Measure Ratio

-- the parent's outcome; none on the root
abbrev pub held_by : Option Values → Key → Option Outcome
held_by None key = None
held_by (Some values) key = Some (outcome_at values key)

-- what the property has where it isn't declared (Cascade 4, "Defaulting")
abbrev pub start_at : Registered → Option Values → Key → Outcome
start_at registered parent key = by_keyword (initial_at registered key) (held_by parent key) (inherits registered key) unset

-- what a property has where it is invalid (Cascading Variables 1, "Invalid Variables"; Properties and Values API 1, "Calculation of
-- Computed Values")
abbrev pub invalid_at : Registered → Option Values → Key → Outcome
invalid_at registered parent key = if is_loose registered key then Invalid else start_at registered parent key
