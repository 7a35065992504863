-- What a valuation may keep of the value of an ordinary property.
use Rattle.std.specs.Prelude.{◌≡◌, List}
use Rattle.cv_spec_text.specs.declared.token.Token.{Token}
use Rattle.cv_calc.specs.declared.context.Context.{Context}
use Rattle.cv_numeric.specs.declared.matched.Matched.TheVariants.{Fit}
use Rattle.cv_value.specs.declared.typed.Typed.{Typed}
use Rattle.cv_value.specs.Kept.{MayBeKept}
use Rattle.cv_property.specs.declared.property.Property.{Property}
use Rattle.cv_property.specs.Table.{initial_of}
use Rattle.cv_property.specs.Grammar.{matching_property}
use Rattle.cv_property.specs.Computed.{computed_of}

-- the value of a list, its computed value where the inherited one may be kept, and the initial value
pub record PropertiesMayBeKept : Type 0 where
  pub read : (p : Property) (x : Context) (ts : List Token) (v : Typed) → matching_property p x ts ≡ Fit v → MayBeKept v
  pub computed : (p : Property) (x : Context) (ts : List Token) (inherited v : Typed) → MayBeKept inherited → matching_property p x ts ≡ Fit v → MayBeKept (computed_of p inherited v)
  pub initial : (p : Property) → MayBeKept (initial_of p)
