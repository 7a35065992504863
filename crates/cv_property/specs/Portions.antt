-- The part of 1 that a percentage as an opacity is, is in bounds.
use Rattle.std.specs.Prelude.{◌≡◌, List}
use Rattle.cv_spec_text.specs.declared.token.Token.{Token}
use Rattle.cv_calc.specs.declared.context.Context.{Context}
use Rattle.cv_numeric.specs.declared.matched.Matched.TheVariants.{Fit}
use Rattle.cv_value.specs.declared.typed.Typed.{Typed}
use Rattle.cv_property.specs.declared.property.Property.{Property}
use Rattle.cv_property.specs.Grammar.{matching_property}
use Rattle.cv_property.specs.Computed.{HasPortionIn}

abbrev pub PortionsAreCounted : Type 0
PortionsAreCounted = (p : Property) (x : Context) (ts : List Token) (v : Typed) → matching_property p x ts ≡ Fit v → HasPortionIn p v
