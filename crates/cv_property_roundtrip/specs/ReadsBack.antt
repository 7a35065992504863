-- The text of a value of a property reads back as an equal value (CSSOM, "Serializing CSS Values", whose texts have to parse to equal
-- values; that calculations are equal by what they mean, and that a text is nested at most 128 deep, is this project's own).
use Rattle.std.specs.Prelude.{◌≡◌, ◌≤◌, List}
use Rattle.cv_spec_text.specs.declared.token.Token.{Token}
use Rattle.cv_component.specs.Nesting.{depth}
use Rattle.cv_calc.specs.declared.context.Context.{Context}
use Rattle.cv_numeric.specs.declared.matched.Matched.TheVariants.{Fit}
use Rattle.cv_value.specs.declared.typed.Typed.{Typed}
use Rattle.cv_value.specs.Text.{typed_text}
use Rattle.cv_value_laws.specs.Sizes.{IsNotNegative}
use Rattle.cv_value_roundtrip.specs.Typed.{SameTyped}
use Rattle.cv_property.specs.declared.property.Property.{Property}
use Rattle.cv_property.specs.Grammar.{matching_property}
use Rattle.cv_property.specs.Computed.{computed_of}

-- the text of the value is an equal value of the property
pub record TextReadsBack (p : Property) (y : Context) (v : Typed) : Type 0 where
  pub back : Typed
  pub read : matching_property p y (typed_text v) ≡ Fit back
  pub same : SameTyped v back

pub record PropertiesReadBack : Type 0 where
  -- the value of a list
  pub value : (p : Property) (x y : Context) → IsNotNegative x.em → IsNotNegative x.rem → (ts : List Token) (v : Typed) → matching_property p x ts ≡ Fit v →
      depth (typed_text v) ≤ 128 → TextReadsBack p y v
  -- its computed value, where the inherited one reads back
  pub computed : (p : Property) (x y : Context) → IsNotNegative x.em → IsNotNegative x.rem → (ts : List Token) (inherited v : Typed) → TextReadsBack p y inherited →
      matching_property p x ts ≡ Fit v → depth (typed_text (computed_of p inherited v)) ≤ 128 → TextReadsBack p y (computed_of p inherited v)
