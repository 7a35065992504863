-- The computed value of `font-size` is one number of px, which isn't negative where the sizes of fonts that it is read with aren't (CSS
-- Fonts 4, "Font size: the font-size property").
use Rattle.std.specs.Prelude.{◌≡◌, List}
use Rattle.cv_spec_ratio.specs.Ratio.{Ratio}
use Rattle.cv_spec_text.specs.declared.token.Token.{Token}
use Rattle.cv_calc.specs.declared.context.Context.{Context}
use Rattle.cv_numeric.specs.declared.matched.Matched.TheVariants.{Fit}
use Rattle.cv_value.specs.declared.typed.Item.TheVariants.{Length}
use Rattle.cv_value.specs.declared.typed.Typed.{Typed}
use Rattle.cv_value.specs.declared.typed.Typed.TheVariants.{One}
use Rattle.cv_value_laws.specs.Sizes.{IsNotNegative}
use Rattle.cv_property.specs.declared.property.Property.TheVariants.{FontSize}
use Rattle.cv_property.specs.Table.{initial_of}
use Rattle.cv_property.specs.Grammar.{matching_property}
use Rattle.cv_property.specs.Computed.{computed_of}

-- the value is one number of px
abbrev pub IsPx : Typed → Type 0
IsPx v = (size : Ratio) × (v ≡ One (Length size))

-- and the number isn't negative
abbrev pub IsSize : Typed → Type 0
IsSize v = (size : Ratio) × (v ≡ One (Length size)) × IsNotNegative size

pub record FontSizesAreNumbers : Type 0 where
  pub number : (x : Context) (ts : List Token) (inherited v : Typed) → matching_property FontSize x ts ≡ Fit v → IsPx (computed_of FontSize inherited v)
  pub not_negative : (x : Context) → IsNotNegative x.em → IsNotNegative x.rem → (ts : List Token) (inherited v : Typed) → matching_property FontSize x ts ≡ Fit v → IsSize (computed_of FontSize inherited v)
  pub initial : IsSize (initial_of FontSize)
