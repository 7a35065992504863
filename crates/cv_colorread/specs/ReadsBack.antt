-- The text of a colour is read as the colour (CSSOM, "Serializing CSS Values": what is written has to parse to an equal value).
use Rattle.std.specs.Prelude.{◌≡◌, ◌<◌, ℕ, true}
use Rattle.cv_spec_ratio.specs.Ratio.{Ratio}
use Rattle.cv_frac.specs.Bounded.{in_bounds}
use Rattle.cv_calc.specs.declared.context.Context.{Context}
use Rattle.cv_calc.specs.declared.unit.Unit.TheVariants as units
use Rattle.cv_simplify.specs.Text.{number_alone}
use Rattle.cv_numeric.specs.declared.matched.Matched.TheVariants.{Fit}
use Rattle.cv_numeric.specs.declared.quantity.Range.TheVariants.{All}
use Rattle.cv_numeric.specs.Numeric.{number}
use Rattle.cv_color.specs.declared.color.Color.{Color}
use Rattle.cv_color.specs.declared.color.Color.TheVariants.{Current, Rgb}
use Rattle.cv_color.specs.Channels.{clamped}
use Rattle.cv_color.specs.Text.{color_text}
use Rattle.cv_colorread.specs.Colors.{color}

-- the text of a number alone is read as the number
abbrev pub NumbersReadBack : Context → Type 0
NumbersReadBack x = (v : Ratio) → in_bounds v ≡ true → number All x (number_alone v units.Number) ≡ Fit v

-- channels are bytes, and the alpha is a fraction within bounds from 0 to 1
pub record IsInRange (red green blue : ℕ) (alpha : Ratio) : Type 0 where
  pub red_byte : red < 256
  pub green_byte : green < 256
  pub blue_byte : blue < 256
  pub alpha_bounded : in_bounds alpha ≡ true
  pub alpha_clamped : clamped 1 alpha ≡ alpha

abbrev pub IsComputed : Color → Type 0
IsComputed Current = Unit {0}
IsComputed (Rgb r g b a) = IsInRange r g b a

-- where numbers are, colours are too
abbrev pub ColorsReadBack : Type 0
ColorsReadBack = (x : Context) → NumbersReadBack x → (c : Color) → IsComputed c → color x (color_text c) ≡ Fit c
