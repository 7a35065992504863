-- The text of a colour, as tokens (CSS Color 4, "Serializing sRGB values" and "Serializing other colors"). The alpha is written as a
-- number standing alone, which is this project's own: it isn't rounded.
use Rattle.std.specs.Prelude.{ℕ, pos, Bool, List, [], ◌∷◌, ◌++◌, codes, decimal, if◌then◌else◌}
use Rattle.std.specs.Ordering.{eq_by_cmp}
use Rattle.cv_spec_ratio.specs.Ratio.{Ratio, ratio}
use Rattle.cv_spec_ratio.specs.Order.{ratio_cmp}
use Rattle.cv_spec_text.specs.declared.token.Bracket.TheVariants.{Round}
use Rattle.cv_spec_text.specs.declared.token.Token.{Token}
use Rattle.cv_spec_text.specs.declared.token.Token.TheVariants.{Ident, Function, Number, White, Comma, Close}
use Rattle.cv_calc.specs.declared.unit.Unit.TheVariants as units
use Rattle.cv_calc.specs.declared.calc.Calc.TheVariants.{Num}
use Rattle.cv_simplify.specs.Text.{calc_text}
use Rattle.cv_color.specs.declared.color.Color.{Color}
use Rattle.cv_color.specs.declared.color.Color.TheVariants.{Current, Rgb}

-- a comma and a space in front
abbrev pub separated : List Token → List Token
separated value = Comma ∷ White ∷ value

abbrev pub channel_text : ℕ → List Token
channel_text n = Number (decimal n) ∷ []

abbrev pub channels_text : ℕ → ℕ → ℕ → List Token
channels_text r g b = channel_text r ++ separated (channel_text g) ++ separated (channel_text b)

abbrev pub alpha_text : Ratio → List Token
alpha_text a = calc_text (Num a units.Number)

-- the colour hides what is behind it
abbrev pub is_opaque : Ratio → Bool
is_opaque a = eq_by_cmp ratio_cmp a (ratio (pos 1) 1)

abbrev pub closing : List Token
closing = Close Round ∷ []

abbrev pub color_text : Color → List Token
color_text Current = Ident (codes "currentcolor") ∷ []
color_text (Rgb r g b a) =
    if is_opaque a then Function (codes "rgb") ∷ channels_text r g b ++ closing
    else Function (codes "rgba") ∷ channels_text r g b ++ separated (alpha_text a) ++ closing
