-- The channels and the alpha of a colour function (CSS Color 4, "The RGB functions: rgb() and rgba()", "Representing Transparency: the
-- <alpha-value> syntax"): a number, or a percentage, which stands for its part of 255, and of the alpha for its part of 1.
use Rattle.std.specs.Prelude.{ℕ, pos, List, [], ◌∷◌, if◌then◌else◌}
use Rattle.cv_spec_ratio.specs.Ratio.{Ratio, ratio, mul}
use Rattle.cv_frac.specs.Bounded.{in_bounds}
use Rattle.cv_spec_text.specs.declared.token.Token.{Token}
use Rattle.cv_calc.specs.declared.context.Context.{Context}
use Rattle.cv_numeric.specs.declared.matched.Matched.{Matched}
use Rattle.cv_numeric.specs.declared.matched.Matched.TheVariants.{No, Out, Fit}
use Rattle.cv_numeric.specs.declared.quantity.Range.TheVariants.{All}
use Rattle.cv_numeric.specs.Matched.{or_else}
use Rattle.cv_numeric.specs.Numeric.{number, percentage}
use Rattle.cv_colorread.specs.declared.channels.Channels.{Channels}
use Rattle.cv_colorread.specs.declared.channels.Form.{Form}
use Rattle.cv_colorread.specs.declared.channels.Form.TheVariants.{Number, Percentage, Either}

-- so many hundredths of a fraction
abbrev pub hundredths : ℕ → Ratio → Ratio
hundredths n v = mul v (mul (ratio (pos n) 1) (ratio (pos 1) 100))

-- the fraction, which has to be in bounds
abbrev pub counted : Ratio → Matched Ratio
counted v = if in_bounds v then Fit v else Out

abbrev pub part_of : ℕ → Matched Ratio → Matched Ratio
part_of whole No = No
part_of whole Out = Out
part_of whole (Fit v) = counted (hundredths whole v)

abbrev pub by_number : Context → List Token → Matched Ratio
by_number x ts = number All x ts

-- the part of a whole that a percentage is
abbrev pub by_percentage : ℕ → Context → List Token → Matched Ratio
by_percentage whole x ts = part_of whole (percentage x ts)

abbrev pub by_either : ℕ → Context → List Token → Matched Ratio
by_either whole x ts = or_else (by_number x ts) (by_percentage whole x ts)

-- a channel in a form
abbrev pub read_as : Form → Context → List Token → Matched Ratio
read_as Number x ts = by_number x ts
read_as Percentage x ts = by_percentage 255 x ts
read_as Either x ts = by_either 255 x ts

-- ---- red, green and blue

-- no match where one is none, else out of range where one is
abbrev pub together : Matched Ratio → Matched Ratio → Matched Ratio → Matched Channels
together No g b = No
together r No b = No
together r g No = No
together (Fit r) (Fit g) (Fit b) = Fit (record { red = r; green = g; blue = b })
together r g b = Out

-- three lists that are read alike
abbrev pub three : (List Token → Matched Ratio) → List (List Token) → Matched Channels
three read (r ∷ g ∷ b ∷ []) = together (read r) (read g) (read b)
three read _ = No
