-- Numeric items (CSS Values and Units 4, "Numeric Data Types" to "Resolution Units"; CSS Properties and Values API 1, "Supported
-- Names"), with the basis of percentages that each sets. Lengths are in px, angles in deg, times in s, resolutions in dppx.
use Rattle.std.specs.Prelude.{ℕ, ℤ, Bool, true, false, ◌||◌, List, [], ◌∷◌, encode_utf8_all, if◌then◌else◌}
use Rattle.std.specs.Char.{is_ascii_digit}
use Rattle.cv_spec_ratio.specs.Ratio.{Ratio, zero_ratio}
use Rattle.cv_frac.specs.Rounded.{half_up}
use Rattle.cv_spec_text.specs.Characters.{is_sign}
use Rattle.cv_spec_text.specs.declared.token.Token.{Token}
use Rattle.cv_spec_text.specs.declared.token.Token.TheVariants as token
use Rattle.cv_calc.specs.declared.unit.Unit.TheVariants.{Px}
use Rattle.cv_calc.specs.declared.context.Basis.{Basis}
use Rattle.cv_calc.specs.declared.context.Basis.TheVariants as basis
use Rattle.cv_calc.specs.declared.context.Context.{Context}
use Rattle.cv_calc.specs.declared.calc.Calc.{Calc}
use Rattle.cv_calc.specs.declared.calc.Calc.TheVariants as tree
use Rattle.cv_calc.specs.declared.calc.Calc.TheOpen as layer
use Rattle.cv_calc.specs.declared.calc.Calc.TheViews.{out-Calc}
use Rattle.cv_calcread.specs.Literals.{exact_number, is_in_range}
use Rattle.cv_numeric.specs.declared.matched.Matched.{Matched}
use Rattle.cv_numeric.specs.declared.matched.Matched.TheVariants.{No, Out, Fit}
use Rattle.cv_numeric.specs.declared.quantity.Quantity.{Quantity}
use Rattle.cv_numeric.specs.declared.quantity.Quantity.TheVariants.{Number, Percentage, Length, LengthPercentage, Angle, Time, Resolution}
use Rattle.cv_numeric.specs.declared.quantity.Range.{Range}
use Rattle.cv_numeric.specs.declared.quantity.Range.TheVariants.{All, NotNegative}
use Rattle.cv_numeric.specs.Matched.{mapped}
use Rattle.cv_numeric.specs.Calculations.{is_null, calculation}

abbrev pub with_basis : Basis → Context → Context
with_basis b x = record x { basis = b }

-- the number of a calculation that is one number
abbrev pub value_as : layer.Calc-F Calc → Ratio
value_as (layer.Num v u) = v
value_as l = zero_ratio

abbrev pub value_of : Calc → Ratio
value_of c = value_as (out-Calc c)

-- a quantity in which percentages stand for themselves
abbrev pub measured : Quantity → Range → Context → List Token → Matched Ratio
measured q r x ts = mapped value_of (calculation q r (with_basis basis.Plain x) ts)

abbrev pub number : Range → Context → List Token → Matched Ratio
number r = measured Number r

abbrev pub percentage : Context → List Token → Matched Ratio
percentage = measured Percentage All

abbrev pub angle : Context → List Token → Matched Ratio
angle = measured Angle All

abbrev pub time : Context → List Token → Matched Ratio
time = measured Time All

abbrev pub resolution : Context → List Token → Matched Ratio
resolution = measured Resolution NotNegative

-- ---- lengths

-- a bare number is a length where it is 0
abbrev pub zero_length : List ℕ → Matched Ratio
zero_length n = if is_null n then Fit zero_ratio else No

abbrev pub length : Context → List Token → Matched Ratio
length x (token.Number n ∷ []) = zero_length n
length x ts = measured Length All x ts

-- a length, a percentage or both together: a number of px, a number of percent or another calculation
abbrev pub length_percentage_in : Range → Context → List Token → Matched Calc
length_percentage_in r x (token.Number n ∷ []) = mapped (λ v. tree.Num v Px) (zero_length n)
length_percentage_in r x ts = calculation LengthPercentage r x ts

abbrev pub length_percentage : Range → Context → List Token → Matched Calc
length_percentage r x ts = length_percentage_in r (with_basis basis.Length x) ts

-- ---- whole numbers

-- the spelling has no point and no exponent: it is made of digits and a sign
abbrev pub is_digits : List ℕ → Bool
is_digits [] = true
is_digits (c ∷ cs) = if is_ascii_digit c || is_sign c then is_digits cs else false

abbrev pub is_whole : List ℕ → Bool
is_whole n = is_digits (encode_utf8_all n)

abbrev pub whole_number : List ℕ → Matched ℤ
whole_number n = if is_whole n then (if is_in_range n then Fit (half_up (exact_number n)) else Out) else No

abbrev pub integer : Context → List Token → Matched ℤ
integer x (token.Number n ∷ []) = whole_number n
integer x ts = mapped half_up (measured Number All x ts)
