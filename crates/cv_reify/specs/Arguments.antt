-- Which numbers of a declared colour are out of range. That numbers can be is this project's own, since its fractions are exact.
use Rattle.std.specs.Prelude.{ℕ, Bool, true, false, ◌&&◌, ◌||◌, List, [], ◌∷◌, ◌++◌, map, Option, Some, None, Result, Ok, Err, if◌then◌else◌}
use Rattle.std.specs.List.{list_any}
use Rattle.cv_spec_text.specs.declared.token.Token.{Token}
use Rattle.cv_spec_text.specs.declared.token.Token.TheVariants.{Function}
use Rattle.cv_component.specs.Parts.{is_white, is_comma, is_solidus, parts, filled, trim}
use Rattle.cv_calc.specs.declared.calc.Calc.{Calc}
use Rattle.cv_calcread.specs.declared.error.CalcErr.{CalcErr}
use Rattle.cv_calcread.specs.declared.error.CalcErr.TheVariants as refusal
use Rattle.cv_calcread.specs.Answer.{answer, is_wide}
use Rattle.cv_numeric.specs.declared.quantity.Range.TheVariants.{All}
use Rattle.cv_numeric.specs.Numeric.{number, percentage}
use Rattle.cv_colorread.specs.Colors.{inside}
use Rattle.cv_property.specs.Grammar.{is_match}
use Rattle.cv_props.specs.Registration.{viewport}

-- ---- the arguments of a colour function (CSS Color 4, "The RGB functions: rgb() and rgba()")

-- no context matters for what a list is
abbrev pub is_number : List Token → Bool
is_number ts = is_match (number All (viewport 0 0) ts)

abbrev pub is_percentage : List Token → Bool
is_percentage ts = is_match (percentage (viewport 0 0) ts)

abbrev pub are_numbers : List Token → List Token → List Token → Bool
are_numbers red green blue = is_number red && (is_number green && is_number blue)

abbrev pub are_percentages : List Token → List Token → List Token → Bool
are_percentages red green blue = is_percentage red && (is_percentage green && is_percentage blue)

abbrev pub are_channels : List Token → List Token → List Token → Bool
are_channels red green blue = are_numbers red green blue || are_percentages red green blue

abbrev pub is_alpha : List Token → Bool
is_alpha ts = is_number ts || is_percentage ts

-- these are the arguments of the legacy syntax, with commas between them: three numbers or three percentages, and maybe an alpha
abbrev pub is_legacy : List (List Token) → Bool
is_legacy (red ∷ green ∷ blue ∷ []) = are_channels red green blue
is_legacy (red ∷ green ∷ blue ∷ alpha ∷ []) = are_channels red green blue && is_alpha alpha
is_legacy _ = false

-- the channels, between whitespace, and the alpha behind a `/`
abbrev pub modern_arguments : List (List Token) → List (List Token)
modern_arguments (channels ∷ []) = filled (parts is_white channels)
modern_arguments (channels ∷ alpha ∷ []) = filled (parts is_white channels) ++ trim alpha ∷ []
modern_arguments _ = []

abbrev pub arguments_by : List (List Token) → List Token → List (List Token)
arguments_by between_commas inner =
    if is_legacy between_commas then between_commas else modern_arguments (parts is_solidus inner)

abbrev pub arguments_in : Option (List Token) → List (List Token)
arguments_in None = []
arguments_in (Some inner) = arguments_by (map trim (parts is_comma inner)) inner

-- the arguments of a colour function; other colours have none
abbrev pub arguments : List Token → List (List Token)
arguments (Function name ∷ ts) = arguments_in (inside (Function name ∷ ts))
arguments _ = []

-- ---- ranges

abbrev pub is_out_of_range : Result Calc CalcErr → Bool
is_out_of_range (Err (refusal.Range place kind linear)) = true
is_out_of_range _ = false

-- the list is a math function that is refused for a number or a divisor that is out of range
abbrev pub is_wide_function : List Token → Bool
is_wide_function ts = is_out_of_range (answer ts)

-- a number in the list is out of range, or a divisor of numbers alone is
abbrev pub is_wide_argument : List Token → Bool
is_wide_argument ts = list_any is_wide ts || is_wide_function ts

-- a number of the colour is out of range, or a divisor is: all its numbers stand in arguments
abbrev pub is_wide_color : List Token → Bool
is_wide_color ts = list_any is_wide_argument (arguments ts)
