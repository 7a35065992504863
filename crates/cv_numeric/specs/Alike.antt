-- Whether a list is no match doesn't depend on the context.
use Rattle.std.specs.Prelude.{List}
use Rattle.cv_spec_text.specs.declared.token.Token.{Token}
use Rattle.cv_calc.specs.declared.context.Context.{Context}
use Rattle.cv_numeric.specs.declared.quantity.Range.{Range}
use Rattle.cv_numeric.specs.Matched.{IsAlike}
use Rattle.cv_numeric.specs.Numeric.{number, percentage, angle, time, resolution, length, length_percentage_in, length_percentage, integer}

pub record IsMismatchAlike : Type 0 where
  pub number_is : (r : Range) (x y : Context) (ts : List Token) → IsAlike (number r x ts) (number r y ts)
  pub percentage_is : (x y : Context) (ts : List Token) → IsAlike (percentage x ts) (percentage y ts)
  pub angle_is : (x y : Context) (ts : List Token) → IsAlike (angle x ts) (angle y ts)
  pub time_is : (x y : Context) (ts : List Token) → IsAlike (time x ts) (time y ts)
  pub resolution_is : (x y : Context) (ts : List Token) → IsAlike (resolution x ts) (resolution y ts)
  pub length_is : (x y : Context) (ts : List Token) → IsAlike (length x ts) (length y ts)
  pub length_percentage_in_is : (r : Range) (x y : Context) (ts : List Token) → IsAlike (length_percentage_in r x ts) (length_percentage_in r y ts)
  pub length_percentage_is : (r : Range) (x y : Context) (ts : List Token) → IsAlike (length_percentage r x ts) (length_percentage r y ts)
  pub integer_is : (x y : Context) (ts : List Token) → IsAlike (integer x ts) (integer y ts)
