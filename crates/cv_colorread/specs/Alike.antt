-- Whether a list is no colour doesn't depend on the context.
use Rattle.std.specs.Prelude.{List}
use Rattle.cv_spec_text.specs.declared.token.Token.{Token}
use Rattle.cv_calc.specs.declared.context.Context.{Context}
use Rattle.cv_numeric.specs.Matched.{IsAlike}
use Rattle.cv_colorread.specs.Colors.{color}

abbrev pub IsMismatchAlike : Type 0
IsMismatchAlike = (x y : Context) (ts : List Token) → IsAlike (color x ts) (color y ts)
