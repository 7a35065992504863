-- What a valuation may keep of a typed value: what matches gives it, and what its text is like then.
use Rattle.std.specs.Prelude.{◌≡◌, Bool, true, false, List, All}
use Rattle.cv_spec_text.specs.declared.token.Token.{Token}
use Rattle.cv_spec_text.specs.Printing.{bytes}
use Rattle.cv_spec_text.specs.Splits.{IsSpelt}
use Rattle.cv_spec_text.specs.Tokens.{tokens}
use Rattle.cv_calc.specs.declared.context.Context.{Context}
use Rattle.cv_calc_laws.specs.Fonts.{holds_no_font_unit}
use Rattle.cv_numeric.specs.declared.matched.Matched.TheVariants.{Fit}
use Rattle.cv_syntax.specs.declared.syntax.Syntax.{Syntax}
use Rattle.cv_syntax.specs.Told.{has_no_keyword}
use Rattle.cv_value.specs.declared.typed.Typed.{Typed}
use Rattle.cv_value.specs.Kept.{MayBeKept}
use Rattle.cv_value.specs.Matching.{matching}
use Rattle.cv_value.specs.Text.{typed_text}
use Rattle.cv_value_laws.specs.Values.{is_keyword}

pub record ValuesMayBeKept : Type 0 where
  -- a match of a list of tokens of texts may be kept, where no literal of the syntax is a CSS-wide keyword
  pub matched : (s : Syntax) → has_no_keyword s ≡ true → (x : Context) (ts : List Token) (v : Typed) → All IsSpelt ts → matching s x ts ≡ Fit v → MayBeKept v
  -- the text of such a value holds no font unit, is no CSS-wide keyword, and is read again as it was printed
  pub no_font_unit : (root : Bool) (v : Typed) → MayBeKept v → holds_no_font_unit root (typed_text v) ≡ true
  pub no_keyword : (v : Typed) → MayBeKept v → is_keyword (typed_text v) ≡ false
  pub spelt : (v : Typed) → MayBeKept v → All IsSpelt (typed_text v)
  pub read : (v : Typed) → MayBeKept v → tokens (bytes (typed_text v)) ≡ typed_text v
