-- Texts of matched values are read again as they were written (CSS Syntax 3, "Serialization"; CSSOM, "Serializing CSS Values").
use Rattle.std.specs.Prelude.{◌≡◌, List, All}
use Rattle.cv_spec_text.specs.declared.token.Token.{Token}
use Rattle.cv_spec_text.specs.Printing.{bytes}
use Rattle.cv_spec_text.specs.Splits.{IsSpelt}
use Rattle.cv_spec_text.specs.Tokens.{tokens}
use Rattle.cv_tokser.specs.Clean.{IsClean}
use Rattle.cv_calc.specs.declared.context.Context.{Context}
use Rattle.cv_numeric.specs.declared.matched.Matched.TheVariants.{Fit}
use Rattle.cv_syntax.specs.declared.syntax.Syntax.{Syntax}
use Rattle.cv_value.specs.declared.typed.Item.{Item}
use Rattle.cv_value.specs.declared.typed.Typed.{Typed}
use Rattle.cv_value.specs.Kept.{OfItems, HasSpeltNames}
use Rattle.cv_value.specs.Matching.{matching}
use Rattle.cv_value.specs.Text.{item_text, typed_text}

pub record TextsAreClean : Type 0 where
  pub item : (i : Item) → IsClean (item_text i)
  pub typed : (v : Typed) → IsClean (typed_text v)

-- where the tokens of a list are those of texts, so are the tokens of its value's text, which is read again as it was printed; and so it
-- is of each value whose strings and idents are those of texts
pub record TextsAreSpelt : Type 0 where
  pub spelt : (s : Syntax) (x : Context) (ts : List Token) (v : Typed) → All IsSpelt ts → matching s x ts ≡ Fit v → All IsSpelt (typed_text v)
  pub read : (s : Syntax) (x : Context) (ts : List Token) (v : Typed) → All IsSpelt ts → matching s x ts ≡ Fit v → tokens (bytes (typed_text v)) ≡ typed_text v
  pub are_spelt : (s : Syntax) (x : Context) (ts : List Token) (v : Typed) → All IsSpelt ts → matching s x ts ≡ Fit v → OfItems HasSpeltNames v
  pub of_items : (v : Typed) → OfItems HasSpeltNames v → All IsSpelt (typed_text v)
  pub items_read : (v : Typed) → OfItems HasSpeltNames v → tokens (bytes (typed_text v)) ≡ typed_text v
