-- Whether a list is a value of a property doesn't depend on the context.
use Rattle.std.specs.Prelude.{◌≡◌, List}
use Rattle.cv_spec_text.specs.declared.token.Token.{Token}
use Rattle.cv_calc.specs.declared.context.Context.{Context}
use Rattle.cv_property.specs.declared.property.Property.{Property}
use Rattle.cv_property.specs.Grammar.{is_match, matching_property}

abbrev pub MatchesAreAlike : Type 0
MatchesAreAlike = (p : Property) (x y : Context) (ts : List Token) → is_match (matching_property p x ts) ≡ is_match (matching_property p y ts)
