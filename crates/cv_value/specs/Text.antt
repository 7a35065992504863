-- The text of typed values, as tokens (CSSOM, "Serializing CSS Values"; CSS Values and Units 4, "Serialization").
use Rattle.std.specs.Prelude.{Bool, true, false, codes, List, [], ◌∷◌, ◌++◌}
use Rattle.std.specs.Fmt.{signed_decimal}
use Rattle.cv_spec_text.specs.declared.token.Bracket.TheVariants.{Round}
use Rattle.cv_spec_text.specs.declared.token.Token.{Token}
use Rattle.cv_spec_text.specs.declared.token.Token.TheVariants as token
use Rattle.cv_calc.specs.declared.unit.Unit.TheVariants as units
use Rattle.cv_simplify.specs.Text.{number_alone, calc_text}
use Rattle.cv_color.specs.Text.{color_text}
use Rattle.cv_value.specs.declared.typed.Item.{Item}
use Rattle.cv_value.specs.declared.typed.Item.TheVariants.{Number, Integer, Percentage, Length, Mixed, Angle, Time, Resolution, Color, Url, Str, Ident}
use Rattle.cv_value.specs.declared.typed.Typed.{Typed}
use Rattle.cv_value.specs.declared.typed.Typed.TheVariants.{One, Spaces, Commas}

abbrev pub item_text : Item → List Token
item_text (Number v) = number_alone v units.Number
item_text (Integer n) = token.Number (signed_decimal n) ∷ []
item_text (Percentage v) = number_alone v units.Percent
item_text (Length v) = number_alone v units.Px
item_text (Mixed c) = calc_text c
item_text (Angle v) = number_alone v units.Deg
item_text (Time v) = number_alone v units.S
item_text (Resolution v) = number_alone v units.Dppx
item_text (Color c) = color_text c
item_text (Url text) = token.Function (codes "url") ∷ token.Str text ∷ token.Close Round ∷ []
item_text (Str text) = token.Str text ∷ []
item_text (Ident name) = token.Ident name ∷ []

-- what stands between the items of a list
abbrev pub separator : Bool → List Token
separator true = token.Comma ∷ token.White ∷ []
separator false = token.White ∷ []

-- the texts of further items, each behind what separates it
abbrev pub further_text : List Token → List Item → List Token
further_text separator [] = []
further_text separator (i ∷ is) = separator ++ item_text i ++ further_text separator is

abbrev pub list_text : List Token → List Item → List Token
list_text separator [] = []
list_text separator (i ∷ is) = item_text i ++ further_text separator is

unfoldable pub typed_text : Typed → List Token
typed_text (One i) = item_text i
typed_text (Spaces is) = list_text (separator false) is
typed_text (Commas is) = list_text (separator true) is
