-- What a list is as one item of a kind (Properties and Values API 1, "Supported Names", "Calculation of Computed Values").
use Rattle.std.specs.Prelude.{ℕ, Bool, true, false, ◌||◌, bytes_eq, codes, List, [], ◌∷◌, if◌then◌else◌}
use Rattle.cv_spec_ratio.specs.Ratio.{Ratio}
use Rattle.cv_spec_text.specs.Keywords.{is_word, is_css_wide_keyword}
use Rattle.cv_spec_text.specs.declared.token.Bracket.TheVariants.{Round}
use Rattle.cv_spec_text.specs.declared.token.Token.{Token}
use Rattle.cv_spec_text.specs.declared.token.Token.TheVariants as token
use Rattle.cv_component.specs.TopLevel.{trim_front}
use Rattle.cv_calc.specs.declared.unit.Unit.{Unit}
use Rattle.cv_calc.specs.declared.unit.Unit.TheVariants.{Px, Percent}
use Rattle.cv_calc.specs.declared.context.Context.{Context}
use Rattle.cv_calc.specs.declared.calc.Calc.{Calc}
use Rattle.cv_calc.specs.declared.calc.Calc.TheVariants as tree
use Rattle.cv_calc.specs.declared.calc.Calc.TheOpen as layer
use Rattle.cv_calc.specs.declared.calc.Calc.TheViews.{out-Calc}
use Rattle.cv_numeric.specs.declared.matched.Matched.{Matched}
use Rattle.cv_numeric.specs.declared.matched.Matched.TheVariants.{No, Fit}
use Rattle.cv_numeric.specs.declared.quantity.Range.TheVariants.{All}
use Rattle.cv_numeric.specs.Matched.{mapped}
use Rattle.cv_numeric.specs.Numeric as numeric
use Rattle.cv_colorread.specs.Colors.{color}
use Rattle.cv_syntax.specs.declared.syntax.Kind.{Kind}
use Rattle.cv_syntax.specs.declared.syntax.Kind.TheVariants as kinds
use Rattle.cv_value.specs.declared.typed.Item.{Item}
use Rattle.cv_value.specs.declared.typed.Item.TheVariants as item_of

-- one number of px or of percent, or a calculation with both
abbrev pub numeral_item : Ratio → Unit → Item
numeral_item v Px = item_of.Length v
numeral_item v Percent = item_of.Percentage v
numeral_item v u = item_of.Mixed (tree.Num v u)

abbrev pub mixed_as : Calc → layer.Calc-F Calc → Item
mixed_as c (layer.Num v u) = numeral_item v u
mixed_as c l = item_of.Mixed c

abbrev pub mixed_item : Calc → Item
mixed_item c = mixed_as c (out-Calc c)

-- a function ends here, or the list does, which closes it
abbrev pub is_end : List Token → Bool
is_end [] = true
is_end (token.Close Round ∷ []) = true
is_end _ = false

-- a url is a token or `url(` with one string (CSS Values and Units 4, "Resource Locators")
abbrev pub url_inside : List Token → Matched Item
url_inside (token.Str text ∷ ts) = if is_end (trim_front ts) then Fit (item_of.Url text) else No
url_inside _ = No

abbrev pub url_function : List ℕ → List Token → Matched Item
url_function name ts = if is_word (codes "url") name then url_inside (trim_front ts) else No

abbrev pub url : List Token → Matched Item
url (token.Url text ∷ []) = Fit (item_of.Url text)
url (token.Function name ∷ ts) = url_function name ts
url _ = No

abbrev pub string : List Token → Matched Item
string (token.Str text ∷ []) = Fit (item_of.Str text)
string _ = No

-- an ident that is no CSS-wide keyword and not `default` (CSS Values and Units 4, "Author-defined Identifiers")
abbrev pub is_reserved : List ℕ → Bool
is_reserved name = is_css_wide_keyword name || is_word (codes "default") name

abbrev pub custom_ident : List Token → Matched Item
custom_ident (token.Ident name ∷ []) = if is_reserved name then No else Fit (item_of.Ident name)
custom_ident _ = No

-- the ident of the syntax, with its case
abbrev pub literal : List ℕ → List Token → Matched Item
literal word (token.Ident name ∷ []) = if bytes_eq name word then Fit (item_of.Ident name) else No
literal word _ = No

abbrev pub item : Kind → Context → List Token → Matched Item
item kinds.Length x ts = mapped item_of.Length (numeric.length x ts)
item kinds.Number x ts = mapped item_of.Number (numeric.number All x ts)
item kinds.Percentage x ts = mapped item_of.Percentage (numeric.percentage x ts)
item kinds.LengthPercentage x ts = mapped mixed_item (numeric.length_percentage All x ts)
item kinds.Color x ts = mapped item_of.Color (color x ts)
item kinds.Url x ts = url ts
item kinds.Integer x ts = mapped item_of.Integer (numeric.integer x ts)
item kinds.Angle x ts = mapped item_of.Angle (numeric.angle x ts)
item kinds.Time x ts = mapped item_of.Time (numeric.time x ts)
item kinds.Resolution x ts = mapped item_of.Resolution (numeric.resolution x ts)
item kinds.Str x ts = string ts
item kinds.CustomIdent x ts = custom_ident ts
item (kinds.Literal word) x ts = literal word ts
