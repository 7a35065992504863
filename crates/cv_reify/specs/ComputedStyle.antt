-- What is made of an outcome (CSS Typed OM 1, "Reification"): of a list its text, of a typed value its items. The table is this project's own.
use Rattle.std.specs.Prelude.{ℤ, pos, List, [], ◌∷◌, map, codes, Option, Some, None, Result, Ok, Err, if◌then◌else◌}
use Rattle.cv_spec_ratio.specs.Ratio.{Ratio}
use Rattle.cv_spec_text.specs.declared.token.Token.{Token}
use Rattle.cv_frac.specs.Bounded.{of_numbers}
use Rattle.cv_frac.specs.declared.error.FracErr.{FracErr}
use Rattle.cv_var.specs.declared.segment.Segment.{Segment}
use Rattle.cv_var.specs.declared.segment.Segment.TheVariants.{Text}
use Rattle.cv_calc.specs.declared.unit.Unit.TheVariants as units
use Rattle.cv_calc.specs.declared.calc.Calc.{Calc}
use Rattle.cv_calc.specs.declared.calc.Calc.TheOpen as layer
use Rattle.cv_calc.specs.declared.calc.Calc.TheViews.{out-Calc}
use Rattle.cv_calc.specs.Types.{type_of}
use Rattle.cv_calc.specs.Linear.{has_type}
use Rattle.cv_color.specs.declared.color.Color.{Color as AColor}
use Rattle.cv_color.specs.declared.color.Color.TheVariants.{Current}
use Rattle.cv_value.specs.declared.typed.Item.{Item}
use Rattle.cv_value.specs.declared.typed.Item.TheVariants.{Number, Integer, Percentage, Length, Mixed, Angle, Time, Resolution, Color, Url, Str, Ident}
use Rattle.cv_value.specs.declared.typed.Typed.{Typed}
use Rattle.cv_value.specs.declared.typed.Typed.TheVariants.{One, Spaces, Commas}
use Rattle.cv_value.specs.Text.{item_text}
use Rattle.cv_valuation.specs.declared.key.Key.{Key}
use Rattle.cv_valuation.specs.declared.outcome.Outcome.{Outcome}
use Rattle.cv_valuation.specs.declared.outcome.Outcome.TheVariants.{Tokens, Value, Invalid}
use Rattle.cv_reify.specs.declared.style.Style.{Style}
use Rattle.cv_reify.specs.declared.style.Style.TheVariants as style

-- ---- items

-- what has no more than its text
abbrev pub opaque : Item → Style
opaque i = style.Opaque (item_text i)

-- a whole number within the bounds of fractions
abbrev pub whole_style : ℤ → Result Ratio FracErr → Style
whole_style n (Ok v) = style.Unit v units.Number
whole_style n (Err e) = opaque (Integer n)

-- a calculation that has a type; a matched value holds no other
abbrev pub mixed_as : Calc → layer.Calc-F Calc → Style
mixed_as c (layer.Num v u) = style.Unit v u
mixed_as c l = if has_type (type_of c) then style.Math c else opaque (Mixed c)

-- `currentcolor` is a keyword
abbrev pub color_style : AColor → Style
color_style Current = style.Keyword (codes "currentcolor")
color_style c = opaque (Color c)

abbrev pub item_style : Item → Style
item_style (Number v) = style.Unit v units.Number
item_style (Integer n) = whole_style n (of_numbers n (pos 1))
item_style (Percentage v) = style.Unit v units.Percent
item_style (Length v) = style.Unit v units.Px
item_style (Mixed c) = mixed_as c (out-Calc c)
item_style (Angle v) = style.Unit v units.Deg
item_style (Time v) = style.Unit v units.S
item_style (Resolution v) = style.Unit v units.Dppx
item_style (Color c) = color_style c
item_style (Url text) = opaque (Url text)
item_style (Str text) = opaque (Str text)
item_style (Ident name) = style.Keyword name

abbrev pub typed_style : Typed → Style
typed_style (One i) = item_style i
typed_style (Spaces is) = style.List (map item_style is)
typed_style (Commas is) = style.List (map item_style is)

-- ---- outcomes

-- one text, where it isn't empty
abbrev pub texts_of : List Token → List Segment
texts_of [] = []
texts_of (t ∷ ts) = Text (t ∷ ts) ∷ []

-- the object of an outcome of the key: none for the guaranteed-invalid value. The outcome says all of it.
abbrev pub computed_style : Key → Outcome → Option Style
computed_style key (Tokens ts) = Some (style.Unparsed (texts_of ts))
computed_style key (Value v) = Some (typed_style v)
computed_style key Invalid = None
