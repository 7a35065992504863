-- The ordinary properties of CSS that this project has: its own selection, in an order of its own. A row is what the standard says of a
-- property under "Name", "Inherited", "Initial", "Value" and "Percentages" (CSS 2.2, "Property definitions", and the module that
-- defines the property), as far as this project reads it.
use Rattle.std.specs.Prelude.{ℕ, pos, Bool, true, false, List, [], ◌∷◌, map, codes, find, slice_get, Option}
use Rattle.std.specs.Char.{to_ascii_lowercase}
use Rattle.std.specs.List.{position_or_len}
use Rattle.cv_spec_text.specs.Characters.{same_text}
use Rattle.cv_numeric.specs.declared.quantity.Range.TheVariants.{All, NotNegative}
use Rattle.cv_value.specs.declared.typed.Typed.{Typed}
use Rattle.cv_property.specs.declared.property.Property.{Property}
use Rattle.cv_property.specs.declared.property.Property.TheVariants as of
use Rattle.cv_property.specs.declared.grammar.Keyword.TheVariants as keywords
use Rattle.cv_property.specs.declared.grammar.Alternative.{Alternative}
use Rattle.cv_property.specs.declared.grammar.Alternative.TheVariants.{Keyword, Number, Portion, Integer, PositiveInteger, Length, LengthPercentage, Color}
use Rattle.cv_property.specs.declared.grammar.Percentages.{Percentages}
use Rattle.cv_property.specs.declared.grammar.Percentages.TheVariants.{OfFontSize, OfLength, Themselves}
use Rattle.cv_property.specs.declared.table.Initial.{Initial}
use Rattle.cv_property.specs.declared.table.Initial.TheVariants as initials
use Rattle.cv_property.specs.Initial.{initial_value}

-- what the table says of a property
pub record Entry : Type 0 where
  pub name : List ℕ
  pub inherits : Bool
  pub initial : Initial
  -- the first of these that a list matches counts
  pub grammar : List Alternative
  pub percentages : Percentages

abbrev pub entry : List ℕ → Bool → Initial → List Alternative → Percentages → Entry
entry name inherits initial grammar percentages = record { name = name; inherits = inherits; initial = initial; grammar = grammar; percentages = percentages }

-- a length or a percentage, with a sign and without
abbrev pub offset : Alternative
offset = LengthPercentage All

abbrev pub size : Alternative
size = LengthPercentage NotNegative

abbrev pub row : Property → Entry
row of.FontSize = entry (codes "font-size") true (initials.Px 16) (Keyword keywords.Medium ∷ size ∷ []) OfFontSize
row of.Color = entry (codes "color") true initials.Black (Color ∷ []) OfLength
row of.LineHeight = entry (codes "line-height") true (initials.Keyword keywords.Normal) (Keyword keywords.Normal ∷ Number NotNegative ∷ size ∷ []) OfFontSize
row of.LetterSpacing = entry (codes "letter-spacing") true (initials.Keyword keywords.Normal) (Keyword keywords.Normal ∷ Length ∷ []) OfLength
row of.TextIndent = entry (codes "text-indent") true (initials.Px 0) (offset ∷ []) OfLength
row of.Visibility = entry (codes "visibility") true (initials.Keyword keywords.Visible) (Keyword keywords.Visible ∷ Keyword keywords.Hidden ∷ Keyword keywords.Collapse ∷ []) OfLength
row of.Orphans = entry (codes "orphans") true (initials.Integer (pos 2)) (PositiveInteger ∷ []) OfLength
row of.Display = entry (codes "display") false (initials.Keyword keywords.Inline) (Keyword keywords.Inline ∷ Keyword keywords.Block ∷ Keyword keywords.InlineBlock ∷ Keyword keywords.Flex ∷ Keyword keywords.Grid ∷ Keyword keywords.Contents ∷ Keyword keywords.None ∷ []) OfLength
row of.Width = entry (codes "width") false (initials.Keyword keywords.Auto) (Keyword keywords.Auto ∷ size ∷ []) OfLength
row of.Height = entry (codes "height") false (initials.Keyword keywords.Auto) (Keyword keywords.Auto ∷ size ∷ []) OfLength
row of.MinWidth = entry (codes "min-width") false (initials.Keyword keywords.Auto) (Keyword keywords.Auto ∷ size ∷ []) OfLength
row of.MinHeight = entry (codes "min-height") false (initials.Keyword keywords.Auto) (Keyword keywords.Auto ∷ size ∷ []) OfLength
row of.MaxWidth = entry (codes "max-width") false (initials.Keyword keywords.None) (Keyword keywords.None ∷ size ∷ []) OfLength
row of.MaxHeight = entry (codes "max-height") false (initials.Keyword keywords.None) (Keyword keywords.None ∷ size ∷ []) OfLength
row of.MarginTop = entry (codes "margin-top") false (initials.Px 0) (Keyword keywords.Auto ∷ offset ∷ []) OfLength
row of.MarginRight = entry (codes "margin-right") false (initials.Px 0) (Keyword keywords.Auto ∷ offset ∷ []) OfLength
row of.MarginBottom = entry (codes "margin-bottom") false (initials.Px 0) (Keyword keywords.Auto ∷ offset ∷ []) OfLength
row of.MarginLeft = entry (codes "margin-left") false (initials.Px 0) (Keyword keywords.Auto ∷ offset ∷ []) OfLength
row of.PaddingTop = entry (codes "padding-top") false (initials.Px 0) (size ∷ []) OfLength
row of.PaddingRight = entry (codes "padding-right") false (initials.Px 0) (size ∷ []) OfLength
row of.PaddingBottom = entry (codes "padding-bottom") false (initials.Px 0) (size ∷ []) OfLength
row of.PaddingLeft = entry (codes "padding-left") false (initials.Px 0) (size ∷ []) OfLength
row of.Top = entry (codes "top") false (initials.Keyword keywords.Auto) (Keyword keywords.Auto ∷ offset ∷ []) OfLength
row of.Right = entry (codes "right") false (initials.Keyword keywords.Auto) (Keyword keywords.Auto ∷ offset ∷ []) OfLength
row of.Bottom = entry (codes "bottom") false (initials.Keyword keywords.Auto) (Keyword keywords.Auto ∷ offset ∷ []) OfLength
row of.Left = entry (codes "left") false (initials.Keyword keywords.Auto) (Keyword keywords.Auto ∷ offset ∷ []) OfLength
row of.RowGap = entry (codes "row-gap") false (initials.Keyword keywords.Normal) (Keyword keywords.Normal ∷ size ∷ []) OfLength
row of.ColumnGap = entry (codes "column-gap") false (initials.Keyword keywords.Normal) (Keyword keywords.Normal ∷ size ∷ []) OfLength
row of.Opacity = entry (codes "opacity") false (initials.Number 1) (Number All ∷ Portion ∷ []) Themselves
row of.ZIndex = entry (codes "z-index") false (initials.Keyword keywords.Auto) (Keyword keywords.Auto ∷ Integer ∷ []) OfLength
row of.Order = entry (codes "order") false (initials.Integer (pos 0)) (Integer ∷ []) OfLength
row of.FlexGrow = entry (codes "flex-grow") false (initials.Number 0) (Number NotNegative ∷ []) OfLength
row of.FlexShrink = entry (codes "flex-shrink") false (initials.Number 1) (Number NotNegative ∷ []) OfLength
row of.BackgroundColor = entry (codes "background-color") false initials.Transparent (Color ∷ []) OfLength
row of.OutlineOffset = entry (codes "outline-offset") false (initials.Px 0) (Length ∷ []) OfLength

abbrev pub name_of : Property → List ℕ
name_of property = (row property).name

abbrev pub inherits : Property → Bool
inherits property = (row property).inherits

-- the initial value, computed (CSS Cascade 4, "Initial Values")
abbrev pub initial_of : Property → Typed
initial_of property = initial_value (row property).initial

-- the properties in order
abbrev pub properties : List Property
properties =
    of.FontSize ∷ of.Color ∷ of.LineHeight ∷ of.LetterSpacing ∷ of.TextIndent ∷ of.Visibility ∷ of.Orphans ∷ of.Display ∷ of.Width ∷ of.Height ∷ of.MinWidth ∷ of.MinHeight ∷ of.MaxWidth ∷ of.MaxHeight ∷ of.MarginTop ∷ of.MarginRight ∷ of.MarginBottom ∷ of.MarginLeft ∷ of.PaddingTop ∷ of.PaddingRight ∷ of.PaddingBottom ∷ of.PaddingLeft ∷ of.Top ∷ of.Right ∷ of.Bottom ∷ of.Left ∷ of.RowGap ∷ of.ColumnGap ∷ of.Opacity ∷ of.ZIndex ∷ of.Order ∷ of.FlexGrow ∷ of.FlexShrink ∷ of.BackgroundColor ∷ of.OutlineOffset ∷ []

-- the property of this number, from 0 on
unfoldable pub numbered : ℕ → Option Property
numbered number = slice_get properties number

-- the number of a property
unfoldable pub number_of : Property → ℕ
number_of property = position_or_len (same_text (name_of property)) (map name_of properties)

-- the text is the property's name, without ASCII case
abbrev pub is_name_of : List ℕ → Property → Bool
is_name_of text property = same_text (map to_ascii_lowercase text) (map to_ascii_lowercase (name_of property))

-- the property with this name, without ASCII case
unfoldable pub property_named : List ℕ → Option Property
property_named text = find (is_name_of text) properties
