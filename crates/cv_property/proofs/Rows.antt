-- The row of a property is the one at its number.
use Rattle.std.proofs.Common.{◌≡◌, ℕ, ◌<◌, List, map, Some, ap, ◌∙◌, slice_get, arith}
use Rattle.std.specs.Prelude.{option_map}
use Rattle.std.proofs.lemmas.Option.{slice_get-map}
use Rattle.cv_property.specs.declared.property.Property.{Property}
use Rattle.cv_property.specs.declared.property.Property.TheVariants.{FontSize, Color, LineHeight, LetterSpacing, TextIndent, Visibility, Orphans, Display, Width, Height, MinWidth, MinHeight, MaxWidth, MaxHeight, MarginTop, MarginRight, MarginBottom, MarginLeft, PaddingTop, PaddingRight, PaddingBottom, PaddingLeft, Top, Right, Bottom, Left, RowGap, ColumnGap, Opacity, ZIndex, Order, FlexGrow, FlexShrink, BackgroundColor, OutlineOffset}
use Rattle.cv_property.specs.Table.{Entry, row, number_of, numbered, properties}
use Rattle.cv_property.specs.Numbers.{number_found}

pub number_below : (p : Property) → number_of p < 35
unfolding number_of
number_below p =
    elim p as (λ p. number_of p < 35) [ FontSize ↦ omega arith | Color ↦ omega arith | LineHeight ↦ omega arith | LetterSpacing ↦ omega arith | TextIndent ↦ omega arith | Visibility ↦ omega arith | Orphans ↦ omega arith | Display ↦ omega arith | Width ↦ omega arith | Height ↦ omega arith | MinWidth ↦ omega arith | MinHeight ↦ omega arith | MaxWidth ↦ omega arith | MaxHeight ↦ omega arith | MarginTop ↦ omega arith | MarginRight ↦ omega arith | MarginBottom ↦ omega arith | MarginLeft ↦ omega arith | PaddingTop ↦ omega arith | PaddingRight ↦ omega arith | PaddingBottom ↦ omega arith | PaddingLeft ↦ omega arith | Top ↦ omega arith | Right ↦ omega arith | Bottom ↦ omega arith | Left ↦ omega arith | RowGap ↦ omega arith | ColumnGap ↦ omega arith | Opacity ↦ omega arith | ZIndex ↦ omega arith | Order ↦ omega arith | FlexGrow ↦ omega arith | FlexShrink ↦ omega arith | BackgroundColor ↦ omega arith | OutlineOffset ↦ omega arith ]

-- each property with its row, in order
abbrev pub all : List (Property × Entry)
all = map (λ q. (q, row q)) properties

pub own_row : (p : Property) → slice_get all (number_of p) ≡ Some (p, row p)
unfolding numbered
own_row p =
    let with_row : Property → Property × Entry = λ q. (q, row q) in
    slice_get-map with_row properties (number_of p) ∙ ap (option_map with_row) (number_found p)

pub at_number : (p : Property) (at : ℕ) (e : Property × Entry) → at ≡ number_of p → Some e ≡ slice_get all at → e ≡ (p, row p)
at_number p at e same found =
    let k : Some e ≡ Some (p, row p) = found ∙ ap (slice_get all) same ∙ own_row p in cc
