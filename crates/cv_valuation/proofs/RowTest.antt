-- A property inherits exactly where its number is below 7, and is in the list of all.
use Rattle.std.proofs.Common.{◌≡◌, true, refl, nat_lt, ◌<◌, arith}
use Rattle.std.proofs.lemmas.Bool.Decides.{nat_tests}
use Rattle.std.specs.Prelude.{map}
use Rattle.cv_property.specs.declared.property.Property.{Property}
use Rattle.cv_property.specs.declared.property.Property.TheVariants.{FontSize, Color, LineHeight, LetterSpacing, TextIndent, Visibility, Orphans, Display, Width, Height, MinWidth, MinHeight, MaxWidth, MaxHeight, MarginTop, MarginRight, MarginBottom, MarginLeft, PaddingTop, PaddingRight, PaddingBottom, PaddingLeft, Top, Right, Bottom, Left, RowGap, ColumnGap, Opacity, ZIndex, Order, FlexGrow, FlexShrink, BackgroundColor, OutlineOffset}
use Rattle.cv_property.specs.Table.{inherits, number_of, properties}
use Rattle.cv_valuation.specs.declared.key.Key.TheVariants.{Table}
use Rattle.cv_valuation.proofs.Tries.{has}

pub inherits_is : (p : Property) → inherits p ≡ nat_lt (number_of p) 7
unfolding number_of
inherits_is p =
    elim p as (λ p. inherits p ≡ nat_lt (number_of p) 7) [ FontSize ↦ refl | Color ↦ refl | LineHeight ↦ refl | LetterSpacing ↦ refl | TextIndent ↦ refl | Visibility ↦ refl | Orphans ↦ refl | Display ↦ refl | Width ↦ refl | Height ↦ refl | MinWidth ↦ refl | MinHeight ↦ refl | MaxWidth ↦ refl | MaxHeight ↦ refl | MarginTop ↦ refl | MarginRight ↦ refl | MarginBottom ↦ refl | MarginLeft ↦ refl | PaddingTop ↦ refl | PaddingRight ↦ refl | PaddingBottom ↦ refl | PaddingLeft ↦ refl | Top ↦ refl | Right ↦ refl | Bottom ↦ refl | Left ↦ refl | RowGap ↦ refl | ColumnGap ↦ refl | Opacity ↦ refl | ZIndex ↦ refl | Order ↦ refl | FlexGrow ↦ refl | FlexShrink ↦ refl | BackgroundColor ↦ refl | OutlineOffset ↦ refl ]

pub is_listed : (p : Property) → has (Table p) (map Table properties) ≡ true
unfolding number_of
is_listed p =
    elim p as (λ p. has (Table p) (map Table properties) ≡ true) [ FontSize ↦ refl | Color ↦ refl | LineHeight ↦ refl | LetterSpacing ↦ refl | TextIndent ↦ refl | Visibility ↦ refl | Orphans ↦ refl | Display ↦ refl | Width ↦ refl | Height ↦ refl | MinWidth ↦ refl | MinHeight ↦ refl | MaxWidth ↦ refl | MaxHeight ↦ refl | MarginTop ↦ refl | MarginRight ↦ refl | MarginBottom ↦ refl | MarginLeft ↦ refl | PaddingTop ↦ refl | PaddingRight ↦ refl | PaddingBottom ↦ refl | PaddingLeft ↦ refl | Top ↦ refl | Right ↦ refl | Bottom ↦ refl | Left ↦ refl | RowGap ↦ refl | ColumnGap ↦ refl | Opacity ↦ refl | ZIndex ↦ refl | Order ↦ refl | FlexGrow ↦ refl | FlexShrink ↦ refl | BackgroundColor ↦ refl | OutlineOffset ↦ refl ]

pub is_below : (p : Property) → nat_lt (number_of p) 35 ≡ true
unfolding number_of
is_below p =
    elim p as (λ p. nat_lt (number_of p) 35 ≡ true) [ FontSize ↦ refl | Color ↦ refl | LineHeight ↦ refl | LetterSpacing ↦ refl | TextIndent ↦ refl | Visibility ↦ refl | Orphans ↦ refl | Display ↦ refl | Width ↦ refl | Height ↦ refl | MinWidth ↦ refl | MinHeight ↦ refl | MaxWidth ↦ refl | MaxHeight ↦ refl | MarginTop ↦ refl | MarginRight ↦ refl | MarginBottom ↦ refl | MarginLeft ↦ refl | PaddingTop ↦ refl | PaddingRight ↦ refl | PaddingBottom ↦ refl | PaddingLeft ↦ refl | Top ↦ refl | Right ↦ refl | Bottom ↦ refl | Left ↦ refl | RowGap ↦ refl | ColumnGap ↦ refl | Opacity ↦ refl | ZIndex ↦ refl | Order ↦ refl | FlexGrow ↦ refl | FlexShrink ↦ refl | BackgroundColor ↦ refl | OutlineOffset ↦ refl ]

pub number_below : (p : Property) → number_of p < 35
number_below p = let is : nat_lt (number_of p) 35 ≡ true = is_below p in grind (arith, nat_tests)
