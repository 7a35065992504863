-- No two properties have one number, which the comparison of keys cites.
use Rattle.std.proofs.Common.{◌≡◌, Some, refl, sym, ap, ◌∙◌}
use Rattle.cv_property.specs.declared.property.Property.{Property}
use Rattle.cv_property.specs.declared.property.Property.TheVariants.{FontSize, Color, LineHeight, LetterSpacing, TextIndent, Visibility, Orphans, Display, Width, Height, MinWidth, MinHeight, MaxWidth, MaxHeight, MarginTop, MarginRight, MarginBottom, MarginLeft, PaddingTop, PaddingRight, PaddingBottom, PaddingLeft, Top, Right, Bottom, Left, RowGap, ColumnGap, Opacity, ZIndex, Order, FlexGrow, FlexShrink, BackgroundColor, OutlineOffset}
use Rattle.cv_property.specs.Table.{number_of, numbered}

pub number_found : (p : Property) → numbered (number_of p) ≡ Some p
unfolding numbered number_of
number_found p =
    elim p as (λ p. numbered (number_of p) ≡ Some p) [ FontSize ↦ refl | Color ↦ refl | LineHeight ↦ refl | LetterSpacing ↦ refl | TextIndent ↦ refl | Visibility ↦ refl | Orphans ↦ refl | Display ↦ refl | Width ↦ refl | Height ↦ refl | MinWidth ↦ refl | MinHeight ↦ refl | MaxWidth ↦ refl | MaxHeight ↦ refl | MarginTop ↦ refl | MarginRight ↦ refl | MarginBottom ↦ refl | MarginLeft ↦ refl | PaddingTop ↦ refl | PaddingRight ↦ refl | PaddingBottom ↦ refl | PaddingLeft ↦ refl | Top ↦ refl | Right ↦ refl | Bottom ↦ refl | Left ↦ refl | RowGap ↦ refl | ColumnGap ↦ refl | Opacity ↦ refl | ZIndex ↦ refl | Order ↦ refl | FlexGrow ↦ refl | FlexShrink ↦ refl | BackgroundColor ↦ refl | OutlineOffset ↦ refl ]

pub same_number : (p q : Property) → number_of p ≡ number_of q → p ≡ q
same_number p q same = let e : Some p ≡ Some q = sym (number_found p) ∙ ap numbered same ∙ number_found q in cc
