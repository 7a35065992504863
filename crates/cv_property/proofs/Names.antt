-- The names of the properties are ASCII.
use Rattle.std.proofs.Common.{◌≡◌, ℕ, suc, zero, ◌<◌, Bool, true, false, ◌&&◌, List, [], ◌∷◌, refl, arith}
use Rattle.std.specs.Prelude.{nat_lt}
use Rattle.std.proofs.lemmas.Bool.Decides.{nat_tests}
use Rattle.std.specs.Prelude.{IsAscii}
use Rattle.cv_property.specs.declared.property.Property.{Property}
use Rattle.cv_property.specs.declared.property.Property.TheVariants.{FontSize, Color, LineHeight, LetterSpacing, TextIndent, Visibility, Orphans, Display, Width, Height, MinWidth, MinHeight, MaxWidth, MaxHeight, MarginTop, MarginRight, MarginBottom, MarginLeft, PaddingTop, PaddingRight, PaddingBottom, PaddingLeft, Top, Right, Bottom, Left, RowGap, ColumnGap, Opacity, ZIndex, Order, FlexGrow, FlexShrink, BackgroundColor, OutlineOffset}
use Rattle.cv_property.specs.Table.{name_of}

abbrev are_small : List ℕ → Bool
are_small [] = true
are_small (c ∷ cs) = nat_lt c 128 && are_small cs

both : (a b : Bool) → (a && b) ≡ true → (a ≡ true) × (b ≡ true)
both true b h = (refl, h)
both false b h = cc

small : (n : ℕ) → nat_lt n 128 ≡ true → n < 128
small n h = grind (arith, nat_tests)

by_test : (cs : List ℕ) → are_small cs ≡ true → IsAscii cs
by_test [] h i = omega arith
by_test (c ∷ cs) h zero = small c (both (nat_lt c 128) (are_small cs) h).0
by_test (c ∷ cs) h (suc i) = by_test cs (both (nat_lt c 128) (are_small cs) h).1 i

small_names : (p : Property) → are_small (name_of p) ≡ true
small_names p =
    elim p as (λ p. are_small (name_of p) ≡ true) [ FontSize ↦ refl | Color ↦ refl | LineHeight ↦ refl | LetterSpacing ↦ refl | TextIndent ↦ refl | Visibility ↦ refl | Orphans ↦ refl | Display ↦ refl | Width ↦ refl | Height ↦ refl | MinWidth ↦ refl | MinHeight ↦ refl | MaxWidth ↦ refl | MaxHeight ↦ refl | MarginTop ↦ refl | MarginRight ↦ refl | MarginBottom ↦ refl | MarginLeft ↦ refl | PaddingTop ↦ refl | PaddingRight ↦ refl | PaddingBottom ↦ refl | PaddingLeft ↦ refl | Top ↦ refl | Right ↦ refl | Bottom ↦ refl | Left ↦ refl | RowGap ↦ refl | ColumnGap ↦ refl | Opacity ↦ refl | ZIndex ↦ refl | Order ↦ refl | FlexGrow ↦ refl | FlexShrink ↦ refl | BackgroundColor ↦ refl | OutlineOffset ↦ refl ]

pub names_are_ascii : (p : Property) → IsAscii (name_of p)
names_are_ascii p = by_test (name_of p) (small_names p)
