-- The table of properties, tested as a whole.
use Rattle.std.proofs.Common.{◌≡◌, ◌<◌, ◌≤◌, ℕ, suc, zero, Bool, true, false, ◌==◌, ◌&&◌, List, [], ◌∷◌, Some, None, refl, ap, slice_get, subst, ◌+◌, arith}
use Rattle.std.specs.Prelude.{IsSome, is_some}
use Rattle.std.proofs.lemmas.Option.{slice_get-get_or, slice_get_past}
use Rattle.std.proofs.lemmas.Bool.Decides.{nat_tests}
use Rattle.cv_property.specs.declared.property.Property.{Property}
use Rattle.cv_property.specs.declared.property.Property.TheVariants.{FontSize, Color, LineHeight, LetterSpacing, TextIndent, Visibility, Orphans, Display, Width, Height, MinWidth, MinHeight, MaxWidth, MaxHeight, MarginTop, MarginRight, MarginBottom, MarginLeft, PaddingTop, PaddingRight, PaddingBottom, PaddingLeft, Top, Right, Bottom, Left, RowGap, ColumnGap, Opacity, ZIndex, Order, FlexGrow, FlexShrink, BackgroundColor, OutlineOffset}
use Rattle.cv_property.specs.Table.{name_of, number_of, numbered, properties, property_named}
use Rattle.cv_property.specs.Numbers.{number_found}
use Rattle.cv_property.specs.TableLaws.{TableIsFound}

-- the numbers of these properties count up from this one
abbrev count_up : ℕ → List Property → Bool
count_up n [] = true
count_up n (p ∷ ps) = (number_of p == n) && count_up (suc n) ps

both : (a b : Bool) → (a && b) ≡ true → (a ≡ true) × (b ≡ true)
both true b holds = (refl, holds)
both false b holds = cc

counted : (n i : ℕ) (ps : List Property) (p : Property) → count_up n ps ≡ true → slice_get ps i ≡ Some p → number_of p ≡ n + i
counted n i [] p test at = cc
counted n zero (q ∷ ps) p test at =
    let (here, rest) = both (number_of q == n) (count_up (suc n) ps) test in
    let same : q ≡ p = cc in
    let number : number_of q ≡ n = grind (arith, nat_tests) in
    subst (λ r. number_of r ≡ n + 0) same (omega arith)
counted n (suc i) (q ∷ ps) p test at =
    let (here, rest) = both (number_of q == n) (count_up (suc n) ps) test in
    omega (arith, counted (suc n) i ps p rest at)

name_found : (p : Property) → property_named (name_of p) ≡ Some p
unfolding property_named
name_found p =
    elim p as (λ p. property_named (name_of p) ≡ Some p) [ FontSize ↦ refl | Color ↦ refl | LineHeight ↦ refl | LetterSpacing ↦ refl | TextIndent ↦ refl | Visibility ↦ refl | Orphans ↦ refl | Display ↦ refl | Width ↦ refl | Height ↦ refl | MinWidth ↦ refl | MinHeight ↦ refl | MaxWidth ↦ refl | MaxHeight ↦ refl | MarginTop ↦ refl | MarginRight ↦ refl | MarginBottom ↦ refl | MarginLeft ↦ refl | PaddingTop ↦ refl | PaddingRight ↦ refl | PaddingBottom ↦ refl | PaddingLeft ↦ refl | Top ↦ refl | Right ↦ refl | Bottom ↦ refl | Left ↦ refl | RowGap ↦ refl | ColumnGap ↦ refl | Opacity ↦ refl | ZIndex ↦ refl | Order ↦ refl | FlexGrow ↦ refl | FlexShrink ↦ refl | BackgroundColor ↦ refl | OutlineOffset ↦ refl ]

in_order : count_up 0 properties ≡ true
unfolding number_of
in_order = refl

only_number : (n : ℕ) (p : Property) → numbered n ≡ Some p → number_of p ≡ n
unfolding numbered
only_number n p at = omega (arith, counted 0 n properties p in_order at)

some_below : (n : ℕ) → n < 35 → IsSome (numbered n)
unfolding numbered
some_below n below = ap is_some (slice_get-get_or properties n FontSize below)

none_past : (n : ℕ) → 35 ≤ n → numbered n ≡ None
unfolding numbered
none_past n past = slice_get_past properties n past

pub table_is_found : TableIsFound
table_is_found = record { numbered_so = number_found; one_number = only_number; numbered_below = some_below; none_past = none_past; named_so = name_found }
