-- The names of the table are no custom names.
use Rattle.std.proofs.Common.{◌≡◌, false, Some, refl, ap, ◌∙◌}
use Rattle.std.specs.Prelude.{option_map, if◌then◌else◌}
use Rattle.cv_spec_text.specs.Keywords.{is_custom}
use Rattle.cv_property.specs.declared.property.Property.{Property}
use Rattle.cv_property.specs.declared.property.Property.TheVariants.{FontSize, Color, LineHeight, LetterSpacing, TextIndent, Visibility, Orphans, Display, Width, Height, MinWidth, MinHeight, MaxWidth, MaxHeight, MarginTop, MarginRight, MarginBottom, MarginLeft, PaddingTop, PaddingRight, PaddingBottom, PaddingLeft, Top, Right, Bottom, Left, RowGap, ColumnGap, Opacity, ZIndex, Order, FlexGrow, FlexShrink, BackgroundColor, OutlineOffset}
use Rattle.cv_property.specs.Table.{name_of, property_named}
use Rattle.cv_property.specs.TableLaws.{TableIsFound}
use Rattle.cv_valuation.specs.declared.key.Key.TheVariants.{Custom, Table}
use Rattle.cv_valuation.specs.Keys.{key_named}
use Rattle.cv_valuation.specs.TableLaws.{PropertiesAreFound}

no_custom : (p : Property) → is_custom (name_of p) ≡ false
no_custom p =
    elim p as (λ p. is_custom (name_of p) ≡ false) [ FontSize ↦ refl | Color ↦ refl | LineHeight ↦ refl | LetterSpacing ↦ refl | TextIndent ↦ refl | Visibility ↦ refl | Orphans ↦ refl | Display ↦ refl | Width ↦ refl | Height ↦ refl | MinWidth ↦ refl | MinHeight ↦ refl | MaxWidth ↦ refl | MaxHeight ↦ refl | MarginTop ↦ refl | MarginRight ↦ refl | MarginBottom ↦ refl | MarginLeft ↦ refl | PaddingTop ↦ refl | PaddingRight ↦ refl | PaddingBottom ↦ refl | PaddingLeft ↦ refl | Top ↦ refl | Right ↦ refl | Bottom ↦ refl | Left ↦ refl | RowGap ↦ refl | ColumnGap ↦ refl | Opacity ↦ refl | ZIndex ↦ refl | Order ↦ refl | FlexGrow ↦ refl | FlexShrink ↦ refl | BackgroundColor ↦ refl | OutlineOffset ↦ refl ]

name_found : TableIsFound → (p : Property) → key_named (name_of p) ≡ Some (Table p)
unfolding key_named
name_found found p =
    ap (λ b. if b then Some (Custom (name_of p)) else option_map Table (property_named (name_of p))) (no_custom p)
    ∙ ap (option_map Table) (found.named_so p)

pub properties_are_found : TableIsFound → PropertiesAreFound
properties_are_found found = record { numbered_so = found.numbered_so; one_number = found.one_number; numbered_below = found.numbered_below; none_past = found.none_past; named_so = name_found found }
