-- The computed value is the same whatever the property inherits, but for `color`.
use Rattle.std.proofs.Common.{◌≡◌, false, true, List, refl, sym, ◌∙◌, ap}
use Rattle.cv_spec_text.specs.declared.token.Token.{Token}
use Rattle.cv_calc.specs.declared.context.Context.{Context}
use Rattle.cv_numeric.specs.declared.matched.Matched.{Matched}
use Rattle.cv_numeric.specs.declared.matched.Matched.TheVariants.{No, Out, Fit}
use Rattle.cv_numeric.specs.Matched.{mapped}
use Rattle.cv_value.specs.declared.typed.Item.{Item}
use Rattle.cv_value.specs.declared.typed.Typed.{Typed}
use Rattle.cv_value.specs.declared.typed.Typed.TheVariants.{One, Spaces, Commas}
use Rattle.cv_property.specs.declared.property.Property.{Property}
use Rattle.cv_property.specs.declared.property.Property.TheVariants as of
use Rattle.cv_property.specs.Computed.{computed_item, computed_of}
use Rattle.cv_property.specs.Grammar.{matching_property}
use Rattle.cv_props.specs.Remembered.{IsMet, IsValueOf, takes_inherited}

same_item : (p : Property) → takes_inherited p ≡ false → (a b : Typed) (i : Item) → computed_item p a i ≡ computed_item p b i
same_item of.FontSize is a b i = refl
same_item of.Color is a b i = cc
same_item of.LineHeight is a b i = refl
same_item of.LetterSpacing is a b i = refl
same_item of.TextIndent is a b i = refl
same_item of.Visibility is a b i = refl
same_item of.Orphans is a b i = refl
same_item of.Display is a b i = refl
same_item of.Width is a b i = refl
same_item of.Height is a b i = refl
same_item of.MinWidth is a b i = refl
same_item of.MinHeight is a b i = refl
same_item of.MaxWidth is a b i = refl
same_item of.MaxHeight is a b i = refl
same_item of.MarginTop is a b i = refl
same_item of.MarginRight is a b i = refl
same_item of.MarginBottom is a b i = refl
same_item of.MarginLeft is a b i = refl
same_item of.PaddingTop is a b i = refl
same_item of.PaddingRight is a b i = refl
same_item of.PaddingBottom is a b i = refl
same_item of.PaddingLeft is a b i = refl
same_item of.Top is a b i = refl
same_item of.Right is a b i = refl
same_item of.Bottom is a b i = refl
same_item of.Left is a b i = refl
same_item of.RowGap is a b i = refl
same_item of.ColumnGap is a b i = refl
same_item of.Opacity is a b i = refl
same_item of.ZIndex is a b i = refl
same_item of.Order is a b i = refl
same_item of.FlexGrow is a b i = refl
same_item of.FlexShrink is a b i = refl
same_item of.BackgroundColor is a b i = refl
same_item of.OutlineOffset is a b i = refl

same_computed : (p : Property) → takes_inherited p ≡ false → (a b v : Typed) → computed_of p a v ≡ computed_of p b v
unfolding computed_of
same_computed p is a b (One i) = same_item p is a b i
same_computed p is a b (Spaces is') = refl
same_computed p is a b (Commas is') = refl

same_mapped : (p : Property) → takes_inherited p ≡ false → (a b : Typed) (m : Matched Typed) → mapped (computed_of p a) m ≡ mapped (computed_of p b) m
same_mapped p is a b No = refl
same_mapped p is a b Out = refl
same_mapped p is a b (Fit v) = ap Fit (same_computed p is a b v)

pub value_met : (p : Property) (x : Context) (list : List Token) (v : Typed) → takes_inherited p ≡ false → IsMet p x list v → IsValueOf p x list v
value_met p x list v is met = record {
  computed = λ inherited. same_mapped p is inherited met.inherited (matching_property p x list) ∙ met.computed;
  kept = met.kept;
}
