-- Texts of matched values hold no font unit.
use Rattle.std.specs.Prelude.{◌≡◌, Bool, true, false, List, [], ◌∷◌, ◌++◌, codes, if◌then◌else◌}
use Rattle.std.specs.List.{AllByRecursion as Every}
use Rattle.std.proofs.Common.{refl}
use Rattle.cv_spec_text.specs.declared.token.Token.{Token}
use Rattle.cv_spec_text.specs.declared.token.Token.TheVariants as tokens
use Rattle.cv_spec_ratio.specs.Ratio.{Ratio}
use Rattle.cv_calc.specs.declared.unit.Unit.TheVariants as units
use Rattle.cv_calc.specs.declared.context.Context.{Context}
use Rattle.cv_calc.specs.declared.calc.Calc.TheVariants as tree
use Rattle.cv_simplify.proofs.Canonical.{canonical-Num}
use Rattle.cv_color.specs.declared.color.Color.{Color}
use Rattle.cv_color.specs.declared.color.Color.TheVariants.{Current, Rgb}
use Rattle.cv_color.specs.Text.{separated, channels_text, alpha_text, is_opaque, closing, color_text}
use Rattle.cv_numeric.specs.declared.matched.Matched.TheVariants.{Fit}
use Rattle.cv_syntax.specs.declared.syntax.Syntax.{Syntax}
use Rattle.cv_value.specs.declared.typed.Item.{Item}
use Rattle.cv_value.specs.declared.typed.Item.TheVariants.{Number, Integer, Percentage, Length, Mixed, Angle, Time, Resolution, Color as ColorItem, Url, Str, Ident}
use Rattle.cv_value.specs.declared.typed.Typed.{Typed}
use Rattle.cv_value.specs.declared.typed.Typed.TheVariants.{One, Spaces, Commas}
use Rattle.cv_value.specs.Matching.{matching}
use Rattle.cv_value.specs.Text.{item_text, separator, further_text, list_text, typed_text}
use Rattle.cv_calc_laws.specs.Fonts.{is_other_unit, holds_no_font_unit}
use Rattle.cv_calc_laws.specs.Units.{token_passes}
use Rattle.cv_calc_laws.proofs.Free.{texts_are_free}
use Rattle.cv_value.specs.Kept.{IsCanonical, OfItems}
use Rattle.cv_value_laws.proofs.CanonicalItems.{item_canonical}
use Rattle.cv_value_laws.proofs.Fits.{of_fit, AnyToken, AnyList, if_matching, each_syntax}
use Rattle.cv_value_laws.proofs.Passing.{by_test, by_any, joined_pass}

module _ (root : Bool) where
  abbrev Free : List Token → Type 0
  Free ts = holds_no_font_unit root ts ≡ true

  abbrev Other : Token → Type 0
  Other t = token_passes (is_other_unit root) t ≡ true

  joined_free : (xs ys : List Token) → Free xs → Free ys → Free (xs ++ ys)
  joined_free xs ys h k = joined_pass Other Free (by_test (token_passes (is_other_unit root))) xs ys h k

  alpha_free : (a : Ratio) → Free (alpha_text a)
  alpha_free a = texts_are_free.canonical root (tree.Num a units.Number) (canonical-Num a units.Number)

  color_free : (c : Color) → Free (color_text c)
  color_free Current = refl
  color_free (Rgb r g b a) = go (is_opaque a)
    where
      go : (o : Bool) →
          Free (if o then tokens.Function (codes "rgb") ∷ channels_text r g b ++ closing else tokens.Function (codes "rgba") ∷ channels_text r g b ++ separated (alpha_text a) ++ closing)
      go true = refl
      go false =
          joined_free (tokens.Function (codes "rgba") ∷ channels_text r g b ++ separated (alpha_text a)) closing
          (joined_free (tokens.Function (codes "rgba") ∷ channels_text r g b ++ separated []) (alpha_text a) refl (alpha_free a)) refl

  item_free : (i : Item) → IsCanonical i → Free (item_text i)
  item_free (Number v) h = texts_are_free.number root v units.Number refl
  item_free (Integer n) h = refl
  item_free (Percentage v) h = texts_are_free.number root v units.Percent refl
  item_free (Length v) h = texts_are_free.number root v units.Px refl
  item_free (Mixed c) h = texts_are_free.canonical root c h
  item_free (Angle v) h = texts_are_free.number root v units.Deg refl
  item_free (Time v) h = texts_are_free.number root v units.S refl
  item_free (Resolution v) h = texts_are_free.number root v units.Dppx refl
  item_free (ColorItem c) h = color_free c
  item_free (Url text) h = refl
  item_free (Str text) h = refl
  item_free (Ident name) h = refl

  further_free : (separator : List Token) → Free separator → (is : List Item) → Every IsCanonical is → Free (further_text separator is)
  further_free separator s [] h = refl
  further_free separator s (i ∷ is) h =
      joined_free (separator ++ item_text i) (further_text separator is) (joined_free separator (item_text i) s (item_free i h.0)) (further_free separator s is h.1)

  list_free : (separator : List Token) → Free separator → (is : List Item) → Every IsCanonical is → Free (list_text separator is)
  list_free separator s [] h = refl
  list_free separator s (i ∷ is) h = joined_free (item_text i) (further_text separator is) (item_free i h.0) (further_free separator s is h.1)

  pub typed_free : (v : Typed) → OfItems IsCanonical v → Free (typed_text v)
  unfolding typed_text
  typed_free (One i) h = item_free i h
  typed_free (Spaces is) h = list_free (separator false) refl is h
  typed_free (Commas is) h = list_free (separator true) refl is h

pub values_canonical : (s : Syntax) (x : Context) (ts : List Token) (v : Typed) → matching s x ts ≡ Fit v → OfItems IsCanonical v
values_canonical s x ts v e =
    of_fit (OfItems IsCanonical) (matching s x ts) v (if_matching AnyToken AnyList by_any IsCanonical x s (each_syntax AnyToken AnyList by_any IsCanonical x (λ k us any. item_canonical k x us) s) ts tt) e
