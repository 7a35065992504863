-- The tests of tokens that take the texts of typed values.
use Rattle.std.specs.Prelude.{◌≡◌, ℕ, Bool, true, false, not, ◌||◌, List, [], ◌∷◌, ◌++◌, codes, if◌then◌else◌}
use Rattle.std.specs.List.{list_all}
use Rattle.std.proofs.Common.{refl}
use Rattle.cv_spec_ratio.specs.Ratio.{Ratio}
use Rattle.cv_spec_text.specs.declared.token.Token.{Token}
use Rattle.cv_spec_text.specs.declared.token.Token.TheVariants as tokens
use Rattle.cv_var.specs.References.{is_var, has_var}
use Rattle.cv_calc.specs.declared.unit.Unit.{Unit as CalcUnit}
use Rattle.cv_calc.specs.declared.unit.Unit.TheVariants as units
use Rattle.cv_calc.specs.declared.calc.Calc.{Calc}
use Rattle.cv_calc.specs.declared.calc.Calc.TheVariants as tree
use Rattle.cv_simplify.specs.Text.{number_alone, calc_text}
use Rattle.cv_color.specs.declared.color.Color.{Color}
use Rattle.cv_color.specs.declared.color.Color.TheVariants.{Current, Rgb}
use Rattle.cv_color.specs.Text.{separated, channels_text, alpha_text, is_opaque, closing, color_text}
use Rattle.cv_value.specs.declared.typed.Item.{Item}
use Rattle.cv_value.specs.declared.typed.Item.TheVariants.{Number, Integer, Percentage, Length, Mixed, Angle, Time, Resolution, Color as ColorItem, Url, Str, Ident}
use Rattle.cv_value.specs.declared.typed.Typed.{Typed}
use Rattle.cv_value.specs.declared.typed.Typed.TheVariants.{One, Spaces, Commas}
use Rattle.cv_value.specs.Text.{item_text, separator, further_text, list_text, typed_text}
use Rattle.cv_calc_laws.proofs.Lists.{and_both, false_true}
use Rattle.cv_calc_laws.proofs.Taken.{texts_are_taken}
use Rattle.cv_value_laws.specs.Functions.{TakesValues, ValuesAreTaken}
use Rattle.cv_value_laws.proofs.Passing.{by_test, joined_pass}

module _ (takes : Token → Bool) (h : TakesValues takes) where
  abbrev Taken : List Token → Type 0
  Taken ts = list_all takes ts ≡ true

  joined_taken : (xs ys : List Token) → Taken xs → Taken ys → Taken (xs ++ ys)
  joined_taken xs ys = joined_pass (λ t. takes t ≡ true) Taken (by_test takes) xs ys

  calc_taken : (c : Calc) → Taken (calc_text c)
  calc_taken c = texts_are_taken.calculation takes (λ u. true) h.calculations c (texts_are_taken.any_unit c)

  number_taken : (v : Ratio) (u : CalcUnit) → Taken (number_alone v u)
  number_taken v u = texts_are_taken.number takes (λ u. true) h.calculations v u refl

  channels_taken : (r g b : ℕ) → Taken (channels_text r g b)
  channels_taken r g b = simp (h.calculations.number, h.calculations.comma, h.calculations.white)

  opaque_taken : (r g b : ℕ) → Taken (tokens.Function (codes "rgb") ∷ channels_text r g b ++ closing)
  opaque_taken r g b =
      joined_taken (tokens.Function (codes "rgb") ∷ channels_text r g b) closing (rw h.rgb (channels_taken r g b)) (rw h.calculations.close_bracket refl)

  alpha_taken : (r g b : ℕ) (a : Ratio) → Taken (tokens.Function (codes "rgba") ∷ channels_text r g b ++ separated (alpha_text a) ++ closing)
  alpha_taken r g b a =
      joined_taken (tokens.Function (codes "rgba") ∷ channels_text r g b) (separated (alpha_text a) ++ closing) (rw h.rgba (channels_taken r g b))
      (joined_taken (separated (alpha_text a)) closing
      (rw (h.calculations.comma, h.calculations.white) (calc_taken (tree.Num a units.Number))) (rw h.calculations.close_bracket refl))

  color_taken : (c : Color) → Taken (color_text c)
  color_taken Current = rw (h.ident (codes "currentcolor")) refl
  color_taken (Rgb r g b a) = go (is_opaque a)
    where
      go : (o : Bool) →
          Taken (if o then tokens.Function (codes "rgb") ∷ channels_text r g b ++ closing else tokens.Function (codes "rgba") ∷ channels_text r g b ++ separated (alpha_text a) ++ closing)
      go true = opaque_taken r g b
      go false = alpha_taken r g b a

  item_taken : (i : Item) → Taken (item_text i)
  item_taken (Number v) = number_taken v units.Number
  item_taken (Integer n) = simp h.calculations.number
  item_taken (Percentage v) = number_taken v units.Percent
  item_taken (Length v) = number_taken v units.Px
  item_taken (Mixed c) = calc_taken c
  item_taken (Angle v) = number_taken v units.Deg
  item_taken (Time v) = number_taken v units.S
  item_taken (Resolution v) = number_taken v units.Dppx
  item_taken (ColorItem c) = color_taken c
  item_taken (Url text) = rw (h.url, h.str text, h.calculations.close_bracket) refl
  item_taken (Str text) = rw (h.str text) refl
  item_taken (Ident name) = rw (h.ident name) refl

  separator_taken : (b : Bool) → Taken (separator b)
  separator_taken true = rw (h.calculations.comma, h.calculations.white) refl
  separator_taken false = rw h.calculations.white refl

  further_taken : (b : Bool) (is : List Item) → Taken (further_text (separator b) is)
  further_taken b [] = refl
  further_taken b (i ∷ is) =
      joined_taken (separator b ++ item_text i) (further_text (separator b) is) (joined_taken (separator b) (item_text i) (separator_taken b) (item_taken i))
      (further_taken b is)

  list_taken : (b : Bool) (is : List Item) → Taken (list_text (separator b) is)
  list_taken b [] = refl
  list_taken b (i ∷ is) = joined_taken (item_text i) (further_text (separator b) is) (item_taken i) (further_taken b is)

  typed_taken : (v : Typed) → Taken (typed_text v)
  unfolding typed_text
  typed_taken (One i) = item_taken i
  typed_taken (Spaces is) = list_taken false is
  typed_taken (Commas is) = list_taken true is

-- ---- without `var()`

abbrev is_no_var : Token → Bool
is_no_var t = not (is_var t)

takes_no_var : TakesValues is_no_var
takes_no_var = record {
  calculations = record {
    white = refl;
    comma = refl;
    open_bracket = refl;
    close_bracket = refl;
    calc = refl;
    min = refl;
    max = refl;
    clamp = refl;
    delim = λ c. refl;
    number = λ spelling. refl;
    percentage = λ spelling. refl;
    dimension = λ spelling u h. refl;
  };
  rgb = refl;
  rgba = refl;
  url = refl;
  str = λ text. refl;
  ident = λ name. refl;
}

no_var : (ts : List Token) → list_all is_no_var ts ≡ true → has_var ts ≡ false
no_var [] h = refl
no_var (t ∷ ts) h =
    let (first, rest) = and_both (is_no_var t) (list_all is_no_var ts) h in
    first_is (is_var t) first (no_var ts rest)
  where
    first_is : (b : Bool) → not b ≡ true → has_var ts ≡ false → (b || has_var ts) ≡ false
    first_is true e k = absurd (false_true e)
    first_is false e k = k

pub values_are_taken : ValuesAreTaken
values_are_taken = record {
  item = item_taken;
  typed = typed_taken;
  no_var = λ v. no_var (typed_text v) (typed_taken is_no_var takes_no_var v);
}
