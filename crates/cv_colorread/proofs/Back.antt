-- Reading the text of a colour.
use Rattle.std.specs.Prelude.{ℕ, Bool, true, false, cond, ◌<◌, List, [], ◌∷◌, ◌++◌, ◌*ℤ◌, int_lt, codes, pos, if◌then◌else◌}
use Rattle.std.specs.Ordering.{int_cmp, is_eq}
use Rattle.std.specs.declared.cmp.Ordering.TheVariants.{Less, Equal, Greater}
use Rattle.std.proofs.Common.{◌≡◌, ℤ, refl, sym, ◌∙◌, ap, subst, arith}
use Rattle.std.proofs.lemmas.Int.{ints}
use Rattle.cv_spec_ratio.specs.Ratio.{Ratio, ratio}
use Rattle.cv_spec_ratio.proofs.LowestTerms.{same_ratio}
use Rattle.cv_spec_text.specs.declared.token.Token.{Token}
use Rattle.cv_spec_text.specs.declared.token.Token.TheVariants.{Function, Number}
use Rattle.cv_component.specs.Parts.{parts}
use Rattle.cv_calc.specs.declared.context.Context.{Context}
use Rattle.cv_calc.specs.declared.calc.Calc.TheVariants.{Num}
use Rattle.cv_calc.specs.Tree.{out-Num}
use Rattle.cv_calc.specs.declared.unit.Unit.TheVariants as units
use Rattle.cv_simplify.specs.Text.{calc_text, calc_text_as, number_alone, has_decimal, decimal_tokens, quotient_tokens, call}
use Rattle.cv_numeric.specs.declared.matched.Matched.{Matched}
use Rattle.cv_numeric.specs.declared.matched.Matched.TheVariants.{Fit}
use Rattle.cv_numeric.specs.declared.quantity.Range.TheVariants.{All}
use Rattle.cv_numeric.specs.Matched.{both, or_else}
use Rattle.cv_numeric.specs.Numeric.{number}
use Rattle.cv_color.specs.declared.color.Color.{Color}
use Rattle.cv_color.specs.declared.color.Color.TheVariants.{Current, Rgb}
use Rattle.cv_color.specs.Channels.{from_channels}
use Rattle.cv_color.specs.Text.{color_text, is_opaque, channel_text, channels_text, alpha_text, separated, closing}
use Rattle.cv_colorread.specs.declared.channels.Channels.{Channels}
use Rattle.cv_colorread.specs.Channels.{together}
use Rattle.cv_colorread.specs.Colors.{legacy, with_alpha, opaque, color}
use Rattle.cv_colorread.specs.ReadsBack.{NumbersReadBack, IsInRange, IsComputed, ColorsReadBack}
use Rattle.cv_colorread.proofs.Written.{whole, channel_back, bounded_byte, byte_text}

abbrev rgb_list : ℕ → ℕ → ℕ → List Token
rgb_list r g b = Function (codes "rgb") ∷ channels_text r g b ++ closing

abbrev rgba_list : ℕ → ℕ → ℕ → List Token → List Token
rgba_list r g b alpha = Function (codes "rgba") ∷ channels_text r g b ++ separated alpha ++ closing

-- what the legacy syntax gives of such lists
rgb_read : (x : Context) (r g b : ℕ) → (o : Matched Color) × (color x (rgb_list r g b) ≡ or_else (legacy x (channel_text r ∷ channel_text g ∷ channel_text b ∷ [])) o)
unfolding color parts
rgb_read x r g b = (_, refl)

abbrev number_list : List ℕ → List Token
number_list spelling = Number spelling ∷ []

decimal_read : (x : Context) (r g b : ℕ) (a : Ratio) → (o : Matched Color) × (color x (rgba_list r g b (decimal_tokens a units.Number)) ≡ or_else (legacy x (channel_text r ∷ channel_text g ∷ channel_text b ∷ decimal_tokens a units.Number ∷ [])) o)
unfolding color parts
decimal_read x r g b a = (_, refl)

abbrev quotient_list : Ratio → List Token
quotient_list a = call (codes "calc") (quotient_tokens a units.Number)

quotient_read : (x : Context) (r g b : ℕ) (a : Ratio) → (o : Matched Color) × (color x (rgba_list r g b (quotient_list a)) ≡ or_else (legacy x (channel_text r ∷ channel_text g ∷ channel_text b ∷ quotient_list a ∷ [])) o)
unfolding color parts
quotient_read x r g b a = (_, refl)

-- three numbers and an alpha that fit
opaque_fit : (p q w : Matched Ratio) (r g b : Ratio) (o : Matched Channels) (o' : Matched Color) → p ≡ Fit r → q ≡ Fit g → w ≡ Fit b →
    or_else (both with_alpha (or_else (together p q w) o) (Fit opaque)) o' ≡ Fit (from_channels r g b opaque)
opaque_fit p q w r g b o o' e f h = rw (e, f, h) refl

alpha_fit : (p q w s : Matched Ratio) (r g b a : Ratio) (o : Matched Channels) (l : Matched Ratio) (o' : Matched Color) → p ≡ Fit r → q ≡ Fit g → w ≡ Fit b → s ≡ Fit a →
    or_else (both with_alpha (or_else (together p q w) o) (or_else s l)) o' ≡ Fit (from_channels r g b a)
alpha_fit p q w s r g b a o l o' e f h k = rw (e, f, h, k) refl

equal : (a b : ℤ) → is_eq (int_cmp a b) ≡ true → a ≡ b
equal a b e = go (int_lt a b) (int_lt b a) refl refl e
  where
    go : (s t : Bool) → int_lt a b ≡ s → int_lt b a ≡ t → is_eq (cond s Less (cond t Greater Equal)) ≡ true → a ≡ b
    go true t f g h = cc
    go false true f g h = cc
    go false false f g h = omega (arith, ints)

same_opaque : (a : Ratio) → is_opaque a ≡ true → a ≡ opaque
same_opaque a e = same_ratio a opaque (equal (a.top *ℤ pos opaque.bottom) (opaque.top *ℤ pos a.bottom) e)

current_read : (x : Context) → color x (color_text Current) ≡ Fit Current
unfolding color
current_read x = refl

same_color : (r g b r' g' b' : ℕ) (a a' : Ratio) → r ≡ r' → g ≡ g' → b ≡ b' → a ≡ a' → Rgb r g b a ≡ Rgb r' g' b' a'
same_color r g b r' g' b' a a' e f h k = cc

module _ (x : Context) (law : NumbersReadBack x) where
  byte_read : (n : ℕ) → n < 256 → number All x (channel_text n) ≡ Fit (whole n)
  byte_read n byte = subst (λ (ts : List Token). number All x ts ≡ Fit (whole n)) (byte_text n byte) (law (whole n) (bounded_byte n byte))

  module _ (r g b : ℕ) (a : Ratio) (in_range : IsInRange r g b a) where
    back : Fit (from_channels (whole r) (whole g) (whole b) a) ≡ Fit (Rgb r g b a)
    back = ap (λ (c : Color). Fit c) (same_color _ _ _ r g b _ a (channel_back r in_range.red_byte) (channel_back g in_range.green_byte) (channel_back b in_range.blue_byte) in_range.alpha_clamped)

    read_opaque : a ≡ opaque → color x (rgb_list r g b) ≡ Fit (Rgb r g b a)
    read_opaque e =
        (rgb_read x r g b).1
        ∙ opaque_fit _ _ _ (whole r) (whole g) (whole b) _ _ (byte_read r in_range.red_byte) (byte_read g in_range.green_byte) (byte_read b in_range.blue_byte)
        ∙ ap (λ (c : Ratio). Fit (from_channels (whole r) (whole g) (whole b) c)) (sym e)
        ∙ back

    alpha_read : (ts : List Token) → number All x ts ≡ Fit a → (o : Matched Color) × (color x (rgba_list r g b ts) ≡ or_else (legacy x (channel_text r ∷ channel_text g ∷ channel_text b ∷ ts ∷ [])) o) → color x (rgba_list r g b ts) ≡ Fit (Rgb r g b a)
    alpha_read ts fits read =
        read.1
        ∙ alpha_fit _ _ _ _ (whole r) (whole g) (whole b) a _ _ _ (byte_read r in_range.red_byte) (byte_read g in_range.green_byte) (byte_read b in_range.blue_byte) fits
        ∙ back

    read_alone : color x (rgba_list r g b (number_alone a units.Number)) ≡ Fit (Rgb r g b a)
    read_alone = by (has_decimal a) (law a in_range.alpha_bounded)
      where
        by : (d : Bool) → number All x (if d then decimal_tokens a units.Number else quotient_list a) ≡ Fit a → color x (rgba_list r g b (if d then decimal_tokens a units.Number else quotient_list a)) ≡ Fit (Rgb r g b a)
        by true fits = alpha_read (decimal_tokens a units.Number) fits (decimal_read x r g b a)
        by false fits = alpha_read (quotient_list a) fits (quotient_read x r g b a)

    alpha_is : alpha_text a ≡ number_alone a units.Number
    unfolding calc_text
    alpha_is = ap (calc_text_as (Num a units.Number)) (out-Num a units.Number)

    read_alpha : color x (rgba_list r g b (alpha_text a)) ≡ Fit (Rgb r g b a)
    read_alpha = subst (λ (ts : List Token). color x (rgba_list r g b ts) ≡ Fit (Rgb r g b a)) (sym alpha_is) read_alone

    read_rgb : (hides : Bool) → is_opaque a ≡ hides → color x (if hides then rgb_list r g b else rgba_list r g b (alpha_text a)) ≡ Fit (Rgb r g b a)
    read_rgb true e = read_opaque (same_opaque a e)
    read_rgb false e = read_alpha

  read_color : (c : Color) → IsComputed c → color x (color_text c) ≡ Fit c
  read_color Current computed = current_read x
  read_color (Rgb r g b a) computed = read_rgb r g b a computed (is_opaque a) refl

pub colors_back : ColorsReadBack
colors_back = λ x law c computed. read_color x law c computed
