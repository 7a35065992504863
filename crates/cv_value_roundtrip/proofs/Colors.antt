-- Colours read back.
use Rattle.std.specs.Prelude.{ℕ, Bool, true, false, ◌<◌, pos, codes, decimal, List, [], ◌∷◌, ◌++◌}
use Rattle.std.specs.Fmt.{signed_decimal}
use Rattle.std.proofs.Common.{◌≡◌, refl, sym, ◌∙◌, ap, ap₂, arith}
use Rattle.cv_spec_text.specs.declared.token.Bracket.TheVariants.{Round}
use Rattle.cv_spec_text.specs.declared.token.Token.{Token}
use Rattle.cv_spec_text.specs.declared.token.Token.TheVariants.{Function, Number, White, Comma, Close, Delim}
use Rattle.cv_spec_ratio.specs.Ratio.{Ratio}
use Rattle.cv_frac.specs.Text.{frac_text}
use Rattle.cv_component.specs.Parts.{is_solidus, parts}
use Rattle.cv_calc.specs.declared.unit.Unit.TheVariants as units
use Rattle.cv_calc.specs.declared.context.Context.{Context}
use Rattle.cv_calc.specs.declared.context.Basis.TheVariants as basis
use Rattle.cv_calc.specs.declared.calc.Calc.TheVariants as tree
use Rattle.cv_simplify.specs.Text.{has_decimal, number_alone, calc_text}
use Rattle.cv_calc_roundtrip.proofs.Numerals.{whole_means, whole_inside}
use Rattle.cv_numeric.specs.declared.matched.Matched.{Matched}
use Rattle.cv_numeric.specs.declared.matched.Matched.TheVariants.{Fit}
use Rattle.cv_numeric.specs.declared.quantity.Quantity.TheVariants as quantity
use Rattle.cv_numeric.specs.declared.quantity.Range.TheVariants.{All}
use Rattle.cv_numeric.specs.Matched.{mapped, both, or_else}
use Rattle.cv_numeric.specs.Numeric.{with_basis, value_of, number}
use Rattle.cv_color.specs.declared.color.Color.{Color}
use Rattle.cv_color.specs.declared.color.Color.TheVariants.{Current, Rgb}
use Rattle.cv_color.specs.Channels.{clamped, channel}
use Rattle.cv_color.specs.Text.{color_text, is_opaque}
use Rattle.cv_colorread.specs.declared.channels.Channels.{Channels}
use Rattle.cv_colorread.specs.Channels.{by_number, by_percentage, together, three}
use Rattle.cv_colorread.specs.Colors.{with_alpha, opaque, without_alpha, alpha, alike, legacy, modern, color}
use Rattle.cv_value_roundtrip.proofs.Numbers.{numeral_read}
use Rattle.cv_value_roundtrip.proofs.Measured.{value_is, measured_read}
use Rattle.cv_value_roundtrip.proofs.Mixed.{number_text}
use Rattle.cv_value_roundtrip.proofs.Parts.{whole_ratio, channel_kept, part_kept, equal_is}
use Rattle.cv_value_roundtrip.proofs.GivenColors.{AreChannels, IsGiven, color_given}

-- ---- channels

channel_read : (y : Context) (n : ℕ) → n < 256 → number All y (Number (decimal n) ∷ []) ≡ Fit (whole_ratio n)
channel_read y n h =
    ap (mapped value_of) (numeral_read quantity.Number All (with_basis basis.Plain y) (whole_ratio n) units.Number (whole_inside (pos n) (omega (arith, h))) refl tt refl tt
    (Number (decimal n) ∷ []) (decimal n) refl (whole_means (pos n) (omega (arith, h))))
    ∙ ap Fit (value_is (whole_ratio n) units.Number)

first_fits : {A : Type 0} (m o : Matched A) (a : A) → m ≡ Fit a → or_else m o ≡ Fit a
first_fits m o a h = ap (λ n. or_else n o) h

module _ (y : Context) (r g b : ℕ) (a : Ratio) (given : AreChannels r g b a) where
  abbrev texts : List (List Token)
  texts = (Number (decimal r) ∷ []) ∷ (Number (decimal g) ∷ []) ∷ (Number (decimal b) ∷ []) ∷ []

  abbrev channels : Channels
  channels = record { red = whole_ratio r; green = whole_ratio g; blue = whole_ratio b }

  three_read : three (by_number y) texts ≡ Fit channels
  three_read =
      ap₂ (λ p q. together p q (by_number y (Number (decimal b) ∷ []))) (channel_read y r given.red) (channel_read y g given.green)
      ∙ ap (together (Fit (whole_ratio r)) (Fit (whole_ratio g))) (channel_read y b given.blue)

  alike_read : alike y texts ≡ Fit channels
  alike_read = first_fits (three (by_number y) texts) _ channels three_read

  color_is : with_alpha channels a ≡ Rgb r g b a
  color_is =
      ap₂ (λ m n. Rgb m n (channel (whole_ratio b)) (clamped 1 a)) (channel_kept r given.red) (channel_kept g given.green)
      ∙ ap₂ (λ n v. Rgb r g n v) (channel_kept b given.blue) (part_kept a given.alpha)

  -- ---- a colour that hides what is behind it

  abbrev opaque_text : List Token
  opaque_text = Function (codes "rgb") ∷ Number (decimal r) ∷ Comma ∷ White ∷ Number (decimal g) ∷ Comma ∷ White ∷ Number (decimal b) ∷ Close Round ∷ []

  abbrev opaque_inside : List Token
  opaque_inside = Number (decimal r) ∷ Comma ∷ White ∷ Number (decimal g) ∷ Comma ∷ White ∷ Number (decimal b) ∷ []

  opaque_reads : color y opaque_text ≡ or_else (legacy y texts) (modern y (parts is_solidus opaque_inside))
  unfolding color parts
  opaque_reads = refl

  opaque_read : a ≡ opaque → color y opaque_text ≡ Fit (Rgb r g b a)
  opaque_read e =
      opaque_reads
      ∙ ap (λ m. or_else (without_alpha m) (modern y (parts is_solidus opaque_inside))) alike_read
      ∙ ap (λ v. Fit (with_alpha channels v)) (sym e)
      ∙ ap Fit color_is

  -- ---- a colour with its alpha

  abbrev alpha_inside : List Token → List Token
  alpha_inside value = Number (decimal r) ∷ Comma ∷ White ∷ Number (decimal g) ∷ Comma ∷ White ∷ Number (decimal b) ∷ Comma ∷ White ∷ value

  abbrev alpha_color : List Token → List Token
  alpha_color value = Function (codes "rgba") ∷ alpha_inside (value ++ Close Round ∷ [])

  abbrev alpha_texts : List Token → List (List Token)
  alpha_texts value = (Number (decimal r) ∷ []) ∷ (Number (decimal g) ∷ []) ∷ (Number (decimal b) ∷ []) ∷ value ∷ []

  abbrev Reads : List Token → Type 0
  Reads value = color y (alpha_color value) ≡ or_else (legacy y (alpha_texts value)) (modern y (parts is_solidus (alpha_inside value)))

  token_reads : (n : List ℕ) → Reads (Number n ∷ [])
  unfolding color parts
  token_reads n = refl

  quotient_reads : (n m : List ℕ) → Reads (Function (codes "calc") ∷ Number n ∷ White ∷ Delim 0x2f ∷ White ∷ Number m ∷ Close Round ∷ [])
  unfolding color parts
  quotient_reads n m = refl

  alpha_reads : (d : Bool) → has_decimal a ≡ d → Reads (number_alone a units.Number)
  alpha_reads true e = rw e (token_reads (frac_text a))
  alpha_reads false e = rw e (quotient_reads (signed_decimal a.top) (decimal a.bottom))

  alpha_is : alpha y (number_alone a units.Number) ≡ Fit a
  alpha_is = ap (λ m. or_else m (by_percentage 1 y (number_alone a units.Number)))
      (measured_read quantity.Number All y a units.Number refl tt refl (record { small = given.alpha.small; inside = tt }))

  alpha_read : color y (alpha_color (number_alone a units.Number)) ≡ Fit (Rgb r g b a)
  alpha_read =
      alpha_reads (has_decimal a) refl
      ∙ ap₂ (λ m o. or_else (both with_alpha m o) (modern y (parts is_solidus (alpha_inside (number_alone a units.Number))))) alike_read alpha_is
      ∙ ap Fit color_is

  rgb_read : (o : Bool) → is_opaque a ≡ o → color y (color_text (Rgb r g b a)) ≡ Fit (Rgb r g b a)
  rgb_read true e = ap (color y) (rw e refl) ∙ opaque_read (equal_is a (whole_ratio 1) e)
  rgb_read false e = ap (color y) (text e ∙ ap alpha_color (number_text a units.Number)) ∙ alpha_read
    where
      text : is_opaque a ≡ false → color_text (Rgb r g b a) ≡ alpha_color (calc_text (tree.Num a units.Number))
      text e = rw e refl

current_read : (y : Context) → color y (color_text Current) ≡ Fit Current
unfolding color
current_read y = refl

given_read : (y : Context) (c : Color) → IsGiven c → color y (color_text c) ≡ Fit c
given_read y Current h = current_read y
given_read y (Rgb r g b a) h = rgb_read y r g b a h (is_opaque a) refl

-- the text of a colour that a list gives is that colour
pub color_read : (x y : Context) (ts : List Token) (c : Color) → color x ts ≡ Fit c → color y (color_text c) ≡ Fit c
color_read x y ts c h = given_read y c (color_given x ts c h)
