-- What is known of a colour that a list gives: its channels are bytes, and its alpha lies from 0 to 1.
use Rattle.std.specs.Prelude.{ℕ, Bool, true, false, ◌<◌, codes, List, [], ◌∷◌, map, Some, None, Option, option_map, if◌then◌else◌}
use Rattle.std.specs.List.{list_all}
use Rattle.std.specs.Char.{is_ascii_hexdigit}
use Rattle.std.proofs.Common.{◌≡◌, refl, ap, subst, arith}
use Rattle.cv_spec_text.specs.Keywords.{is_word}
use Rattle.cv_spec_text.specs.declared.token.Token.{Token}
use Rattle.cv_spec_text.specs.declared.token.Token.TheVariants.{Ident, Hash, Function}
use Rattle.cv_spec_ratio.specs.Ratio.{Ratio}
use Rattle.cv_frac.specs.Bounded.{in_bounds}
use Rattle.cv_component.specs.Parts.{is_comma, is_solidus, parts, trim}
use Rattle.cv_calc.specs.declared.context.Context.{Context}
use Rattle.cv_simplify.proofs.InRange.{and_true}
use Rattle.cv_numeric.specs.declared.matched.Matched.{Matched}
use Rattle.cv_numeric.specs.declared.matched.Matched.TheVariants.{No, Out, Fit}
use Rattle.cv_numeric.specs.declared.quantity.Quantity.TheVariants as quantity
use Rattle.cv_numeric.specs.declared.quantity.Range.TheVariants.{All}
use Rattle.cv_numeric.specs.Matched.{both}
use Rattle.cv_numeric.specs.Numeric.{percentage}
use Rattle.cv_color.specs.declared.color.Color.{Color}
use Rattle.cv_color.specs.declared.color.Color.TheVariants.{Current, Rgb}
use Rattle.cv_color.specs.Hex.{byte, twice, of_digits, hex}
use Rattle.cv_color.specs.Names as names
use Rattle.cv_color.specs.Names.{named, coded, transparent}
use Rattle.cv_color.proofs.Bytes.{channel_small}
use Rattle.cv_color.proofs.Digits.{digit_small}
use Rattle.cv_colorread.specs.declared.channels.Channels.{Channels}
use Rattle.cv_colorread.specs.Channels.{hundredths, part_of, by_number, by_percentage}
use Rattle.cv_colorread.specs.Colors.{with_alpha, opaque, alpha, alike, mixed, legacy, modern, arguments, is_rgb, inside, arguments_in, fitting, color}
use Rattle.cv_value_roundtrip.proofs.Given.{fit_same, if_fits, if_in_range, both_fit, either_fits}
use Rattle.cv_value_roundtrip.proofs.Measured.{measured_given, whole}
use Rattle.cv_value_roundtrip.proofs.Parts.{IsPart, whole_part, clamped_part, byte_part}

pub record AreChannels (r g b : ℕ) (a : Ratio) : Type 0 where
  pub red : r < 256
  pub green : g < 256
  pub blue : b < 256
  pub alpha : IsPart a

abbrev pub IsGiven : Color → Type 0
IsGiven Current = Unit {0}
IsGiven (Rgb r g b a) = AreChannels r g b a

-- ---- names

opaque_given : (code : ℕ) → IsGiven (names.opaque code)
opaque_given code = record { red = omega arith; green = omega arith; blue = omega arith; alpha = whole_part 1 (omega arith) }

transparent_given : IsGiven transparent
transparent_given = record { red = omega arith; green = omega arith; blue = omega arith; alpha = whole_part 0 (omega arith) }

some_same : (a b : Color) → Some a ≡ Some b → a ≡ b
some_same a b h = ap (from_some a) h
  where
    from_some : Color → Option Color → Color
    from_some other None = other
    from_some other (Some c) = c

coded_given : (o : Option ℕ) (c : Color) → option_map names.opaque o ≡ Some c → IsGiven c
coded_given None c h = absurd cc
coded_given (Some code) c h = subst IsGiven (some_same (names.opaque code) c h) (opaque_given code)

named_by : (t u : Bool) (o : Option ℕ) (c : Color) → (if t then Some transparent else (if u then Some Current else option_map names.opaque o)) ≡ Some c → IsGiven c
named_by true u o c h = subst IsGiven (some_same transparent c h) transparent_given
named_by false true o c h = subst IsGiven (some_same Current c h) tt
named_by false false o c h = coded_given o c h

named_given : (name : List ℕ) (c : Color) → named name ≡ Some c → IsGiven c
named_given name c h = named_by (is_word (codes "transparent") name) (is_word (codes "currentcolor") name) (coded name) c h

-- ---- hexadecimal digits

abbrev IsDigit : ℕ → Type 0
IsDigit d = is_ascii_hexdigit d ≡ true

byte_small : (high low : ℕ) → IsDigit high → IsDigit low → byte high low < 256
byte_small high low h k = let first = digit_small high h in let second = digit_small low k in omega (arith, first, second)

hex_given : (ds : List ℕ) (c : Color) → list_all is_ascii_hexdigit ds ≡ true → of_digits ds ≡ Some c → IsGiven c
hex_given [] c h e = absurd cc
hex_given (d1 ∷ []) c h e = absurd cc
hex_given (d1 ∷ d2 ∷ []) c h e = absurd cc
hex_given (d1 ∷ d2 ∷ d3 ∷ []) c h e =
    let p1 = and_true _ _ h in let p2 = and_true _ _ p1.1 in let p3 = and_true _ _ p2.1 in
    subst IsGiven (some_same _ c e) (record { red = byte_small d1 d1 p1.0 p1.0; green = byte_small d2 d2 p2.0 p2.0; blue = byte_small d3 d3 p3.0 p3.0; alpha = whole_part 1 (omega arith) })
hex_given (d1 ∷ d2 ∷ d3 ∷ d4 ∷ []) c h e =
    let p1 = and_true _ _ h in let p2 = and_true _ _ p1.1 in let p3 = and_true _ _ p2.1 in let p4 = and_true _ _ p3.1 in
    subst IsGiven (some_same _ c e) (record { red = byte_small d1 d1 p1.0 p1.0; green = byte_small d2 d2 p2.0 p2.0; blue = byte_small d3 d3 p3.0 p3.0; alpha = byte_part (twice d4) (byte_small d4 d4 p4.0 p4.0) })
hex_given (d1 ∷ d2 ∷ d3 ∷ d4 ∷ d5 ∷ []) c h e = absurd cc
hex_given (d1 ∷ d2 ∷ d3 ∷ d4 ∷ d5 ∷ d6 ∷ []) c h e =
    let p1 = and_true _ _ h in let p2 = and_true _ _ p1.1 in let p3 = and_true _ _ p2.1 in let p4 = and_true _ _ p3.1 in let p5 = and_true _ _ p4.1 in let p6 = and_true _ _ p5.1 in
    subst IsGiven (some_same _ c e) (record { red = byte_small d1 d2 p1.0 p2.0; green = byte_small d3 d4 p3.0 p4.0; blue = byte_small d5 d6 p5.0 p6.0; alpha = whole_part 1 (omega arith) })
hex_given (d1 ∷ d2 ∷ d3 ∷ d4 ∷ d5 ∷ d6 ∷ d7 ∷ []) c h e = absurd cc
hex_given (d1 ∷ d2 ∷ d3 ∷ d4 ∷ d5 ∷ d6 ∷ d7 ∷ d8 ∷ []) c h e =
    let p1 = and_true _ _ h in let p2 = and_true _ _ p1.1 in let p3 = and_true _ _ p2.1 in let p4 = and_true _ _ p3.1 in let p5 = and_true _ _ p4.1 in let p6 = and_true _ _ p5.1 in
    let p7 = and_true _ _ p6.1 in let p8 = and_true _ _ p7.1 in
    subst IsGiven (some_same _ c e) (record { red = byte_small d1 d2 p1.0 p2.0; green = byte_small d3 d4 p3.0 p4.0; blue = byte_small d5 d6 p5.0 p6.0; alpha = byte_part (byte d7 d8) (byte_small d7 d8 p7.0 p8.0) })
hex_given (d1 ∷ d2 ∷ d3 ∷ d4 ∷ d5 ∷ d6 ∷ d7 ∷ d8 ∷ d9 ∷ ds) c h e = absurd cc

hex_by : (b : Bool) (ds : List ℕ) (c : Color) → list_all is_ascii_hexdigit ds ≡ b → (if b then of_digits ds else None) ≡ Some c → IsGiven c
hex_by true ds c h e = hex_given ds c h e
hex_by false ds c h e = absurd cc

-- ---- functions

abbrev IsSmall : Ratio → Type 0
IsSmall a = in_bounds a ≡ true

part_small : (whole : ℕ) (m : Matched Ratio) (a : Ratio) → part_of whole m ≡ Fit a → IsSmall a
part_small n No a h = absurd cc
part_small n Out a h = absurd cc
part_small n (Fit v) a h =
    let (small, same) = if_in_range (in_bounds (hundredths n v)) (Fit (hundredths n v)) a h in
    subst IsSmall (fit_same (hundredths n v) a same) small

alpha_small : (x : Context) (ts : List Token) (a : Ratio) → alpha x ts ≡ Fit a → IsSmall a
alpha_small x ts a h =
    either_fits IsSmall (by_number x ts) (by_percentage 1 x ts) a
    (λ k. (measured_given quantity.Number All (whole refl) x ts a k).small)
    (λ k. part_small 1 (percentage x ts) a k) h

channels_given : (c : Channels) (a : Ratio) → IsSmall a → IsGiven (with_alpha c a)
channels_given c a small = record { red = channel_small c.red; green = channel_small c.green; blue = channel_small c.blue; alpha = clamped_part a small }

both_given : (m : Matched Channels) (o : Matched Ratio) (c : Color) → ((a : Ratio) → o ≡ Fit a → IsSmall a) → both with_alpha m o ≡ Fit c → IsGiven c
both_given m o c f h =
    let (channels, a, is, also, same) = both_fit with_alpha m o c h in
    subst IsGiven same (channels_given channels a (f a also))

opaque_small : (a : Ratio) → Fit opaque ≡ Fit a → IsSmall a
opaque_small a h = subst IsSmall (fit_same opaque a h) (whole_part 1 (omega arith)).small

legacy_given : (x : Context) (ps : List (List Token)) (c : Color) → legacy x ps ≡ Fit c → IsGiven c
legacy_given x (r ∷ g ∷ b ∷ a ∷ []) c h = both_given (alike x (r ∷ g ∷ b ∷ [])) (alpha x a) c (alpha_small x a) h
legacy_given x ps c h = both_given (alike x ps) (Fit opaque) c opaque_small h

modern_given : (x : Context) (ps : List (List Token)) (c : Color) → modern x ps ≡ Fit c → IsGiven c
modern_given x [] c h = absurd cc
modern_given x (channels ∷ []) c h = both_given (mixed x channels) (Fit opaque) c opaque_small h
modern_given x (channels ∷ a ∷ []) c h = both_given (mixed x channels) (alpha x (trim a)) c (alpha_small x (trim a)) h
modern_given x (channels ∷ a ∷ p ∷ ps) c h = absurd cc

arguments_given : (x : Context) (ts : List Token) (c : Color) → arguments x ts ≡ Fit c → IsGiven c
arguments_given x ts c h =
    either_fits IsGiven (legacy x (map trim (parts is_comma ts))) (modern x (parts is_solidus ts)) c (legacy_given x (map trim (parts is_comma ts)) c) (modern_given x (parts is_solidus ts) c) h

inside_given : (x : Context) (o : Option (List Token)) (c : Color) → arguments_in x o ≡ Fit c → IsGiven c
inside_given x None c h = absurd cc
inside_given x (Some ts) c h = arguments_given x ts c h

-- ---- colours

fitting_given : (o : Option Color) (c : Color) → fitting o ≡ Fit c → o ≡ Some c
fitting_given None c h = cc
fitting_given (Some d) c h = ap Some (fit_same d c h)

pub color_given : (x : Context) (ts : List Token) (c : Color) → color x ts ≡ Fit c → IsGiven c
unfolding color
color_given x (Ident name ∷ []) c h = named_given name c (fitting_given (named name) c h)
color_given x (Hash digits id ∷ []) c h = hex_by (list_all is_ascii_hexdigit digits) digits c refl (fitting_given (hex digits) c h)
color_given x (Function name ∷ ts) c h =
    let (rgb, fits) = if_fits (is_rgb name) (arguments_in x (inside (Function name ∷ ts))) c h in
    inside_given x (inside (Function name ∷ ts)) c fits
color_given x ts c h = absurd cc
