-- Whole numbers read back.
use Rattle.std.specs.Prelude.{ℕ, suc, Bool, true, false, ◌*◌, ◌+◌, ◌-◌, ◌/◌, ◌<◌, ◌≤◌, ◌^◌, ℤ, pos, negsuc, ◌+ℤ◌, ◌*ℤ◌, unsigned_abs, int_lt, List, [], ◌∷◌, Ok, Err, encode_utf8_all, decimal, if◌then◌else◌}
use Rattle.std.specs.Fmt.{signed_decimal}
use Rattle.std.specs.Int.{int_div_euclid}
use Rattle.std.proofs.Common.{◌≡◌, refl, ◌∙◌, ap, ap₂, subst, arith}
use Rattle.std.proofs.lemmas.Int.{ints}
use Rattle.std.proofs.Math.Nat.{div-lt_iff_lt-mul}
use Rattle.cv_spec_text.specs.declared.token.Token.{Token}
use Rattle.cv_spec_text.specs.declared.token.Token.TheVariants as tokens
use Rattle.cv_spec_ratio.specs.Ratio.{Ratio, ratio}
use Rattle.cv_spec_ratio.proofs.Whole.{whole_top, whole_bottom}
use Rattle.cv_frac.specs.Bounded.{in_bounds}
use Rattle.cv_frac.specs.declared.error.FracErr.TheVariants as error
use Rattle.cv_frac.specs.Literal.{is_number, is_short, exact}
use Rattle.cv_frac.specs.Rounded.{half_up}
use Rattle.cv_calc.specs.declared.context.Context.{Context}
use Rattle.cv_calcread.specs.Literals.{exact_number, is_in_range, is_read}
use Rattle.cv_calc_roundtrip.proofs.Decimals.{decimal_digits, small_numbers, whole_spelt}
use Rattle.cv_calc_roundtrip.proofs.Digits.{AreDigits, digits_cons}
use Rattle.cv_calc_roundtrip.proofs.Numerals.{Means, whole_means}
use Rattle.cv_numeric.specs.declared.matched.Matched.TheVariants.{Out, Fit}
use Rattle.cv_numeric.specs.declared.quantity.Quantity.TheVariants as quantity
use Rattle.cv_numeric.specs.declared.quantity.Range.TheVariants.{All}
use Rattle.cv_numeric.specs.Matched.{mapped}
use Rattle.cv_numeric.specs.Numeric.{measured, is_digits, is_whole, whole_number, integer}
use Rattle.cv_value_roundtrip.proofs.Given.{fit_same, if_fits, if_in_range, mapped_fits}
use Rattle.cv_value_roundtrip.proofs.Measured.{whole, measured_given}

-- the number has at most 63 bits
abbrev pub IsSmall : ℤ → Type 0
IsSmall z = unsigned_abs z < 2 ^ 63

-- ---- halves upwards

below_most : (a d : ℕ) → a < (2 ^ 63 - 1) * d → 0 < d → a / d < 2 ^ 63 - 1
below_most a d h p = (div-lt_iff_lt-mul p).1 h

not_above_most : (a d : ℕ) → a < 2 ^ 63 * d → 0 < d → a / d < 2 ^ 63
not_above_most a d h p = (div-lt_iff_lt-mul p).1 h

quotient_small : (z : ℤ) (d : ℕ) → 0 < d → unsigned_abs z < 2 ^ 63 * d → (int_lt z (pos 0) ≡ true → unsigned_abs z ≤ (2 ^ 63 - 1) * d) → IsSmall (int_div_euclid z (pos d))
quotient_small (pos a) d p h k = let small : a / d < 2 ^ 63 = not_above_most a d h p in omega (arith, ints, small)
quotient_small (negsuc a) d p h k =
    let small : a / d < 2 ^ 63 - 1 = below_most a d (omega (arith, k refl)) p in omega (arith, ints, small)

doubled_small : (t : ℤ) (b : ℕ) → IsSmall t → 0 < b → unsigned_abs (t *ℤ pos 2 +ℤ pos b) < 2 ^ 63 * (b * 2)
doubled_small t b h p = omega (arith, ints)

doubled_below : (t : ℤ) (b : ℕ) → IsSmall t → 0 < b → int_lt (t *ℤ pos 2 +ℤ pos b) (pos 0) ≡ true → unsigned_abs (t *ℤ pos 2 +ℤ pos b) ≤ (2 ^ 63 - 1) * (b * 2)
doubled_below t b h p n = omega (arith, ints, n)

pub half_small : (v : Ratio) → in_bounds v ≡ true → IsSmall (half_up v)
unfolding half_up
half_small v h =
    let (top, bottom) = small_numbers v h in
    quotient_small (v.top *ℤ pos 2 +ℤ pos v.bottom) (v.bottom * 2) (omega (arith, v.positive)) (doubled_small v.top v.bottom top v.positive) (doubled_below v.top v.bottom top v.positive)

half_of : (z : ℤ) → int_div_euclid (z *ℤ pos 2 +ℤ pos 1) (pos 2) ≡ z
half_of (pos n) = ap (λ z. int_div_euclid z (pos 2)) (odd n) ∙ ap pos (half_odd n)
  where
    odd : (n : ℕ) → pos n *ℤ pos 2 +ℤ pos 1 ≡ pos (n * 2 + 1)
    odd n = omega (arith, ints)

    half_odd : (n : ℕ) → (n * 2 + 1) / 2 ≡ n
    half_odd n = omega arith
half_of (negsuc n) = ap (λ z. int_div_euclid z (pos 2)) (odd n) ∙ ap negsuc (half_even n)
  where
    odd : (n : ℕ) → negsuc n *ℤ pos 2 +ℤ pos 1 ≡ negsuc (n * 2)
    odd n = omega (arith, ints)

    half_even : (n : ℕ) → (n * 2) / 2 ≡ n
    half_even n = omega arith

pub half_whole : (z : ℤ) → half_up (ratio z 1) ≡ z
unfolding half_up
half_whole z = ap₂ (λ t b. int_div_euclid (t *ℤ pos 2 +ℤ pos b) (pos (b * 2))) (whole_top z) (whole_bottom z) ∙ half_of z

-- ---- spellings

read_by : (a b c : Bool) (v : Ratio) → is_read (if a then (if b then (if c then Ok v else Err error.Range) else Err error.Range) else Err error.NotDecimal) ≡ true → c ≡ true
read_by true true true v h = refl
read_by true true false v h = cc
read_by true false c v h = cc
read_by false b c v h = cc

pub literal_small : (n : List ℕ) → is_in_range n ≡ true → in_bounds (exact_number n) ≡ true
unfolding exact_number is_in_range
literal_small n h = read_by (is_number (encode_utf8_all n)) (is_short (encode_utf8_all n)) (in_bounds (exact (encode_utf8_all n))) (exact (encode_utf8_all n)) h

digits_are : (ds : List ℕ) → AreDigits ds → is_digits ds ≡ true
digits_are [] h = refl
digits_are (d ∷ ds) h = let (here, there) = digits_cons d ds h in rw here (digits_are ds there)

signed_digits : (z : ℤ) → IsSmall z → is_digits (signed_decimal z) ≡ true
signed_digits (pos n) h = digits_are (decimal n) (decimal_digits n (omega (arith, h)))
signed_digits (negsuc n) h = digits_are (decimal (suc n)) (decimal_digits (suc n) (omega (arith, h)))

whole_is : (z : ℤ) → IsSmall z → is_whole (signed_decimal z) ≡ true
whole_is z h = ap is_digits (whole_spelt z (ratio z 1) h refl).bytes ∙ signed_digits z h

-- ---- whole numbers

whole_given : (n : List ℕ) (z : ℤ) → whole_number n ≡ Fit z → IsSmall z
whole_given n z h =
    let (digits, fits) = if_fits (is_whole n) (if is_in_range n then Fit (half_up (exact_number n)) else Out) z h in
    let (small, same) = if_in_range (is_in_range n) (Fit (half_up (exact_number n))) z fits in
    subst IsSmall (fit_same (half_up (exact_number n)) z same) (half_small (exact_number n) (literal_small n small))

rounded_given : (x : Context) (ts : List Token) (z : ℤ) → mapped half_up (measured quantity.Number All x ts) ≡ Fit z → IsSmall z
rounded_given x ts z h =
    let (v, is, same) = mapped_fits half_up (measured quantity.Number All x ts) z h in
    subst IsSmall same (half_small v (measured_given quantity.Number All (whole refl) x ts v is).small)

pub integer_given : (x : Context) (ts : List Token) (z : ℤ) → integer x ts ≡ Fit z → IsSmall z
integer_given x (tokens.Number n ∷ []) z h = whole_given n z h
integer_given x ts z h = rounded_given x ts z h

pub integer_read : (y : Context) (z : ℤ) → IsSmall z → integer y (tokens.Number (signed_decimal z) ∷ []) ≡ Fit z
integer_read y z h =
    let digits : is_whole (signed_decimal z) ≡ true = whole_is z h in
    let m : Means (signed_decimal z) (ratio z 1) = whole_means z h in
    let small : is_in_range (signed_decimal z) ≡ true = m.in_range in
    rw (digits, small) (ap Fit (ap half_up m.exact ∙ half_whole z))
