-- A number that is 0 is in range, and its sign tells whether another is below 0.
use Rattle.std.proofs.Common.{◌≡◌, ◌<◌, ◌≤◌, ℕ, zero, suc, ◌+◌, ◌*◌, ◌^◌, ◌/◌, ℤ, pos, Bool, true, false, List, [], ◌∷◌, take, refl, sym, ◌∙◌, ap, arith}
use Rattle.std.specs.Prelude.{◌&&◌, not, cond, neg_ℤ, unsigned_abs, int_lt, encode_utf8_all}
use Rattle.std.specs.List.{filter}
use Rattle.std.specs.Char.{is_ascii_digit, digit_value}
use Rattle.std.specs.Ordering.{int_eq}
use Rattle.std.specs.Str.Parse.{digits_value, digits_value_after}
use Rattle.std.proofs.lemmas.Bool.Decides.{nat_tests, Decides-int_eq}
use Rattle.std.proofs.Math.Nat.{div-mul_cancel, zero-div}
use Rattle.cv_spec_text.specs.Characters.{hyphen, begins_with}
use Rattle.cv_spec_ratio.specs.Gcd.{gcd, gcd_steps}
use Rattle.cv_spec_ratio.specs.Cancelled.{gcd_is, unsigned_abs-int_div}
use Rattle.cv_spec_ratio.specs.Ratio.{Ratio, ratio, signed}
use Rattle.cv_spec_ratio.proofs.Gcd.{gcd_comm}
use Rattle.cv_spec_ratio.proofs.LowestTerms.{ratio-top}
use Rattle.cv_frac.specs.Bounded.{in_bounds}
use Rattle.cv_frac.specs.Literal.{is_number, is_short, unsigned_part, mantissa_digits, fraction_digits, exponent_size, is_exponent_negative, without_leading, without_trailing, significant, with_exponent, exact, literal_of}
use Rattle.cv_spec_text.specs.Numbers.{mantissa_length}
use Rattle.cv_exact.specs.Zero.{is_zero}
use Rattle.cv_calcread.specs.Literals.{exact_number, is_in_range, is_read}
use Rattle.cv_numeric.specs.Signs.{SignsAreTold}

-- ---- digits

after_ge : (n : ℕ) (ds : List ℕ) → n ≤ digits_value_after 10 n ds
after_ge n [] = omega arith
after_ge n (d ∷ ds) = omega (arith, after_ge (n * 10 + digit_value d) ds)

zero_is : (c : ℕ) → is_ascii_digit c ≡ true → digit_value c ≡ 0 → c ≡ 0x30
zero_is c digit null = grind (arith, nat_tests)

zero_passed : (c : ℕ) (ds : List ℕ) → c ≡ 0x30 → without_leading ds ≡ [] → without_leading (c ∷ ds) ≡ []
unfolding without_leading
zero_passed c ds is none = rw is none

-- digits that write 0 are zeros
zeros : (n : ℕ) (text : List ℕ) → digits_value_after 10 n (filter is_ascii_digit text) ≡ 0 → without_leading (filter is_ascii_digit text) ≡ []
unfolding without_leading
zeros n [] e = refl
zeros n (c ∷ cs) e = chosen (λ m. zeros m cs) (is_ascii_digit c) refl e
  where
    chosen : ((m : ℕ) → digits_value_after 10 m (filter is_ascii_digit cs) ≡ 0 → without_leading (filter is_ascii_digit cs) ≡ []) → (b : Bool) → is_ascii_digit c ≡ b → digits_value_after 10 n (cond b (c ∷ filter is_ascii_digit cs) (filter is_ascii_digit cs)) ≡ 0 → without_leading (cond b (c ∷ filter is_ascii_digit cs) (filter is_ascii_digit cs)) ≡ []
    chosen later true digit e = zero_passed c (filter is_ascii_digit cs) (zero_is c digit (omega (arith, after_ge (n * 10 + digit_value c) (filter is_ascii_digit cs), e))) (later (n * 10 + digit_value c) e)
    chosen later false digit e = later n e

short_zeros : (text : List ℕ) → digits_value 10 (mantissa_digits (unsigned_part text)) ≡ 0 → is_short text ≡ true
unfolding significant without_trailing
short_zeros text e = rw (zeros 0 (take (mantissa_length (unsigned_part text)) (unsigned_part text)) e) refl

-- ---- fractions

nothing_times : (g : ℕ) → 0 * g ≡ 0
nothing_times g = omega arith

size_zero : (p : ℤ) (q : ℕ) → 0 < q → (ratio p q).top ≡ pos 0 → unsigned_abs p ≡ 0
size_zero p q h e =
    let g : ℕ = gcd (unsigned_abs p) q in
    let size : unsigned_abs p / g ≡ 0 = sym (unsigned_abs-int_div p g) ∙ ap unsigned_abs (sym (ratio-top p q h) ∙ e) in
    sym (div-mul_cancel g (gcd_is (unsigned_abs p) q).0) ∙ ap (λ n. n * g) size ∙ nothing_times g

-- a fraction that is 0 has the bottom 1
zero_bottom : (r : Ratio) → r.top ≡ pos 0 → r.bottom ≡ 1
unfolding gcd gcd_steps
zero_bottom r e = gcd_comm r.bottom 0 ∙ sym (ap (λ z. gcd (unsigned_abs z) r.bottom) e) ∙ r.lowest

zero_bounded : (r : Ratio) → r.top ≡ pos 0 → in_bounds r ≡ true
zero_bounded r e = rw (e, zero_bottom r e) refl

-- the sign of a fraction
sign_of : (m : ℕ) → not (int_eq (neg_ℤ (pos m)) (pos 0)) ≡ int_lt (neg_ℤ (pos m)) (pos 0)
sign_of zero = refl
sign_of (suc m) = refl

not_below : (m : ℕ) → false ≡ int_lt (pos m) (pos 0)
not_below m = grind (arith, nat_tests)

null_sign : (m : ℕ) → m ≡ 0 → not (int_eq (pos m) (pos 0)) ≡ int_lt (pos m) (pos 0)
null_sign m e = rw e refl

sign_told : (minus : Bool) (s q : ℕ) → (minus && not (is_zero (ratio (signed minus s) q))) ≡ int_lt (ratio (signed minus s) q).top (pos 0)
unfolding ratio
sign_told false s zero = refl
sign_told false s (suc q) = not_below (s / gcd s (suc q))
sign_told true s zero = refl
sign_told true zero (suc q) = null_sign (0 / gcd 0 (suc q)) (zero-div (gcd 0 (suc q)))
sign_told true (suc s) (suc q) = sign_of (suc s / gcd (suc s) (suc q))

-- ---- spellings

-- a spelling as a size over a power of ten
pub record Sized (minus : Bool) (size : ℕ) (r : Ratio) : Type 0 where
  pub up : ℕ
  pub down : ℕ
  pub is : r ≡ ratio (signed minus (size * 10 ^ up)) (10 ^ down)

sized_as : (below minus : Bool) (size places exponent : ℕ) → Sized minus size (with_exponent below minus size places exponent)
sized_as true minus size places exponent = record { up = 0; down = places + exponent; is = refl }
sized_as false minus size places exponent = record { up = exponent; down = places; is = refl }

sized : (text : List ℕ) → Sized (begins_with hyphen text) (digits_value 10 (mantissa_digits (unsigned_part text))) (exact text)
sized text = sized_as (is_exponent_negative (unsigned_part text)) (begins_with hyphen text) (digits_value 10 (mantissa_digits (unsigned_part text))) (fraction_digits (unsigned_part text)) (exponent_size (unsigned_part text))

abs_signed : (minus : Bool) (n : ℕ) → unsigned_abs (signed minus n) ≡ n
abs_signed true zero = refl
abs_signed true (suc n) = refl
abs_signed false n = refl

factor_zero : (n m : ℕ) → 0 < m → n * m ≡ 0 → n ≡ 0
factor_zero zero m h e = refl
factor_zero (suc n) m h e = absurd (omega (arith, e))

power_pos : (k : ℕ) → 0 < 10 ^ k
power_pos zero = omega arith
power_pos (suc k) = omega (arith, power_pos k)

-- a spelling that means 0 has the size 0
zero_size : (text : List ℕ) → (exact text).top ≡ pos 0 → digits_value 10 (mantissa_digits (unsigned_part text)) ≡ 0
zero_size text e =
    let s = sized text in
    let size : ℕ = digits_value 10 (mantissa_digits (unsigned_part text)) in
    let minus : Bool = begins_with hyphen text in
    let top : (ratio (signed minus (size * 10 ^ s.up)) (10 ^ s.down)).top ≡ pos 0 = ap (λ (r : Ratio). r.top) (sym s.is) ∙ e in
    factor_zero size (10 ^ s.up) (power_pos s.up) (sym (abs_signed minus (size * 10 ^ s.up)) ∙ size_zero (signed minus (size * 10 ^ s.up)) (10 ^ s.down) (power_pos s.down) top)

zero_read : (text : List ℕ) → is_number text ≡ true → (exact text).top ≡ pos 0 → is_read (literal_of text) ≡ true
zero_read text number e = rw (number, short_zeros text (zero_size text e), zero_bounded (exact text) e) refl

null_told : (text : List ℕ) → is_number text ≡ true → (is_read (literal_of text) && is_zero (exact text)) ≡ is_zero (exact text)
null_told text number = chosen (is_zero (exact text)) refl
  where
    chosen : (b : Bool) → is_zero (exact text) ≡ b → (is_read (literal_of text) && b) ≡ b
    chosen true e = ap (λ c. c && true) (zero_read text number ((Decides-int_eq (exact text).top (pos 0)).0 e))
    chosen false e = last (is_read (literal_of text))
      where
        last : (c : Bool) → (c && false) ≡ false
        last true = refl
        last false = refl

negative_told : (text : List ℕ) → is_number text ≡ true → (begins_with hyphen text && not (is_read (literal_of text) && is_zero (exact text))) ≡ int_lt (exact text).top (pos 0)
negative_told text number =
    let s = sized text in
    let minus : Bool = begins_with hyphen text in
    let size : ℕ = digits_value 10 (mantissa_digits (unsigned_part text)) in
    ap (λ b. minus && not b) (null_told text number)
    ∙ ap (λ (r : Ratio). minus && not (is_zero r)) s.is
    ∙ sign_told minus (size * 10 ^ s.up) (10 ^ s.down)
    ∙ ap (λ (r : Ratio). int_lt r.top (pos 0)) (sym s.is)

pub signs : SignsAreTold
unfolding is_in_range exact_number
signs = record {
  null_is = λ n number. null_told (encode_utf8_all n) number;
  negative_is = λ n number. negative_told (encode_utf8_all n) number;
}
