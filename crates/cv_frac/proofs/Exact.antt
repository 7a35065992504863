-- What a text is read as.
use Rattle.std.specs.Prelude.{ℕ, Bool, true, false, ◌*◌, ◌<◌, ◌≤◌, ◌^◌, ◌==◌, ◌&&◌, nat_lt, List, length, take, drop, ◌-◌, Option, Some, None, Result, Err}
use Rattle.std.specs.Str.Parse.{digits_value}
use Rattle.std.proofs.Common.{◌≡◌, refl, sym, ◌∙◌, ap, ap₂, subst, arith, length-drop}
use Rattle.std.proofs.lemmas.Bool.Decides.{nat_tests}
use Rattle.cv_spec_text.specs.Characters.{hyphen, begins_with}
use Rattle.cv_spec_text.specs.Numbers.{number_length, sign_length, mantissa_length}
use Rattle.cv_spec_ratio.specs.Ratio.{Ratio}
use Rattle.std.specs.List.{filter}
use Rattle.std.specs.Char.{is_ascii_digit}
use Rattle.std.proofs.lemmas.List.{take_all}
use Rattle.cv_frac.specs.declared.error.FracErr.{FracErr}
use Rattle.cv_frac.specs.declared.error.FracErr.TheVariants.{Range}
use Rattle.cv_frac.specs.declared.literal.Digits.{Digits}
use Rattle.cv_frac.specs.Bounded.{bounded}
use Rattle.cv_frac.specs.Literal.{literal_of, is_number, is_short, exact, significant, mantissa_digits, unsigned_part, with_exponent, is_exponent_negative, fraction_digits, exponent_size}
use Rattle.cv_frac.specs.Digits.{no_digits, with_digits}
use Rattle.cv_frac.proofs.Significant.{Outcome, outcome, all_digits}

pub number_here : (text : List ℕ) (n : ℕ) → n ≡ number_length text → (n ≡ 0 → ⊥) → n ≡ length text → is_number text ≡ true
number_here text n e some whole = go (number_length text) (length text) (sym e ∙ whole) (λ none. some (e ∙ none))
  where
    go : (m k : ℕ) → m ≡ k → (m ≡ 0 → ⊥) → (nat_lt 0 m && (m == k)) ≡ true
    go m k e some = grind (arith, nat_tests)

module _ (text : List ℕ) where
  abbrev digits : List ℕ
  digits = mantissa_digits (unsigned_part text)

  outcome_of : (o : Option Digits) → with_digits no_digits digits ≡ o → Outcome o (length (significant digits)) (digits_value 10 digits)
  outcome_of o e = subst (λ (p : Option Digits). Outcome p (length (significant digits)) (digits_value 10 digits)) e (outcome digits (all_digits (take (mantissa_length (unsigned_part text)) (unsigned_part text))))

  pub read_small : (read : Digits) → with_digits no_digits digits ≡ Some read → read.number < 10 ^ 36
  read_small read e = (outcome_of (Some read) e).small

  module _ (number : is_number text ≡ true) where
    pub literal_long : with_digits no_digits digits ≡ None → Err Range ≡ literal_of text
    literal_long e =
        let long : is_short text ≡ false = many (length (significant digits)) (outcome_of None e) in rw (number, long) refl
      where
        many : (n : ℕ) → 36 < n → nat_lt n 37 ≡ false
        many n h = grind (arith, nat_tests)

    pub literal_short : (read : Digits) {r : Result Ratio FracErr} → with_digits no_digits digits ≡ Some read →
        r ≡ bounded (with_exponent (is_exponent_negative (unsigned_part text)) (begins_with hyphen text) (read.number * 10 ^ read.zeros) (fraction_digits (unsigned_part text)) (exponent_size (unsigned_part text))) →
        r ≡ literal_of text
    literal_short read e is =
        let ends = outcome_of (Some read) e in
        let short : is_short text ≡ true = few (length (significant digits)) ends.short in
        is
        ∙ ap (λ n. bounded (with_exponent (is_exponent_negative (unsigned_part text)) (begins_with hyphen text) n (fraction_digits (unsigned_part text)) (exponent_size (unsigned_part text)))) ends.value
        ∙ sym (shown short)
      where
        few : (n : ℕ) → n ≤ 36 → nat_lt n 37 ≡ true
        few n h = grind (arith, nat_tests)

        shown : is_short text ≡ true → literal_of text ≡ bounded (exact text)
        shown short = rw (number, short) refl

-- ---- by the parts of the text, as they were taken

rest_is : (text : List ℕ) (k : ℕ) → take (length text - k) (drop k text) ≡ drop k text
rest_is text k = take_all (length text - k) (drop k text) (omega (arith, length-drop k text))

module _ (text : List ℕ) (s m : ℕ) (sign : s ≡ sign_length text) where
  abbrev unsigned : List ℕ
  unsigned = take (length text - s) (drop s text)

  unsigned_is : unsigned ≡ unsigned_part text
  unsigned_is = rest_is text s ∙ ap (λ k. drop k text) sign

  module _ (mantissa : m ≡ mantissa_length unsigned) (o : Option Digits) (counted : o ≡ with_digits no_digits (filter is_ascii_digit (take m unsigned))) where
    same_digits : with_digits no_digits (mantissa_digits (unsigned_part text)) ≡ o
    same_digits =
        sym (counted ∙ ap (λ k. with_digits no_digits (filter is_ascii_digit (take k unsigned))) mantissa
        ∙ ap (λ u. with_digits no_digits (filter is_ascii_digit (take (mantissa_length u) u))) unsigned_is)

    pub small_read : (read : Digits) → o ≡ Some read → read.number < 10 ^ 36
    small_read read e = read_small text read (same_digits ∙ e)

    pub long_read : is_number text ≡ true → o ≡ None → Err Range ≡ literal_of text
    long_read number e = literal_long text number (same_digits ∙ e)

    pub short_read : is_number text ≡ true → (read : Digits) → o ≡ Some read → (places : ℕ) (negative : Bool) {r : Result Ratio FracErr} →
        places ≡ fraction_digits unsigned → negative ≡ begins_with hyphen text →
        r ≡ bounded (with_exponent (begins_with hyphen (drop 1 (take (length unsigned - m) (drop m unsigned)))) negative (read.number * 10 ^ read.zeros) places
        (digits_value 10 (filter is_ascii_digit (take (length unsigned - m) (drop m unsigned))))) →
        r ≡ literal_of text
    short_read number read e places negative ep en is =
        literal_short text number read (same_digits ∙ e)
        (is ∙ ap₂ (λ p n. exponent_at p n (take (length unsigned - m) (drop m unsigned))) ep en
        ∙ ap (exponent_at (fraction_digits unsigned) (begins_with hyphen text)) (rest_is unsigned m ∙ ap (λ k. drop k unsigned) mantissa)
        ∙ ap (λ u. exponent_at (fraction_digits u) (begins_with hyphen text) (drop (mantissa_length u) u)) unsigned_is)
      where
        exponent_at : ℕ → Bool → List ℕ → Result Ratio FracErr
        exponent_at p n v = bounded (with_exponent (begins_with hyphen (drop 1 v)) n (read.number * 10 ^ read.zeros) p (digits_value 10 (filter is_ascii_digit v)))
