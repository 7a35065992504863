-- What a number's spelling means. The spelling itself is that of the tokeniser, read in bytes.
use Rattle.std.specs.Prelude.{ℕ, Bool, true, false, ◌+◌, ◌-◌, ◌*◌, ◌^◌, ◌==◌, ◌&&◌, nat_lt, List, [], ◌∷◌, length, take, drop, Result, Err, if◌then◌else◌}
use Rattle.std.specs.List.{filter}
use Rattle.std.specs.Char.{is_ascii_digit}
use Rattle.std.specs.Str.Parse.{digits_value}
use Rattle.cv_spec_text.specs.Characters.{hyphen, begins_with}
use Rattle.cv_spec_text.specs.Numbers.{digits_length, sign_length, fraction_length, mantissa_length, number_length}
use Rattle.cv_spec_ratio.specs.Ratio.{Ratio, ratio, signed}
use Rattle.cv_frac.specs.declared.error.FracErr.{FracErr}
use Rattle.cv_frac.specs.declared.error.FracErr.TheVariants.{NotDecimal, Range}
use Rattle.cv_frac.specs.Bounded.{bounded}

-- the whole text is one number
abbrev pub is_number : List ℕ → Bool
is_number text = nat_lt 0 (number_length text) && (number_length text == length text)

-- the text behind its sign
abbrev pub unsigned_part : List ℕ → List ℕ
unsigned_part text = drop (sign_length text) text

-- all digits before the exponent
abbrev pub mantissa_digits : List ℕ → List ℕ
mantissa_digits text = filter is_ascii_digit (take (mantissa_length text) text)

-- how many of them stand behind the point
abbrev pub fraction_digits : List ℕ → ℕ
fraction_digits text = fraction_length (drop (digits_length text) text) - 1

-- the size of the exponent, or 0 where there is none
abbrev pub exponent_size : List ℕ → ℕ
exponent_size text = digits_value 10 (filter is_ascii_digit (drop (mantissa_length text) text))

-- the exponent has a minus
abbrev pub is_exponent_negative : List ℕ → Bool
is_exponent_negative text = begins_with hyphen (drop 1 (drop (mantissa_length text) text))

-- a size of digits, times a power of ten and over another
abbrev pub scaled : Bool → ℕ → ℕ → ℕ → Ratio
scaled negative size up down = ratio (signed negative (size * 10 ^ up)) (10 ^ down)

-- with an exponent, of which the first argument tells the sign
abbrev pub with_exponent : Bool → Bool → ℕ → ℕ → ℕ → Ratio
with_exponent true negative size places exponent = scaled negative size 0 (places + exponent)
with_exponent false negative size places exponent = scaled negative size exponent places

abbrev pub exact_unsigned : Bool → List ℕ → Ratio
exact_unsigned negative text =
    with_exponent (is_exponent_negative text) negative (digits_value 10 (mantissa_digits text)) (fraction_digits text) (exponent_size text)

-- the fraction that a number means
abbrev pub exact : List ℕ → Ratio
exact text = exact_unsigned (begins_with hyphen text) (unsigned_part text)

-- ---- the digits that count

abbrev pub zero_digit : ℕ
zero_digit = 0x30

-- the digits without zeros at the front
unfoldable pub without_leading : List ℕ → List ℕ
without_leading [] = []
without_leading (d ∷ ds) = if d == zero_digit then without_leading ds else d ∷ ds

unfoldable pub unless_all_zero : ℕ → List ℕ → List ℕ
unless_all_zero d [] = if d == zero_digit then [] else d ∷ []
unless_all_zero d (e ∷ es) = d ∷ e ∷ es

-- the digits without zeros at the end
unfoldable pub without_trailing : List ℕ → List ℕ
without_trailing [] = []
without_trailing (d ∷ ds) = unless_all_zero d (without_trailing ds)

-- the digits without zeros at both ends
unfoldable pub significant : List ℕ → List ℕ
significant ds = without_trailing (without_leading ds)

-- at most 36 digits count
abbrev pub is_short : List ℕ → Bool
is_short text = nat_lt (length (significant (mantissa_digits (unsigned_part text)))) 37

-- the answer to a literal
abbrev pub literal_of : List ℕ → Result Ratio FracErr
literal_of text = if is_number text then (if is_short text then bounded (exact text) else Err Range) else Err NotDecimal
