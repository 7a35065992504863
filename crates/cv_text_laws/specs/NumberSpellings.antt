-- The spelling of a number, by its shape (CSS Syntax 3, "Tokenizer Railroad Diagrams", the number token): an optional sign;
-- digits, or digits `.` digits, or `.` digits; and an exponent, if there is one: `e` or `E`, an optional sign and digits.
use Rattle.std.specs.Prelude.{ℕ, true, false, ◌≡◌, ◌<◌, ◌⊎◌, List, [], ◌∷◌, ◌++◌, length, take, drop, All}
use Rattle.std.specs.Char.{is_ascii_digit}
use Rattle.cv_spec_text.specs.Characters.{full_stop, is_sign}
use Rattle.cv_spec_text.specs.Numbers.{number_length, begins_number, is_exponent_sign}
use Rattle.cv_text_laws.specs.Fronts.{IsLongest}

-- one digit or more
pub record AreDigits (text : List ℕ) : Type 0 where
  pub some : 0 < length text
  pub digits : All (λ c. is_ascii_digit c ≡ true) text

-- `+`, `-` or nothing
abbrev pub IsOptionalSign : List ℕ → Type 0
IsOptionalSign text = (text ≡ []) ⊎ ((c : ℕ) × (text ≡ c ∷ []) × (is_sign c ≡ true))

-- digits or none, `.` and digits
pub record IsPointed (text : List ℕ) : Type 0 where
  pub whole : List ℕ
  pub fraction : List ℕ
  pub parts : text ≡ whole ++ full_stop ∷ fraction
  pub whole_digits : All (λ c. is_ascii_digit c ≡ true) whole
  pub fraction_digits : AreDigits fraction

-- `e` or `E`, an optional sign and digits
pub record IsExponent (text : List ℕ) : Type 0 where
  pub mark : ℕ
  pub sign : List ℕ
  pub digits : List ℕ
  pub parts : text ≡ mark ∷ (sign ++ digits)
  pub marked : is_exponent_sign mark ≡ true
  pub signed : IsOptionalSign sign
  pub are_digits : AreDigits digits

pub record IsNumberSpelling (text : List ℕ) : Type 0 where
  pub sign : List ℕ
  pub mantissa : List ℕ
  pub exponent : List ℕ
  pub parts : text ≡ sign ++ (mantissa ++ exponent)
  pub signed : IsOptionalSign sign
  pub number : AreDigits mantissa ⊎ IsPointed mantissa
  pub power : (exponent ≡ []) ⊎ IsExponent exponent

-- A number that is read is the longest spelling of a number that stands there.
abbrev pub NumbersAreLongest : Type 0
NumbersAreLongest =
    (text : List ℕ) → begins_number text ≡ true
    → IsLongest (λ front rest. IsNumberSpelling front) (take (number_length text) text) (drop (number_length text) text)

-- Where no number is read, no spelling of one stands.
abbrev pub NoNumberIsMissed : Type 0
NoNumberIsMissed = (front rest : List ℕ) → begins_number (front ++ rest) ≡ false → IsNumberSpelling front → ⊥
