-- Hexadecimal colours, by their digits behind the `#` (CSS Color 4, "The RGB Hexadecimal Notations: #RRGGBB").
use Rattle.std.specs.Prelude.{ℕ, ◌+◌, ◌*◌, pos, List, [], ◌∷◌, Option, Some, None, if◌then◌else◌}
use Rattle.std.specs.List.{list_all}
use Rattle.std.specs.Char.{is_ascii_hexdigit, digit_value}
use Rattle.cv_spec_ratio.specs.Ratio.{Ratio, ratio}
use Rattle.cv_color.specs.declared.color.Color.{Color}
use Rattle.cv_color.specs.declared.color.Color.TheVariants.{Rgb}

-- the byte of two digits
abbrev pub byte : ℕ → ℕ → ℕ
byte high low = digit_value high * 16 + digit_value low

-- a single digit is doubled
abbrev pub twice : ℕ → ℕ
twice digit = byte digit digit

-- the alpha of a byte
abbrev pub alpha : ℕ → Ratio
alpha n = ratio (pos n) 255

-- 3, 4, 6 or 8 digits
abbrev pub of_digits : List ℕ → Option Color
of_digits (r ∷ g ∷ b ∷ []) = Some (Rgb (twice r) (twice g) (twice b) (ratio (pos 1) 1))
of_digits (r ∷ g ∷ b ∷ a ∷ []) = Some (Rgb (twice r) (twice g) (twice b) (alpha (twice a)))
of_digits (r ∷ r' ∷ g ∷ g' ∷ b ∷ b' ∷ []) = Some (Rgb (byte r r') (byte g g') (byte b b') (ratio (pos 1) 1))
of_digits (r ∷ r' ∷ g ∷ g' ∷ b ∷ b' ∷ a ∷ a' ∷ []) = Some (Rgb (byte r r') (byte g g') (byte b b') (alpha (byte a a')))
of_digits _ = None

abbrev pub hex : List ℕ → Option Color
hex text = if list_all is_ascii_hexdigit text then of_digits text else None
