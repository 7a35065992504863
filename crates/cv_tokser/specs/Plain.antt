-- Names that are written as they stand (CSSOM, "Serialize an identifier").
use Rattle.std.specs.Prelude.{ℕ, Bool, false, not, ◌==◌, ◌&&◌, ◌||◌, List, ◌∷◌}
use Rattle.std.specs.List.{list_all}
use Rattle.std.specs.Char.{is_ascii_alphabetic, is_ascii_digit}
use Rattle.cv_spec_text.specs.Characters.{hyphen, begins_by}
use Rattle.cv_spec_text.specs.Numbers.{is_exponent_sign}

-- an ASCII letter, a digit, `-` or `_`
abbrev pub is_plain_byte : ℕ → Bool
is_plain_byte byte = is_ascii_alphabetic byte || is_ascii_digit byte || byte == hyphen || byte == 0x5F

-- a letter that isn't `e`, with which an exponent begins
abbrev pub is_plain_first : ℕ → Bool
is_plain_first byte = is_ascii_alphabetic byte && not (is_exponent_sign byte)

abbrev pub begins_hyphens : List ℕ → Bool
begins_hyphens (first ∷ second ∷ rest) = first == hyphen && second == hyphen
begins_hyphens _ = false

-- only such bytes, and such a letter or two hyphens in front
abbrev pub is_plain : List ℕ → Bool
is_plain bytes = (begins_by is_plain_first bytes || begins_hyphens bytes) && list_all is_plain_byte bytes
