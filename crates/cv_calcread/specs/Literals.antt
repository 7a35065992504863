-- The words, numbers and units of tokens.
use Rattle.std.specs.Prelude.{ℕ, Bool, true, false, List, map, bytes_eq, encode_utf8_all, Result, Ok, Err}
use Rattle.std.specs.Char.{to_ascii_lowercase}
use Rattle.cv_spec_ratio.specs.Ratio.{Ratio, zero_ratio}
use Rattle.cv_frac.specs.declared.error.FracErr.{FracErr}
use Rattle.cv_frac.specs.Literal.{exact, literal_of}

-- the name is the word, without ASCII case
abbrev pub is_word : List ℕ → List ℕ → Bool
is_word name word = bytes_eq (map to_ascii_lowercase name) word

-- the fraction that a spelling means
unfoldable pub exact_number : List ℕ → Ratio
exact_number spelling = exact (encode_utf8_all spelling)

abbrev pub is_read : Result Ratio FracErr → Bool
is_read (Ok r) = true
is_read (Err e) = false

-- the number is in range: its fraction is in bounds, and it has no more digits than count
unfoldable pub is_in_range : List ℕ → Bool
is_in_range spelling = is_read (literal_of (encode_utf8_all spelling))

abbrev pub or_zero : Result Ratio FracErr → Ratio
or_zero (Ok r) = r
or_zero (Err e) = zero_ratio

-- what is kept of a number while it isn't known whether all are in range: its fraction, or zero where it is out of range
unfoldable pub kept : List ℕ → Ratio
kept spelling = or_zero (literal_of (encode_utf8_all spelling))
