-- What is read of JSON: the value of bytes, whole numbers, and texts. JSON itself is that of `serde_json`.
use Rattle.std.specs.Prelude.{ℕ, List, Option, None, Some, if◌then◌else◌, nat_le, option_and_then, option_map}
use Rattle.std.specs.Str.{chars, is_utf8}
use Rattle.serde_json.specs.Data.{Data}
use Rattle.serde_json.specs.Find.{as_number, as_str, as_u64}
use Rattle.serde_json.specs.Read.{read}

-- The value that the bytes are read as, none where they are no UTF-8, are no JSON or are nested deeper than 127.
unfoldable pub json_of : List ℕ → Option Data
json_of bytes = if is_utf8 bytes then read bytes else None

-- a whole number that is written in digits alone: no sign, point or exponent
abbrev pub whole_of : Data → Option ℕ
whole_of d = option_and_then as_u64 (as_number d)

-- such a number, up to the most
abbrev pub whole_up_to : ℕ → Option Data → Option ℕ
whole_up_to most d = option_and_then (λ n. if nat_le n most then Some n else None) (option_and_then whole_of d)

-- the characters of a string
abbrev pub text_of : Option Data → Option (List ℕ)
text_of d = option_map chars (option_and_then as_str d)
