-- An escape, by its shape (CSS Syntax 3, "Tokenizer Railroad Diagrams", the escape): `\` and a code point that is neither
-- an LF nor a hex digit; or `\`, one to six hex digits and one whitespace, if there is one; or `\` where the text ends.
use Rattle.std.specs.Prelude.{ℕ, true, false, ◌≡◌, ◌<◌, ◌≤◌, ◌==◌, ◌⊎◌, List, [], ◌∷◌, ◌++◌, length, take, drop, All}
use Rattle.std.specs.Char.{is_ascii_hexdigit}
use Rattle.cv_spec_text.specs.Characters.{line_feed, reverse_solidus, is_whitespace}
use Rattle.cv_spec_text.specs.Names.{begins_escape, escape_length}
use Rattle.cv_text_laws.specs.Fronts.{IsLongest}

pub record IsPlainEscape (text : List ℕ) : Type 0 where
  pub code_point : ℕ
  pub parts : text ≡ reverse_solidus ∷ code_point ∷ []
  pub no_hex : is_ascii_hexdigit code_point ≡ false
  pub no_line_feed : (code_point == line_feed) ≡ false

-- one whitespace or none
abbrev pub IsOptionalWhitespace : List ℕ → Type 0
IsOptionalWhitespace text = (text ≡ []) ⊎ ((c : ℕ) × (text ≡ c ∷ []) × (is_whitespace c ≡ true))

pub record IsHexEscape (text : List ℕ) : Type 0 where
  pub digits : List ℕ
  pub space : List ℕ
  pub parts : text ≡ reverse_solidus ∷ (digits ++ space)
  pub some : 0 < length digits
  pub most : length digits ≤ 6
  pub hex : All (λ c. is_ascii_hexdigit c ≡ true) digits
  pub spaced : IsOptionalWhitespace space

-- an escape before this rest
abbrev pub IsEscape : List ℕ → List ℕ → Type 0
IsEscape text rest = IsPlainEscape text ⊎ (IsHexEscape text ⊎ ((text ≡ reverse_solidus ∷ []) × (rest ≡ [])))

-- An escape that is read is the longest escape that stands there.
abbrev pub EscapesAreLongest : Type 0
EscapesAreLongest = (text : List ℕ) → begins_escape text ≡ true → IsLongest IsEscape (take (escape_length text) text) (drop (escape_length text) text)

-- Where no escape is read, none stands.
abbrev pub NoEscapeIsMissed : Type 0
NoEscapeIsMissed = (front rest : List ℕ) → begins_escape (front ++ rest) ≡ false → IsEscape front rest → ⊥
