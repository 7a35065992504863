-- A name sequence, by its shape (CSS Syntax 3, "Tokenizer Railroad Diagrams", the ident token), and a run of whitespace.
use Rattle.std.specs.Prelude.{ℕ, true, ◌≡◌, ◌⊎◌, List, [], ◌∷◌, take, drop, All}
use Rattle.cv_spec_text.specs.Characters.{is_whitespace, is_ident_code_point}
use Rattle.cv_spec_text.specs.Names.{name_length}
use Rattle.cv_spec_text.specs.Urls.{whitespace_length}
use Rattle.cv_text_laws.specs.Fronts.{IsLongest, IsSequence}
use Rattle.cv_text_laws.specs.EscapeSpellings.{IsEscape}

-- an ident code point, or an escape as long as one stands there
abbrev pub IsNamePiece : List ℕ → List ℕ → Type 0
IsNamePiece piece rest = ((c : ℕ) × (piece ≡ c ∷ []) × (is_ident_code_point c ≡ true)) ⊎ IsLongest IsEscape piece rest

-- ident code points and escapes
abbrev pub IsName : List ℕ → List ℕ → Type 0
IsName text rest = IsSequence IsNamePiece text rest

-- A name sequence that is read is the longest that stands there.
abbrev pub NamesAreLongest : Type 0
NamesAreLongest = (text : List ℕ) → IsLongest IsName (take (name_length text) text) (drop (name_length text) text)

-- whitespace and nothing else
abbrev pub IsWhitespace : List ℕ → List ℕ → Type 0
IsWhitespace text rest = All (λ c. is_whitespace c ≡ true) text

-- A run of whitespace that is read is the longest that stands there.
abbrev pub WhitespaceIsLongest : Type 0
WhitespaceIsLongest = (text : List ℕ) → IsLongest IsWhitespace (take (whitespace_length text) text) (drop (whitespace_length text) text)
