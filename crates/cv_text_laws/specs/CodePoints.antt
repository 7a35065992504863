-- What is spelt: the code point that an escape stands for (CSS Syntax 3, "Consume an escaped code point"), and the code
-- points of a name, piece by piece ("Consume an ident sequence").
use Rattle.std.specs.Prelude.{ℕ, true, false, ◌≡◌, List, [], ◌∷◌, ◌++◌}
use Rattle.cv_spec_text.specs.Characters.{reverse_solidus, replacement_character, is_ident_code_point, begins_by}
use Rattle.cv_spec_text.specs.Names.{begins_escape, code_point_of, hex_value, escape_value, name_value}
use Rattle.cv_text_laws.specs.Fronts.{IsLongest}
use Rattle.cv_text_laws.specs.EscapeSpellings.{IsPlainEscape, IsHexEscape, IsEscape}

-- `\` and a code point stand for the code point.
abbrev pub PlainEscapesStandForThemselves : Type 0
PlainEscapesStandForThemselves = (escape rest : List ℕ) (is : IsPlainEscape escape) → escape_value (escape ++ rest) ≡ is.code_point

-- `\` and hex digits, as many as stand there, stand for the code point of their number.
abbrev pub HexEscapesStandForTheirNumber : Type 0
HexEscapesStandForTheirNumber =
    (escape rest : List ℕ) (is : IsHexEscape escape) → IsLongest IsEscape escape rest → escape_value (escape ++ rest) ≡ code_point_of (hex_value is.digits)

-- `\` where the text ends stands for U+FFFD.
abbrev pub LastEscapeStandsForReplacement : Type 0
LastEscapeStandsForReplacement = escape_value (reverse_solidus ∷ []) ≡ replacement_character

-- An ident code point in a name stands for itself.
abbrev pub NamesKeepCodePoints : Type 0
NamesKeepCodePoints = (c : ℕ) (rest : List ℕ) → is_ident_code_point c ≡ true → name_value (c ∷ rest) ≡ c ∷ name_value rest

-- An escape in a name gives the code point that it stands for.
abbrev pub NamesReadEscapes : Type 0
NamesReadEscapes = (escape rest : List ℕ) → IsLongest IsEscape escape rest → name_value (escape ++ rest) ≡ escape_value (escape ++ rest) ∷ name_value rest

-- Nothing else belongs to a name.
abbrev pub NamesEnd : Type 0
NamesEnd = (text : List ℕ) → begins_by is_ident_code_point text ≡ false → begins_escape text ≡ false → name_value text ≡ []
