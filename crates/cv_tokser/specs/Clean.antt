-- Which lists of tokens are read again as they were (CSS Syntax 3, "Serialization").
use Rattle.std.specs.Prelude.{Bool, true, false, ◌≡◌, ◌==◌, ◌&&◌, List, [], ◌∷◌, ⊤, All}
use Rattle.cv_spec_text.specs.declared.token.Token.{Token}
use Rattle.cv_spec_text.specs.declared.token.Token.TheVariants.{Function, Str, BadStr, BadUrl, Delim, White}
use Rattle.cv_spec_text.specs.Characters.{reverse_solidus}
use Rattle.cv_spec_text.specs.Urls.{is_url_name}
use Rattle.cv_spec_text.specs.Tokens.{tokens}
use Rattle.cv_spec_text.specs.Splits.{IsSpelt}
use Rattle.cv_spec_text.specs.Printing.{is_white, bytes}

-- a bad string, a bad url or a `\`
abbrev pub is_bad : Token → Bool
is_bad BadStr = true
is_bad BadUrl = true
is_bad (Delim c) = c == reverse_solidus
is_bad _ = false

-- White comes next
abbrev pub begins_white : List Token → Bool
begins_white [] = false
begins_white (token ∷ rest) = is_white token

-- a string is the next token but White
abbrev pub begins_string : List Token → Bool
begins_string (White ∷ rest) = begins_string rest
begins_string (Str text ∷ rest) = true
begins_string _ = false

-- a function whose name is `url`, without ASCII case
abbrev pub is_url_function : Token → Bool
is_url_function (Function name) = is_url_name name
is_url_function _ = false

-- No token is bad, no two White stand together, and each function `url` has a string as its next token but White.
abbrev pub IsClean : List Token → Type 0
IsClean [] = ⊤
IsClean (a ∷ rest) =
    (is_bad a ≡ false) × ((is_white a && begins_white rest) ≡ false) × (is_url_function a ≡ true → begins_string rest ≡ true) × IsClean rest

-- A clean list of spelt tokens is read again as it was printed.
abbrev pub CleanListsReadBack : Type 0
CleanListsReadBack = (list : List Token) → IsClean list → All IsSpelt list → tokens (bytes list) ≡ list
