-- The top level of a list of tokens, where no bracket is open.
use Rattle.std.specs.Prelude.{ℕ, ◌+◌, Bool, true, false, ◌||◌, if◌then◌else◌, min, List, [], ◌∷◌, length, drop, reverse}
use Rattle.std.proofs.Common.{suc}
use Rattle.cv_spec_text.specs.declared.token.Bracket.{Bracket}
use Rattle.cv_spec_text.specs.declared.token.Bracket.TheVariants.{Curly}
use Rattle.cv_spec_text.specs.declared.token.Token.{Token}
use Rattle.cv_spec_text.specs.declared.token.Token.TheVariants.{White, Semicolon, Open, Close}
use Rattle.cv_component.specs.Nesting.{is_kind, nesting_after}

abbrev pub is_semicolon : Token → Bool
is_semicolon Semicolon = true
is_semicolon _ = false

abbrev pub opens_curly : Token → Bool
opens_curly (Open bracket) = is_kind bracket Curly
opens_curly _ = false

abbrev pub closes_curly : Token → Bool
closes_curly (Close bracket) = is_kind bracket Curly
closes_curly _ = false

abbrev pub ends_prelude : Token → Bool
ends_prelude token = is_semicolon token || opens_curly token

-- how many tokens stand before the first at the top level that is such a one, where these brackets are open
abbrev pub top_length_within : (Token → Bool) → List Bracket → List Token → ℕ
top_length_within stops nesting [] = 0
top_length_within stops [] (token ∷ rest) = if stops token then 0 else suc (top_length_within stops (nesting_after [] token) rest)
top_length_within stops (inner ∷ outer) (token ∷ rest) = suc (top_length_within stops (nesting_after (inner ∷ outer) token) rest)

-- how many tokens stand before the first at the top level that is such a one
unfoldable pub top_length : (Token → Bool) → List Token → ℕ
top_length stops tokens = top_length_within stops [] tokens

abbrev pub begins : (Token → Bool) → List Token → Bool
begins test [] = false
begins test (token ∷ rest) = test token

-- how many tokens a block in curly brackets takes, with its closing bracket if there is one; 0 where none begins
abbrev pub curly_length : List Token → ℕ
curly_length tokens = if begins opens_curly tokens then min (length tokens) (top_length closes_curly (drop 1 tokens) + 2) else 0

-- the list without whitespace at its front
abbrev pub trim_front : List Token → List Token
trim_front [] = []
trim_front (White ∷ rest) = trim_front rest
trim_front (token ∷ rest) = token ∷ rest

-- the list without whitespace at its end
abbrev pub trim_end : List Token → List Token
trim_end tokens = reverse (trim_front (reverse tokens))
