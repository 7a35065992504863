-- Declaration values (Cascading Variables 1, "Custom Property Value Syntax").
use Rattle.std.specs.Prelude.{ℕ, Bool, true, false, not, ◌==◌, if◌then◌else◌, List, [], ◌∷◌, Option, Some, None, option_map, is_none}
use Rattle.std.proofs.Common.{suc}
use Rattle.cv_spec_text.specs.Characters.{exclamation_mark, reverse_solidus}
use Rattle.cv_spec_text.specs.declared.token.Bracket.{Bracket}
use Rattle.cv_spec_text.specs.declared.token.Token.{Token}
use Rattle.cv_spec_text.specs.declared.token.Token.TheVariants.{BadStr, BadUrl, Delim, Semicolon, Close}
use Rattle.cv_component.specs.Nesting.{is_innermost, nesting_after}

abbrev pub is_nested : List Bracket → Bool
is_nested [] = false
is_nested (inner ∷ outer) = true

-- the token may stand in a declaration value where these brackets are open
abbrev pub is_allowed : List Bracket → Token → Bool
is_allowed nesting BadStr = false
is_allowed nesting BadUrl = false
is_allowed nesting (Delim c) = if c == exclamation_mark then is_nested nesting else not (c == reverse_solidus)
is_allowed nesting Semicolon = is_nested nesting
is_allowed nesting (Close bracket) = is_innermost nesting bracket
is_allowed nesting _ = true

-- the place of the first token that may not stand in a declaration value
abbrev pub bad_place_within : List Bracket → List Token → Option ℕ
bad_place_within nesting [] = None
bad_place_within nesting (token ∷ rest) =
    if is_allowed nesting token then option_map suc (bad_place_within (nesting_after nesting token) rest) else Some 0

unfoldable pub bad_place : List Token → Option ℕ
bad_place tokens = bad_place_within [] tokens

abbrev pub is_value : List Token → Bool
is_value tokens = is_none (bad_place tokens)
