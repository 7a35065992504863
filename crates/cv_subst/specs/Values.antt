-- What a map gives for a name.
use Rattle.std.specs.Prelude.{ℕ, List, Option, bytes_eq}
use Rattle.std.specs.Map.{lookup}
use Rattle.cv_spec_text.specs.declared.token.Token.{Token}

-- the tokens that stand with the name, if it is there
abbrev pub value_in : List (List ℕ × List Token) → List ℕ → Option (List Token)
value_in entries name = lookup (bytes_eq name) entries
