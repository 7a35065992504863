-- The names that a list refers to (Cascading Variables 1, "Using Cascading Variables: the var() notation").
use Rattle.std.specs.Prelude.{ℕ, if◌then◌else◌, List, [], ◌∷◌, ◌++◌, fold, bytes_eq}
use Rattle.std.specs.List.{list_any}
use Rattle.cv_spec_text.specs.declared.token.Token.{Token}
use Rattle.cv_spec_element.specs.Pieces.{Pieces, finish, token, reference, reference_or}
use Rattle.cv_var.specs.Flat.{FlatPiece, flat_token, flat_reference}

-- the names of the references, in the order of the list; those in a fallback come behind the name before it
abbrev pub names_of : Pieces (List ℕ) Token → List (List ℕ)
names_of finish = []
names_of (token t rest) = names_of rest
names_of (reference n rest) = n ∷ names_of rest
names_of (reference_or n fallback rest) = n ∷ (names_of fallback ++ names_of rest)

-- the names of the references among flat pieces
abbrev pub names_in : List FlatPiece → List (List ℕ)
names_in [] = []
names_in (flat_token t ∷ rest) = names_in rest
names_in (flat_reference n fallback ∷ rest) = n ∷ names_in rest

-- the names, and behind them this one if it isn't among them
abbrev pub with_name : List (List ℕ) → List ℕ → List (List ℕ)
with_name names name = if list_any (bytes_eq name) names then names else names ++ name ∷ []

-- each name once, at its first place
abbrev pub firsts : List (List ℕ) → List (List ℕ)
firsts names = fold with_name [] names
