-- The names that stand behind a `var(` of a list, at any depth, in the order of the list (Cascading Variables 1, "Using Cascading
-- Variables: the var() notation").
use Rattle.std.specs.Prelude.{◌≡◌, ◌↔◌, ℕ, true, if◌then◌else◌, List, [], ◌∷◌, ◌++◌}
use Rattle.cv_spec_text.specs.declared.token.Token.{Token}
use Rattle.cv_spec_text.specs.declared.token.Token.TheVariants.{Ident, White}
use Rattle.cv_spec_element.specs.Pieces.{RefersTo}
use Rattle.cv_var.specs.Names.{names_of}
use Rattle.cv_var.specs.References.{is_var, pieces_of}

-- the name at the front, behind whitespace, if one stands there
abbrev pub name_behind : List Token → List (List ℕ)
name_behind (White ∷ rest) = name_behind rest
name_behind (Ident name ∷ rest) = name ∷ []
name_behind _ = []

-- the names behind each `var(`
abbrev pub names_behind : List Token → List (List ℕ)
names_behind [] = []
names_behind (t ∷ rest) = if is_var t then name_behind rest ++ names_behind rest else names_behind rest

-- the name stands behind a `var(` of the list
pub record StandsInVar (tokens : List Token) (name : List ℕ) : Type 0 where
  pub front : List Token
  pub token : Token
  pub rest : List Token
  pub at : tokens ≡ front ++ token ∷ rest
  pub var : is_var token ≡ true
  pub named : name_behind rest ≡ name ∷ []

-- The references of a list are the `var()` in it: a list refers to a name exactly where the name stands behind a `var(`, and the
-- names of its references are those, in the order of the list.
pub record ReferencesAreFound (tokens : List Token) : Type 0 where
  pub refers : (name : List ℕ) → RefersTo (pieces_of tokens) name ↔ StandsInVar tokens name
  pub names : names_of (pieces_of tokens) ≡ names_behind tokens
