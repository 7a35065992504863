-- The places of the declarations as the nodes of a graph.
use Rattle.std.specs.Prelude.{ℕ, ◌≡◌, ◌≢◌, ◌<◌, ◌⊎◌, List, [], ◌∷◌, ◌++◌, length, Option, Some, None, Contains, slice_get}
use Rattle.cv_spec_text.specs.declared.token.Token.{Token}
use Rattle.cv_spec_element.specs.Pieces.{Pieces, RefersTo}
use Rattle.cv_var.specs.References.{pieces_of}
use Rattle.cv_valuation.specs.declared.key.Key.{Key}
use Rattle.cv_valuation.specs.declared.key.Key.TheVariants.{Custom}
use Rattle.cv_props.specs.declared.decls.Decl.{Decl}
use Rattle.cv_props.specs.Winners.{Declarations, declaration_of}
use Rattle.cv_element.specs.Settling.{key_at}

-- the place is that of one of these names
pub record IsPlaceOf (decls : Declarations) (references : List (List ℕ)) (place : ℕ) : Type 0 where
  pub below : place < length decls
  pub name : List ℕ
  pub named : key_at decls place ≡ Custom name
  pub refers : Contains references name

-- the declaration at the one place refers to the key at the other
pub record RefersAt (decls : Declarations) (from to : ℕ) : Type 0 where
  pub below : to < length decls
  pub key : Key
  pub declaration : Decl
  pub at : slice_get decls from ≡ Some (key, declaration)
  pub name : List ℕ
  pub named : key_at decls to ≡ Custom name
  pub refers : RefersTo (pieces_of declaration.value) name

-- the row goes on with the place of the reference, if it has one
abbrev pub Connects : Declarations → List ℕ → List ℕ → List ℕ → Type 0
Connects decls reference row row' =
    ((to : ℕ) × (to < length decls) × (key_at decls to ≡ Custom reference) × (row' ≡ row ++ to ∷ []))
    ⊎ (((place : ℕ) → place < length decls → key_at decls place ≢ Custom reference) × (row' ≡ row))

-- the place of the name, or none where it isn't declared
abbrev pub IsFound : Declarations → List ℕ → Option ℕ → Type 0
IsFound decls name None = (place : ℕ) → place < length decls → key_at decls place ≢ Custom name
IsFound decls name (Some place) = (place < length decls) × (key_at decls place ≡ Custom name)
