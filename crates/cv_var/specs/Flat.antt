-- The pieces of a list in one flat list: behind a reference come the pieces of its fallback, if it has one, and their number is told.
use Rattle.std.specs.Prelude.{ℕ, ◌+◌, ◌≤◌, List, [], ◌∷◌, ◌++◌, length, Option, Some, None}
use Rattle.cv_spec_text.specs.declared.token.Token.{Token}
use Rattle.cv_spec_text.specs.Splits.{IsSpelt}
use Rattle.cv_spec_element.specs.Pieces.{Pieces, finish, token, reference, reference_or}
use Rattle.cv_var.specs.declared.flat.Part.{Part}
use Rattle.cv_var.specs.declared.flat.Part.TheVariants as part

pub data FlatPiece : Type 0 where
  flat_token : Token → FlatPiece
  flat_reference : List ℕ → Option ℕ → FlatPiece

abbrev pub flattened : Pieces (List ℕ) Token → List FlatPiece
flattened finish = []
flattened (token t rest) = flat_token t ∷ flattened rest
flattened (reference n rest) = flat_reference n None ∷ flattened rest
flattened (reference_or n fallback rest) =
    flat_reference n (Some (length (flattened fallback))) ∷ (flattened fallback ++ flattened rest)

-- the flat piece that a part is
abbrev pub flat : Part → FlatPiece
flat (part.Token t) = flat_token t.now
flat (part.Reference name fallback) = flat_reference name.now fallback

-- the fallback of the piece of this number ends within so many pieces
abbrev pub EndsWithin : ℕ → ℕ → FlatPiece → Type 0
EndsWithin count number (flat_token t) = Unit {0}
EndsWithin count number (flat_reference n None) = Unit {0}
EndsWithin count number (flat_reference n (Some size)) = number + 1 + size ≤ count

-- a token of the pieces is one of the tokens of some text
abbrev pub IsSpeltPiece : FlatPiece → Type 0
IsSpeltPiece (flat_token t) = IsSpelt t
IsSpeltPiece (flat_reference n fallback) = Unit {0}
