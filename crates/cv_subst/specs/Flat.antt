-- Substitution on flat pieces.
use Rattle.std.specs.Prelude.{ℕ, List, [], ◌∷◌, Option, Some, None, unwrap_or, Result, Ok, Err}
use Rattle.std.proofs.Common.{zero, suc}
use Rattle.cv_spec_text.specs.declared.token.Token.{Token}
use Rattle.cv_spec_element.specs.Pieces.{joined}
use Rattle.cv_var.specs.Flat.{FlatPiece, flat_token, flat_reference}

-- how a reference is replaced, given its value and what substitution makes of the pieces after so many more
abbrev pub replaced : List ℕ → Option ℕ → Option (List Token) → (ℕ → Result (List Token) (List ℕ)) → Result (List Token) (List ℕ)
replaced name fallback (Some tokens) after = joined (Ok tokens) (after (unwrap_or fallback 0))
replaced name (Some count) None after = after 0
replaced name None None after = Err name

-- substitution of the pieces after the skipped ones
abbrev pub sub_flat : (List ℕ → Option (List Token)) → ℕ → List FlatPiece → Result (List Token) (List ℕ)
sub_flat values skip [] = Ok []
sub_flat values (suc skip) (piece ∷ rest) = sub_flat values skip rest
sub_flat values zero (flat_token t ∷ rest) = joined (Ok (t ∷ [])) (sub_flat values zero rest)
sub_flat values zero (flat_reference name fallback ∷ rest) =
    replaced name fallback (values name) (λ skip. sub_flat values skip rest)
