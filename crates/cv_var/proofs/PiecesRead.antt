-- The law of the pieces of a list.
use Rattle.std.proofs.Common.{◌≡◌, ℕ, List, [], ◌∷◌, drop, Option, None, Ok, refl, ◌∙◌, ap}
use Rattle.std.specs.Prelude.{Bool, true, false, ◌||◌}
use Rattle.cv_spec_text.specs.declared.token.Token.{Token}
use Rattle.cv_spec_element.specs.Pieces.{sub, joined}
use Rattle.cv_var.specs.References.{is_var, has_var, reference_at, function_size, first_piece, pieces_of, PiecesAreRead}
use Rattle.cv_var.proofs.Unfolding.{pieces_of-nil, pieces_of-more}

pub neither : (a b : Bool) → (a || b) ≡ false → (a ≡ false) × (b ≡ false)
neither true b is = absurd cc
neither false b is = (refl, is)

pub no_reference : (t : Token) (rest : List Token) → is_var t ≡ false → reference_at (t ∷ rest) ≡ None
no_reference t rest is = rw is refl

plain : (values : List ℕ → Option (List Token)) (tokens : List Token) → has_var tokens ≡ false → sub values (pieces_of tokens) ≡ Ok tokens
plain values [] none = ap (sub values) pieces_of-nil
plain values (t ∷ rest) none =
    let both = neither (is_var t) (has_var rest) none in
    ap (sub values) (pieces_of-more t rest)
    ∙ ap (λ found. sub values (first_piece found t pieces_of rest (drop (function_size (t ∷ rest)) (t ∷ rest)))) (no_reference t rest both.0)
    ∙ ap (joined (Ok (t ∷ []))) (plain values rest both.1)

pub pieces_are_read : PiecesAreRead
pieces_are_read = record { none = pieces_of-nil; first = pieces_of-more; plain = λ tokens none values. plain values tokens none }
