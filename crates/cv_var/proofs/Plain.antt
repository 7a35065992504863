-- The parts of a list without `var()` are its tokens.
use Rattle.std.proofs.Common.{◌≡◌, ℕ, List, [], ◌∷◌, length, map, drop, sym, ◌∙◌, ap}
use Rattle.std.specs.Prelude.{false, slice_get, option_map}
use Rattle.std.proofs.lemmas.List.{length-map}
use Rattle.std.proofs.lemmas.Option.{slice_get-map}
use Rattle.cv_spec_text.specs.declared.token.Token.{Token}
use Rattle.cv_var.specs.Flat.{flat_token, flattened}
use Rattle.cv_var.specs.References.{has_var, is_var, function_size, first_piece, pieces_of}
use Rattle.cv_var.proofs.Unfolding.{pieces_of-nil, pieces_of-more}
use Rattle.cv_var.proofs.PiecesRead.{neither, no_reference}

pub plain_parts : (tokens : List Token) → has_var tokens ≡ false → flattened (pieces_of tokens) ≡ map flat_token tokens
plain_parts [] none = ap flattened pieces_of-nil
plain_parts (t ∷ rest) none =
    let both = neither (is_var t) (has_var rest) none in
    ap flattened (pieces_of-more t rest)
    ∙ ap (λ found. flattened (first_piece found t pieces_of rest (drop (function_size (t ∷ rest)) (t ∷ rest)))) (no_reference t rest both.0)
    ∙ ap (λ parts. flat_token t ∷ parts) (plain_parts rest both.1)

pub plain_count : (tokens : List Token) → has_var tokens ≡ false → length tokens ≡ length (flattened (pieces_of tokens))
plain_count tokens none = sym (length-map tokens flat_token) ∙ ap length (sym (plain_parts tokens none))

pub plain_part : (tokens : List Token) → has_var tokens ≡ false → (number : ℕ) → option_map flat_token (slice_get tokens number) ≡ slice_get (flattened (pieces_of tokens)) number
plain_part tokens none number = sym (slice_get-map flat_token tokens number) ∙ ap (λ parts. slice_get parts number) (sym (plain_parts tokens none))
