-- The fallback of a piece ends within the flat pieces.
use Rattle.std.proofs.Common.{◌≡◌, ℕ, suc, zero, ◌+◌, ◌≤◌, List, [], ◌∷◌, ◌++◌, length, Option, Some, None, sym, subst, inl, inr, length-append, arith}
use Rattle.std.specs.Prelude.{◌⊎◌, slice_get, option_map, IfSome}
use Rattle.cv_spec_text.specs.declared.token.Token.{Token as CssToken}
use Rattle.cv_spec_element.specs.Pieces.{Pieces, finish, token, reference, reference_or}
use Rattle.cv_var.specs.declared.flat.Part.{Part}
use Rattle.cv_var.specs.Flat.{FlatPiece, flat_token, flat_reference, flattened, flat, EndsWithin}

abbrev IsBehind : {X : Type 0} → List X → List X → ℕ → X → Type 0
IsBehind xs ys m x = (k : ℕ) × (m ≡ length xs + k) × (slice_get ys k ≡ Some x)

slice_get-append : {X : Type 0} (xs ys : List X) (m : ℕ) (x : X) → slice_get (xs ++ ys) m ≡ Some x → (slice_get xs m ≡ Some x) ⊎ IsBehind xs ys m x
slice_get-append [] ys m x is = inr (m, omega arith, is)
slice_get-append (y ∷ xs) ys zero x is = inl is
slice_get-append (y ∷ xs) ys (suc m) x is = elim (slice_get-append xs ys m x is) [ inl front ↦ inl front | inr behind ↦ inr (behind.0, omega (arith, behind.1), behind.2) ]

EndsWithin-moved : (c d m n : ℕ) (piece : FlatPiece) → n + c ≤ m + d → EndsWithin c m piece → EndsWithin d n piece
EndsWithin-moved c d m n (flat_token t) le ends = tt
EndsWithin-moved c d m n (flat_reference name None) le ends = tt
EndsWithin-moved c d m n (flat_reference name (Some size)) le ends = omega (arith, ends, le)

ends_within : (pieces : Pieces (List ℕ) CssToken) (number : ℕ) (piece : FlatPiece) → slice_get (flattened pieces) number ≡ Some piece → EndsWithin (length (flattened pieces)) number piece
ends_within finish number piece is = absurd cc
ends_within (token t rest) zero piece is = let same : flat_token t ≡ piece = cc in subst (EndsWithin (suc (length (flattened rest))) 0) same tt
ends_within (token t rest) (suc m) piece is =
    EndsWithin-moved (length (flattened rest)) (suc (length (flattened rest))) m (suc m) piece (omega arith) (ends_within rest m piece is)
ends_within (reference n rest) zero piece is = let same : flat_reference n None ≡ piece = cc in subst (EndsWithin (suc (length (flattened rest))) 0) same tt
ends_within (reference n rest) (suc m) piece is =
    EndsWithin-moved (length (flattened rest)) (suc (length (flattened rest))) m (suc m) piece (omega arith) (ends_within rest m piece is)
ends_within (reference_or n fallback rest) zero piece is =
    let same : flat_reference n (Some (length (flattened fallback))) ≡ piece = cc in
    let fits : 0 + 1 + length (flattened fallback) ≤ suc (length (flattened fallback ++ flattened rest)) = omega (arith, length-append (flattened fallback) (flattened rest)) in
    subst (EndsWithin (suc (length (flattened fallback ++ flattened rest))) 0) same fits
ends_within (reference_or n fallback rest) (suc m) piece is =
    let size = length-append (flattened fallback) (flattened rest) in
    elim (slice_get-append (flattened fallback) (flattened rest) m piece is) [
      | inl front ↦ EndsWithin-moved (length (flattened fallback)) (suc (length (flattened fallback ++ flattened rest))) m (suc m) piece (omega arith) (ends_within fallback m piece front)
      | inr behind ↦ EndsWithin-moved (length (flattened rest)) (suc (length (flattened fallback ++ flattened rest))) behind.0 (suc m) piece (omega (arith, behind.1)) (ends_within rest behind.0 piece behind.2)
    ]

-- so does that of the part of a number
pub part-ends_within : (pieces : Pieces (List ℕ) CssToken) (number : ℕ) (part : Option Part) → option_map flat part ≡ slice_get (flattened pieces) number → IfSome part (λ p. EndsWithin (length (flattened pieces)) number (flat p))
part-ends_within pieces number None is = tt
part-ends_within pieces number (Some part) is = ends_within pieces number (flat part) (sym is)
