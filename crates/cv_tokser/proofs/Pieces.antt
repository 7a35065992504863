-- What is written code point by code point, each as a piece, is read piece by piece.
use Rattle.std.proofs.Common.{◌≡◌, ℕ, ◌+◌, ◌<◌, ◌≤◌, List, [], ◌∷◌, ◌++◌, length, drop, refl, ◌∙◌, ap, arith, append_assoc, length-append}
use Rattle.std.specs.List.{flat_map}
use Rattle.std.proofs.Math.Seq.{drop-append_seam}
use Rattle.cv_spec_text.specs.Runs.{run_length, run_values}
use Rattle.cv_spec_text.proofs.Runs.{run_length-more, run_values-more, run_length-end, run_values-end}

module _ (length_of : List ℕ → ℕ) (value_of : List ℕ → List ℕ) where
  -- a written piece: it is a piece in front of anything, and gives the code point
  pub record IsPieceOf (c : ℕ) (piece : List ℕ) : Type 0 where
    pub some : 0 < length piece
    pub size : (rest : List ℕ) → length_of (piece ++ rest) ≡ length piece
    pub value : (rest : List ℕ) → value_of (piece ++ rest) ≡ c ∷ []

  -- the text is the code points, each written as a piece
  unfoldable pub AreWritten : List ℕ → List ℕ → Type 0
  AreWritten [] text = text ≡ []
  AreWritten (c ∷ cs) text = (piece : List ℕ) × (more : List ℕ) × IsPieceOf c piece × (text ≡ piece ++ more) × AreWritten cs more

  -- what is written so is read as long as it is, and as it is
  pub written_length : (cs text rest : List ℕ) → AreWritten cs text → length_of rest ≡ 0 → run_length length_of (text ++ rest) ≡ length text
  unfolding AreWritten
  written_length [] text rest written none = rw written (run_length-end length_of rest none)
  written_length (c ∷ cs) text rest (piece, more, is_piece, whole, written) none =
      let regrouped : text ++ rest ≡ piece ++ (more ++ rest) = ap (λ (l : List ℕ). l ++ rest) whole ∙ append_assoc piece more rest in
      let fits : length piece ≤ length (piece ++ (more ++ rest)) = omega (arith, length-append piece (more ++ rest)) in
      let stepped = run_length-more length_of (length piece) (piece ++ (more ++ rest)) (is_piece.size (more ++ rest)) is_piece.some fits in
      let after : run_length length_of (drop (length piece) (piece ++ (more ++ rest))) ≡ length more =
      ap (run_length length_of) (drop-append_seam piece (more ++ rest)) ∙ written_length cs more rest written none in
      let total : length text ≡ length piece + length more = ap length whole ∙ length-append piece more in
      ap (run_length length_of) regrouped ∙ omega (arith, stepped, after, total)

  pub written_value : (cs text rest : List ℕ) → AreWritten cs text → length_of rest ≡ 0 → run_values length_of value_of (text ++ rest) ≡ cs
  unfolding AreWritten
  written_value [] text rest written none = rw written (run_values-end length_of value_of rest none)
  written_value (c ∷ cs) text rest (piece, more, is_piece, whole, written) none =
      let values : List ℕ → List ℕ = run_values length_of value_of in
      let regrouped : text ++ rest ≡ piece ++ (more ++ rest) = ap (λ (l : List ℕ). l ++ rest) whole ∙ append_assoc piece more rest in
      let fits : length piece ≤ length (piece ++ (more ++ rest)) = omega (arith, length-append piece (more ++ rest)) in
      let stepped = run_values-more length_of value_of (length piece) (piece ++ (more ++ rest)) (is_piece.size (more ++ rest)) is_piece.some fits in
      let after : values (drop (length piece) (piece ++ (more ++ rest))) ≡ cs =
      ap values (drop-append_seam piece (more ++ rest)) ∙ written_value cs more rest written none in
      ap values regrouped ∙ stepped ∙ ap (λ (l : List ℕ). l ++ values (drop (length piece) (piece ++ (more ++ rest)))) (is_piece.value (more ++ rest)) ∙ ap (λ (l : List ℕ). c ∷ l) after

  -- each code point is written as a piece of it
  pub all_written : (write : ℕ → List ℕ) → ((c : ℕ) → IsPieceOf c (write c)) → (cs : List ℕ) → AreWritten cs (flat_map write cs)
  unfolding AreWritten
  all_written write each [] = refl
  all_written write each (c ∷ cs) = (write c, flat_map write cs, each c, refl, all_written write each cs)

  -- a name with a code point is written with one
  pub written-positive : (c : ℕ) (cs text : List ℕ) → AreWritten (c ∷ cs) text → 0 < length text
  unfolding AreWritten
  written-positive c cs text (piece, more, is_piece, whole, written) =
      omega (arith, is_piece.some, ap length whole, length-append piece more)

  -- and begins with a piece
  pub written_begins : (c : ℕ) (cs text rest : List ℕ) → AreWritten (c ∷ cs) text → 0 < length_of (text ++ rest)
  unfolding AreWritten
  written_begins c cs text rest (piece, more, is_piece, whole, written) =
      let regrouped : text ++ rest ≡ piece ++ (more ++ rest) = ap (λ (l : List ℕ). l ++ rest) whole ∙ append_assoc piece more rest in
      omega (arith, is_piece.some, ap length_of regrouped, is_piece.size (more ++ rest))
