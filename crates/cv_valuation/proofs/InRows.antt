-- Outcomes by place.
use Rattle.std.proofs.Common.{◌≡◌, ℕ, zero, suc, List, [], ◌∷◌, ◌++◌, refl}
use Rattle.cv_valuation.specs.declared.outcome.Outcome.{Outcome}
use Rattle.cv_valuation.specs.declared.outcome.Outcome.TheVariants.{Invalid}
use Rattle.cv_valuation.specs.Rows.{in_row}

-- one more place that is invalid changes nothing
pub in_row-push : (row : List Outcome) (q : ℕ) → in_row (row ++ Invalid ∷ []) q ≡ in_row row q
in_row-push [] zero = refl
in_row-push [] (suc q) = refl
in_row-push (o ∷ row) zero = refl
in_row-push (o ∷ row) (suc q) = in_row-push row q
