-- Where a term goes in a row.
use Rattle.std.specs.Prelude.{◌≡◌, ◌<◌, List, [], ◌∷◌, ◌++◌, length, slice_set, Some, None}
use Rattle.cv_calc.specs.declared.calc.Calc.{Calc}
use Rattle.cv_simplify.specs.declared.joining.Joining.{Joining}
use Rattle.cv_simplify.specs.declared.row.Spot.{Spot}
use Rattle.cv_simplify.specs.declared.row.Spot.TheVariants.{End, At, Outside}
use Rattle.cv_simplify.specs.Checked.{with_term}
use Rattle.cv_simplify.specs.Firsts.{KeepsFirsts}

-- the row with the term is the row with the term at its end, or with a number of the same unit at this place, or it is out of bounds
abbrev pub IsSpotOf : Joining → List Calc → Calc → Spot → Type 0
IsSpotOf how row term End = with_term how row term ≡ Some (row ++ term ∷ [])
IsSpotOf how row term (At at number) = (at < length row) × (with_term how row term ≡ Some (slice_set row at number)) × KeepsFirsts row (slice_set row at number)
IsSpotOf how row term Outside = with_term how row term ≡ None
