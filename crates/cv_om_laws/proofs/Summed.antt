-- A conversion to a sum of units keeps the value.
use Rattle.std.specs.Prelude.{List, [], ◌∷◌, Some, Result, Ok, Err}
use Rattle.std.proofs.Common.{◌≡◌, refl, ◌∙◌, ap}
use Rattle.cv_calc.specs.declared.unit.Unit.{Unit}
use Rattle.cv_calc.specs.declared.calc.Calc.{Calc}
use Rattle.cv_calc.specs.Value.{Meaning, value}
use Rattle.cv_om.specs.declared.error.OmErr.{OmErr}
use Rattle.cv_om.specs.Refusal.{and_then}
use Rattle.cv_om.specs.SumValue.{Row, sum_value}
use Rattle.cv_om.specs.Conversion.{summed_row, summed}
use Rattle.cv_om_laws.specs.Valued.{HasPositiveUnits}
use Rattle.cv_om_laws.specs.Powers.{row_value, SumsAreKept}
use Rattle.cv_om_laws.proofs.Collected.{given_kept}
use Rattle.cv_om_laws.proofs.Kept.{sum_values_are_kept}
use Rattle.cv_om_laws.proofs.Owned.{own_kept}

row_kept : (m : Meaning) → HasPositiveUnits m → (us : List Unit) (row : Row) (d : Calc) → summed_row us row ≡ Ok d → value m d ≡ Some (row_value m row)
row_kept m h [] row d e = own_kept m h row d e
row_kept m h (u ∷ us) row d e = given_kept m h (u ∷ us) row d e

pub sums_are_kept : SumsAreKept
unfolding summed
sums_are_kept m h us c d x e f = go (sum_value c) refl f
  where
    go : (q : Result Row OmErr) → sum_value c ≡ q → and_then q (summed_row us) ≡ Ok d → value m d ≡ Some x
    go (Ok row) k f = row_kept m h us row d f ∙ ap Some (sum_values_are_kept m h c x row e k)
    go (Err z) k f = cc
