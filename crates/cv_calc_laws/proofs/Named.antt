-- Each unit is itself.
use Rattle.std.specs.Prelude.{true}
use Rattle.std.proofs.Common.{◌≡◌, refl}
use Rattle.cv_calc.specs.declared.unit.Unit as units
use Rattle.cv_calc.specs.declared.unit.Unit.TheVariants.{Number}
use Rattle.cv_calc.specs.Unit.{same_unit}

pub same_unit-refl : (u : units.Unit) → same_unit u u ≡ true
same_unit-refl Number = refl
same_unit-refl _ = refl
