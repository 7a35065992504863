-- A number of a unit is linear, and has the type of its unit.
use Rattle.std.specs.Prelude.{Some}
use Rattle.std.proofs.Common.{◌≡◌, true, refl}
use Rattle.cv_spec_ratio.specs.Ratio.{Ratio}
use Rattle.cv_calc.specs.declared.unit.Unit.{Unit}
use Rattle.cv_calc.specs.declared.calc.Calc.TheVariants.{Num}
use Rattle.cv_calc.specs.Tree.{fold-Num}
use Rattle.cv_calc.specs.Types.{unit_type, type_step, type_of}
use Rattle.cv_calc.specs.Linear.{shape_step, shape, is_linear}

pub plain_linear : (v : Ratio) (u : Unit) → is_linear (Num v u) ≡ true
unfolding is_linear shape
plain_linear v u = rw (fold-Num shape_step v u) refl

pub plain_type : (v : Ratio) (u : Unit) → type_of (Num v u) ≡ Some (unit_type u)
unfolding type_of
plain_type v u = fold-Num type_step v u
