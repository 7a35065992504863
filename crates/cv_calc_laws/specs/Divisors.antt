-- The figure of a calculation that is made of numbers alone tells whether the fractions that it counts are in bounds: so a divisor is
-- out of range exactly where a fraction that is counted in it is. The bounds are this project's own (CSS Values and Units 4, "Numeric
-- Data Types", leaves them to the implementation).
use Rattle.std.specs.Prelude.{◌≡◌, true, false, Some}
use Rattle.cv_spec_ratio.specs.Ratio.{Ratio}
use Rattle.cv_calc.specs.declared.unit.NumType.{NumType}
use Rattle.cv_calc.specs.declared.context.Context.{Context}
use Rattle.cv_calc.specs.declared.calc.Calc.{Calc}
use Rattle.cv_calc.specs.declared.calc.Calc.TheVariants.{Num}
use Rattle.cv_calc.specs.declared.unit.Unit.TheVariants.{Number}
use Rattle.cv_calc.specs.Linear.{shape}
use Rattle.cv_calc.specs.Numbers as numbers
use Rattle.cv_calc.specs.Numbers.{figure}
use Rattle.cv_calc.specs.Types.{type_of}
use Rattle.cv_simplify.specs.Counted.{inside, is_in_range}
use Rattle.cv_simplify.specs.Simplified.{simp}

-- of a calculation that has a type and whose numbers are in bounds, in each context
pub record FiguresAreCounted : Type 0 where
  pub inside_range : (x : Context) (c : Calc) (t : NumType) (r : Ratio) → type_of c ≡ Some t → inside c ≡ true → figure c ≡ numbers.inside r → is_in_range x c ≡ true
  pub inside_value : (x : Context) (c : Calc) (t : NumType) (r : Ratio) → type_of c ≡ Some t → inside c ≡ true → figure c ≡ numbers.inside r → simp x c ≡ Num r Number
  pub outside_range : (x : Context) (c : Calc) (t : NumType) (r : Ratio) → type_of c ≡ Some t → inside c ≡ true → figure c ≡ numbers.outside r → is_in_range x c ≡ false

-- a calculation has no figure exactly where it holds a unit
pub record UnitsHaveNoFigure : Type 0 where
  pub measured : (c : Calc) → (shape c).numbers ≡ false → figure c ≡ numbers.measured
  pub only : (c : Calc) → figure c ≡ numbers.measured → (shape c).numbers ≡ false
