-- The figure of a calculation of numbers alone tells its value, under every meaning of units.
use Rattle.std.specs.Prelude.{◌≡◌, Some, None}
use Rattle.cv_spec_ratio.specs.Ratio.{Ratio}
use Rattle.cv_calc.specs.declared.calc.Calc.{Calc}
use Rattle.cv_calc.specs.Value.{Meaning, value}
use Rattle.cv_calc.specs.Numbers.{figure, undefined, inside, outside}

pub record FiguresAreValues : Type 0 where
  pub inside_is : (c : Calc) (r : Ratio) → figure c ≡ inside r → (m : Meaning) → value m c ≡ Some r
  pub outside_is : (c : Calc) (r : Ratio) → figure c ≡ outside r → (m : Meaning) → value m c ≡ Some r
  pub undefined_is : (c : Calc) → figure c ≡ undefined → (m : Meaning) → value m c ≡ None
