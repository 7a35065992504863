-- Calculations of the type of a unit: the units that they hold, and the contexts in which they are alike (CSS Typed OM 1, "Numeric Value
-- Typing"; which calculations are linear, and that contexts are compared, is this project's own).
use Rattle.std.specs.Prelude.{◌≡◌, Bool, true, false, ◌||◌, Some}
use Rattle.cv_spec_ratio.specs.Ratio.{Ratio}
use Rattle.cv_calc.specs.declared.unit.Unit as units
use Rattle.cv_calc.specs.declared.unit.Unit.TheVariants.{Number, Px}
use Rattle.cv_calc.specs.declared.context.Context.{Context}
use Rattle.cv_calc.specs.declared.calc.Calc.{Calc}
use Rattle.cv_calc.specs.declared.calc.Calc.TheVariants.{Num}
use Rattle.cv_calc.specs.Factor.{canonical}
use Rattle.cv_calc.specs.Linear.{is_linear}
use Rattle.cv_calc.specs.Types.{type_of, unit_type}
use Rattle.cv_calc.specs.Unit.{same_unit}
use Rattle.cv_simplify.specs.Counted.{is_in_range}
use Rattle.cv_simplify.specs.Simplified.{simp}
use Rattle.cv_calc_laws.specs.Units.{all_units}

-- the calculation is linear, and has the type of the unit
pub record HasTypeOf (u : units.Unit) (c : Calc) : Type 0 where
  pub linear : is_linear c ≡ true
  pub kind : type_of c ≡ Some (unit_type u)

-- the second unit has the type of the first, or is that of plain numbers
abbrev pub is_of_type : units.Unit → units.Unit → Bool
is_of_type u t = same_unit (canonical t) (canonical u) || same_unit (canonical t) Number

-- a number has the type of its unit, and each unit of a calculation is of the calculation's type
pub record UnitsAreOfType : Type 0 where
  pub of_number : (v : Ratio) (u : units.Unit) → HasTypeOf u (Num v u)
  pub of_tree : (u : units.Unit) (c : Calc) → HasTypeOf u c → all_units (is_of_type u) c ≡ true

abbrev pub is_length : units.Unit → Bool
is_length u = same_unit Px (canonical u)

-- what is no length is simplified alike, and is in range alike, in every two contexts in which percentages stand for the same
pub record ContextsAreIgnored : Type 0 where
  pub simple : (u : units.Unit) → is_length u ≡ false → (x y : Context) → x.basis ≡ y.basis → (c : Calc) → HasTypeOf u c → simp x c ≡ simp y c
  pub in_range : (u : units.Unit) → is_length u ≡ false → (x y : Context) → x.basis ≡ y.basis → (c : Calc) → HasTypeOf u c → is_in_range x c ≡ is_in_range y c
