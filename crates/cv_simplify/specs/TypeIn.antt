-- The type of a calculation where a percentage is a part of a length (CSS Values and Units 4, "Mixing Percentages and Dimensions"; CSS
-- Typed OM 1, "Numeric Value Typing"): that of the same calculation in which each percentage is a length.
use Rattle.std.specs.Prelude.{Option, Some}
use Rattle.cv_calc.specs.declared.unit.NumType.{NumType}
use Rattle.cv_calc.specs.declared.unit.Unit.TheVariants.{Percent, Px}
use Rattle.cv_calc.specs.declared.unit.Unit as units
use Rattle.cv_calc.specs.declared.context.Basis.{Basis}
use Rattle.cv_calc.specs.declared.context.Basis.TheVariants.{Of}
use Rattle.cv_calc.specs.declared.calc.Calc.{Calc}
use Rattle.cv_calc.specs.declared.calc.Calc.TheOpen.{Calc-F, Num}
use Rattle.cv_calc.specs.declared.calc.Calc.TheFolds.{fold-Calc}
use Rattle.cv_calc.specs.Types.{unit_type, type_of, type_step}

-- a percentage has the type of a length
abbrev pub unit_type_with_lengths : units.Unit → NumType
unit_type_with_lengths Percent = unit_type Px
unit_type_with_lengths u = unit_type u

abbrev pub length_step : Calc-F (Option NumType) → Option NumType
length_step (Num v u) = Some (unit_type_with_lengths u)
length_step l = type_step l

unfoldable pub type_with_lengths : Calc → Option NumType
type_with_lengths = fold-Calc (Option NumType) length_step

-- a percentage is a length where it is known of which length it is a part
abbrev pub type_in : Basis → Calc → Option NumType
type_in (Of f) c = type_with_lengths c
type_in basis c = type_of c
