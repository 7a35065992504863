-- Which type each quantity takes (CSS Values and Units 4, "Type Checking"; CSS Typed OM 1, "Numeric Value Typing"), and which
-- numbers are in range (CSS Values and Units 4, "Range Restrictions and Range Definition Notation").
use Rattle.std.specs.Prelude.{Bool, true, false, ◌&&◌, ◌||◌, Option, Some, None, if◌then◌else◌}
use Rattle.cv_spec_ratio.specs.Ratio.{Ratio, zero_ratio}
use Rattle.cv_spec_ratio.specs.Order.{at_most}
use Rattle.cv_calc.specs.declared.unit.Base.{Base}
use Rattle.cv_calc.specs.declared.unit.Base.TheVariants.{Length as LengthBase}
use Rattle.cv_calc.specs.declared.unit.NumType.{NumType}
use Rattle.cv_calc.specs.declared.unit.Unit as units
use Rattle.cv_calc.specs.declared.unit.Unit.TheVariants.{Px, Deg, S, Dppx, Percent as PercentUnit, Number as NumberUnit}
use Rattle.cv_calc.specs.Types.{unit_type, same_powers}
use Rattle.cv_calc.specs.Linear.{no_hint}
use Rattle.cv_numeric.specs.declared.quantity.Quantity.{Quantity}
use Rattle.cv_numeric.specs.declared.quantity.Quantity.TheVariants.{Number, Percentage, Length, LengthPercentage, Angle, Time, Resolution}
use Rattle.cv_numeric.specs.declared.quantity.Range.{Range}
use Rattle.cv_numeric.specs.declared.quantity.Range.TheVariants.{All, NotNegative}

-- the type is that of a unit
abbrev pub is_type_of : units.Unit → NumType → Bool
is_type_of u t = same_powers t (unit_type u) && no_hint t.hint

-- percentages stand for lengths
abbrev pub hints_length : Option Base → Bool
hints_length (Some LengthBase) = true
hints_length _ = false

-- a length in which percentages stand for lengths
abbrev pub is_mixed_length : NumType → Bool
is_mixed_length t = same_powers t (unit_type Px) && hints_length t.hint

-- whether a quantity takes calculations of a type
abbrev pub takes : Quantity → NumType → Bool
takes Number t = is_type_of NumberUnit t
takes Percentage t = is_type_of PercentUnit t
takes Length t = is_type_of Px t
takes LengthPercentage t = is_type_of Px t || is_type_of PercentUnit t || is_mixed_length t
takes Angle t = is_type_of Deg t
takes Time t = is_type_of S t
takes Resolution t = is_type_of Dppx t

abbrev pub takes_some : Quantity → Option NumType → Bool
takes_some q None = false
takes_some q (Some t) = takes q t

-- a number that a range leaves out becomes the nearest in it
abbrev pub clamped : Range → Ratio → Ratio
clamped All r = r
clamped NotNegative r = if at_most r zero_ratio then zero_ratio else r
