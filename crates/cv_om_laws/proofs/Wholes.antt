-- The tables of units, unit by unit.
use Rattle.std.specs.Prelude.{count_by, slice_get, Some}
use Rattle.std.proofs.Common.{◌≡◌, refl}
use Rattle.cv_calc.specs.declared.unit.Unit as units
use Rattle.cv_calc.specs.declared.unit.Unit.TheVariants.{Number}
use Rattle.cv_calc.specs.Unit.{same_unit}
use Rattle.cv_om.specs.UnitMap.{all_units}
use Rattle.cv_om.specs.Coded.{unit_number}
use Rattle.cv_om.specs.Conversion.{units_by_name}
use Rattle.cv_om_laws.specs.Tables.{TablesAreWhole}

once_of : (u : units.Unit) → count_by (same_unit u) all_units ≡ 1
once_of Number = refl
once_of _ = refl

place_of : (u : units.Unit) → slice_get all_units (unit_number u) ≡ Some u
place_of Number = refl
place_of _ = refl

named_of : (u : units.Unit) → count_by (same_unit u) units_by_name ≡ 1
named_of Number = refl
named_of _ = refl

pub tables_are_whole : TablesAreWhole
tables_are_whole = record { once = once_of; place = place_of; named_once = named_of; by_name = refl }
