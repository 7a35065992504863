use Rattle.std.specs.List.{flat_map}
use Rattle.std.proofs.Common.{◌≡◌, take}
use Rattle.cv_om.specs.Conversion.{numbers_of, units_by_name}
use Rattle.cv_om.proofs.own_units.numbers_by_name.Given as goal

abbrev pub invariant-loop-unit : goal.invariant-loop-unit
invariant-loop-unit l = l.numbers ≡ flat_map (numbers_of l.row) (take l.unit-index units_by_name)
