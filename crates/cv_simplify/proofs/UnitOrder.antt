-- Units are ranked as their names are ordered.
use Rattle.std.proofs.Common.{refl}
use Rattle.cv_calc.specs.declared.unit.Unit.TheVariants.{Number, Percent}
use Rattle.cv_simplify.specs.UnitOrder.{RanksAreByteOrder}

pub ranks_are_byte_order : RanksAreByteOrder
ranks_are_byte_order Number t h k = cc
ranks_are_byte_order Percent t h k = cc
ranks_are_byte_order u Number h k = cc
ranks_are_byte_order u Percent h k = cc
ranks_are_byte_order _ _ h k = refl
