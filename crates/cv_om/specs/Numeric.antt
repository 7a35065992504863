-- A numeric value is a calculation that has a type (CSS Typed OM 1, "Numeric Values").
use Rattle.std.specs.Prelude.{Option, Some, None, if◌then◌else◌}
use Rattle.cv_calc.specs.declared.calc.Calc.{Calc}
use Rattle.cv_calc.specs.Types.{type_of}
use Rattle.cv_calc.specs.Linear.{has_type}

abbrev pub numeric_of : Calc → Option Calc
numeric_of c = if has_type (type_of c) then Some c else None
