-- Calculations that hold numbers, percentages and canonical units alone (CSS Values and Units 4, "Simplification").
use Rattle.std.specs.Prelude.{Bool, true, ◌&&◌, List, [], ◌∷◌}
use Rattle.cv_calc.specs.declared.unit.Unit as units
use Rattle.cv_calc.specs.declared.calc.Calc.{Calc}
use Rattle.cv_calc.specs.declared.calc.Calc.TheOpen.{Calc-F, Num, Sum, Product, Negate, Invert, Min, Max, Clamp}
use Rattle.cv_calc.specs.declared.calc.Calc.TheFolds.{fold-Calc}
use Rattle.cv_calc.specs.Factor.{canonical}
use Rattle.cv_calc.specs.Unit.{same_unit}

-- a unit to which others are converted, or that stands for itself
abbrev pub is_canonical : units.Unit → Bool
is_canonical u = same_unit (canonical u) u

abbrev pub all_canonical : List Bool → Bool
all_canonical [] = true
all_canonical (b ∷ bs) = b && all_canonical bs

abbrev pub canonical_step : Calc-F Bool → Bool
canonical_step (Num v u) = is_canonical u
canonical_step (Sum bs) = all_canonical bs
canonical_step (Product bs) = all_canonical bs
canonical_step (Negate b) = b
canonical_step (Invert b) = b
canonical_step (Min bs) = all_canonical bs
canonical_step (Max bs) = all_canonical bs
canonical_step (Clamp a b c) = a && b && c

unfoldable pub holds_canonical : Calc → Bool
holds_canonical = fold-Calc Bool canonical_step
