use Rattle.std.specs.Prelude.{true}
use Rattle.std.specs.List.{list_all}
use Rattle.std.proofs.Common.{◌≡◌, take}
use Rattle.cv_calc.specs.Types.{power_fits}
use Rattle.cv_om.specs.UnitMap.{all_units, power_sum, powers_listed}
use Rattle.cv_om.proofs.unit_map.product_powers.Given as goal

abbrev pub invariant-loop-unit : goal.invariant-loop-unit
invariant-loop-unit l = (list_all (λ u. power_fits (power_sum l.a l.b u)) (take l.unit-index all_units) ≡ true) × (l.units ≡ powers_listed (power_sum l.a l.b) (take l.unit-index all_units))
