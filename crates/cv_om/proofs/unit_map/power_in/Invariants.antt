use Rattle.std.proofs.Common.{◌≡◌, drop}
use Rattle.cv_om.specs.UnitMap.{power_in}
use Rattle.cv_om.proofs.unit_map.power_in.Given as goal

abbrev pub invariant-loop-found : goal.invariant-loop-found
invariant-loop-found l = power_in (drop l.found-index l.units) l.unit ≡ power_in l.units l.unit
