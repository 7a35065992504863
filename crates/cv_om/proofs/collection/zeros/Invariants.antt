use Rattle.std.specs.Prelude.{map}
use Rattle.std.proofs.Common.{◌≡◌, take}
use Rattle.cv_spec_ratio.specs.Ratio.{zero_ratio}
use Rattle.cv_calc.specs.declared.calc.Calc.TheVariants.{Num}
use Rattle.cv_om.proofs.collection.zeros.Given as goal

abbrev pub invariant-loop-unit : goal.invariant-loop-unit
invariant-loop-unit l = l.all ≡ map (Num zero_ratio) (take l.unit-index l.units)
