use Rattle.std.proofs.Common.{◌≡◌, map, take}
use Rattle.cv_element.specs.FaultNames.{named}
use Rattle.cv_element.proofs.faults.with_names.Given as goal

abbrev pub invariant-loop-key : goal.invariant-loop-key
invariant-loop-key l = l.all.items ≡ map named (take l.key-index l.faults)
