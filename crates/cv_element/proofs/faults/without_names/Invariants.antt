use Rattle.std.proofs.Common.{◌≡◌, map, take}
use Rattle.cv_element.specs.FaultNames.{fault_of}
use Rattle.cv_element.proofs.faults.without_names.Given as goal

abbrev pub invariant-loop-fault : goal.invariant-loop-fault
invariant-loop-fault l = l.all ≡ map fault_of (take l.fault-index l.faults)
