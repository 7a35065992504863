use Rattle.std.proofs.Common.{◌≡◌, take}
use Rattle.cv_om.specs.Coded.{map_code}
use Rattle.cv_om.proofs.terms.code_of.Given as goal

abbrev pub invariant-loop-entry : goal.invariant-loop-entry
invariant-loop-entry l = l.code.items ≡ map_code (take l.entry-index l.units)
