use Rattle.std.proofs.Common.{◌≡◌, ◌++◌}
use Rattle.cv_var.proofs.names.references.Given as goal

abbrev pub invariant-loop-name : goal.invariant-loop-name
invariant-loop-name l = l.all.items ++ l.name-iterator ≡ l.initial.name-iterator
