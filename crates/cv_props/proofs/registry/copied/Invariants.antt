use Rattle.std.proofs.Common.{◌≡◌, ◌++◌}
use Rattle.cv_props.proofs.registry.copied.Given as goal

abbrev pub invariant-loop-name : goal.invariant-loop-name
invariant-loop-name l = l.all.entries ++ l.name-iterator ≡ l.entries.entries
