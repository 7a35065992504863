use Rattle.std.proofs.Common.{◌≡◌, ◌++◌}
use Rattle.cv_props.proofs.decls.copied.Given as goal

abbrev pub invariant-loop-key : goal.invariant-loop-key
invariant-loop-key l = l.all.entries ++ l.key-iterator ≡ l.declarations.entries
