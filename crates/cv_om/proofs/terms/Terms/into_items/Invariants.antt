use Rattle.std.proofs.Common.{◌≡◌, ◌++◌}
use Rattle.cv_om.proofs.terms.Terms.into_items.Given as goal

abbrev pub invariant-loop-item : goal.invariant-loop-item
invariant-loop-item l = l.items ++ l.item-iterator ≡ l.fn.self
