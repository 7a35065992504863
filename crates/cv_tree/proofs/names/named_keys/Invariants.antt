use Rattle.std.proofs.Common.{◌≡◌, ◌++◌, length}
use Rattle.cv_tree.specs.Names.{AreNames, named_keys}
use Rattle.cv_tree.proofs.names.named_keys.Given as goal

abbrev pub invariant-loop-name : goal.invariant-loop-name
invariant-loop-name l = (l.keys.items ++ named_keys l.rest ≡ named_keys l.names) × AreNames l.rest

abbrev pub decreases-loop-name : goal.decreases-loop-name
decreases-loop-name l = length l.rest
