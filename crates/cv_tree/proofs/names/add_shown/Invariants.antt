use Rattle.std.proofs.Common.{◌≡◌, length}
use Rattle.cv_tree.specs.Names.{with_names}
use Rattle.cv_tree.proofs.names.add_shown.Given as goal

abbrev pub invariant-loop-name : goal.invariant-loop-name
invariant-loop-name l = with_names l.names.keys l.rest ≡ with_names l.fn.names.keys l.shown

abbrev pub decreases-loop-name : goal.decreases-loop-name
decreases-loop-name l = length l.rest
