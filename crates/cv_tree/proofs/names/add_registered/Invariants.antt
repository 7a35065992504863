use Rattle.std.proofs.Common.{◌≡◌, take}
use Rattle.std.specs.Map.{keys_of}
use Rattle.cv_tree.specs.Names.{with_names}
use Rattle.cv_tree.proofs.names.add_registered.Given as goal

abbrev pub invariant-loop-place : goal.invariant-loop-place
invariant-loop-place l = l.names.keys ≡ with_names l.fn.names.keys (keys_of (take l.place l.registry))
