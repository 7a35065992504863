use Rattle.std.proofs.Common.{◌≡◌, take}
use Rattle.std.specs.List.{filter_map}
use Rattle.std.specs.Map.{keys_of}
use Rattle.cv_tree.specs.Names.{name_of_key, with_names}
use Rattle.cv_tree.proofs.names.add_declared.Given as goal

abbrev pub invariant-loop-place : goal.invariant-loop-place
invariant-loop-place l = l.names.keys ≡ with_names l.fn.names.keys (filter_map name_of_key (keys_of (take l.place l.declarations)))
