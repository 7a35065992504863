use Rattle.std.proofs.Common.{◌≡◌, length}
use Rattle.std.specs.List.{filter_map}
use Rattle.cv_tree.specs.Names.{keys_in, name_of_key, with_names}
use Rattle.cv_tree.proofs.names.add_all_declared.Given as goal

abbrev pub invariant-loop-declarations : goal.invariant-loop-declarations
invariant-loop-declarations l = with_names l.names.keys (filter_map name_of_key (keys_in l.rest)) ≡ with_names l.fn.names.keys (filter_map name_of_key (keys_in l.all))

abbrev pub decreases-loop-declarations : goal.decreases-loop-declarations
decreases-loop-declarations l = length l.rest
