use Rattle.std.proofs.Common.{◌≡◌, length}
use Rattle.std.specs.List.{filter_map}
use Rattle.cv_tree.specs.Names.{name_of_command, with_names}
use Rattle.cv_tree.proofs.names.add_asked.Given as goal

abbrev pub invariant-loop-command : goal.invariant-loop-command
invariant-loop-command l = with_names l.names.keys (filter_map name_of_command l.rest) ≡ with_names l.fn.names.keys (filter_map name_of_command l.commands)

abbrev pub decreases-loop-command : goal.decreases-loop-command
decreases-loop-command l = length l.rest
