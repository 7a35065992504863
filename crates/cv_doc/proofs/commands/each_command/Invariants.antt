-- What is read so far, and what is to come.
use Rattle.std.proofs.Common.{length}
use Rattle.cv_doc.specs.Commands.{command_in}
use Rattle.cv_doc.proofs.Items.{IsReadUpTo}
use Rattle.cv_doc.proofs.commands.each_command.Given as goal

abbrev pub invariant-loop-item : goal.invariant-loop-item
invariant-loop-item l = IsReadUpTo command_in l.items l.index l.rest l.commands.items

abbrev pub decreases-loop-item : goal.decreases-loop-item
decreases-loop-item l = length l.rest
