-- What is read so far, and what is to come.
use Rattle.std.proofs.Common.{length}
use Rattle.cv_doc.specs.Members.{name_in}
use Rattle.cv_doc.proofs.Items.{IsReadUpTo}
use Rattle.cv_doc.proofs.show.each_name.Given as goal

abbrev pub invariant-loop-item : goal.invariant-loop-item
invariant-loop-item l = IsReadUpTo name_in l.items l.index l.rest l.names.items

abbrev pub decreases-loop-item : goal.decreases-loop-item
decreases-loop-item l = length l.rest
