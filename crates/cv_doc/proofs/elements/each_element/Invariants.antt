-- What is read so far, and what is to come.
use Rattle.std.proofs.Common.{length}
use Rattle.cv_doc.specs.Members.{element_in}
use Rattle.cv_doc.proofs.Items.{IsReadUpTo}
use Rattle.cv_doc.proofs.elements.each_element.Given as goal

abbrev pub invariant-loop-item : goal.invariant-loop-item
invariant-loop-item l = IsReadUpTo element_in l.items l.index l.rest l.elements.items

abbrev pub decreases-loop-item : goal.decreases-loop-item
decreases-loop-item l = length l.rest
