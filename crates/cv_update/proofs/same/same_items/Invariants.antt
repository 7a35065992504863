-- What is left is the same only where all is.
use Rattle.std.proofs.Common.{◌≡◌, length}
use Rattle.cv_update.proofs.same.same_items.Given as goal

abbrev pub invariant-loop-item : goal.invariant-loop-item
invariant-loop-item l = l.rest ≡ l.left → l.fn.one ≡ l.fn.other

abbrev pub decreases-loop-item : goal.decreases-loop-item
decreases-loop-item l = length l.rest
