-- What is left is the same only where all is.
use Rattle.std.proofs.Common.{◌≡◌, length}
use Rattle.cv_update.proofs.same.same_tokens.Given as goal

abbrev pub invariant-loop-token : goal.invariant-loop-token
invariant-loop-token l = l.rest ≡ l.left → l.fn.one ≡ l.fn.other

abbrev pub decreases-loop-token : goal.decreases-loop-token
decreases-loop-token l = length l.rest
