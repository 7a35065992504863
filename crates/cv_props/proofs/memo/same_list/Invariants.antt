use Rattle.std.proofs.Common.{◌≡◌, length}
use Rattle.cv_props.proofs.memo.same_list.Given as goal

abbrev pub invariant-loop-token : goal.invariant-loop-token
invariant-loop-token l = l.rest ≡ l.other → l.a ≡ l.b

abbrev pub decreases-loop-token : goal.decreases-loop-token
decreases-loop-token l = length l.rest
