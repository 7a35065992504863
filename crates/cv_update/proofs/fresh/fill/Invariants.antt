use Rattle.std.proofs.Common.{◌≡◌, ◌++◌, ◌-◌, ◌≤◌, length}
use Rattle.cv_update.specs.Fresh.{nothing}
use Rattle.cv_update.proofs.fresh.fill.Given as goal

abbrev pub invariant-loop-all : goal.invariant-loop-all
invariant-loop-all l = (length l.all.items ≤ l.place) × (l.all.items ++ nothing (l.place - length l.all.items) ≡ l.fn.all.items ++ nothing (l.place - length l.fn.all.items))

abbrev pub decreases-loop-all : goal.decreases-loop-all
decreases-loop-all l = l.place - length l.all.items
