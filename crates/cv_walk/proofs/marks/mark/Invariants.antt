-- As many are unmarked as are still to come.
use Rattle.std.proofs.Common.{◌≡◌, ◌++◌, ◌-◌, ◌≤◌, length}
use Rattle.cv_walk.specs.Marked.{unmarked}
use Rattle.cv_walk.proofs.marks.mark.Given as goal

abbrev pub invariant-loop-marks : goal.invariant-loop-marks
invariant-loop-marks l = (length l.marks.items ≤ l.place) × (l.marks.items ++ unmarked (l.place - length l.marks.items) ≡ l.fn.marks.items ++ unmarked (l.place - length l.fn.marks.items))

abbrev pub decreases-loop-marks : goal.decreases-loop-marks
decreases-loop-marks l = l.place - length l.marks.items
