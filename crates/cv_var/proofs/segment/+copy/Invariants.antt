use Rattle.std.proofs.Common.{◌≡◌, take}
use Rattle.cv_var.proofs.segment.+copy.Given as goal

abbrev pub invariant-copied_segments-loop-segment : goal.invariant-copied_segments-loop-segment
invariant-copied_segments-loop-segment l = l.all ≡ take l.segment-index l.segments
