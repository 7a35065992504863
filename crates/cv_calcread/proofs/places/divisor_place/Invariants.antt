use Rattle.std.proofs.Common.{◌≡◌, ◌≤◌, drop, length}
use Rattle.cv_calcread.specs.Answer.{is_marked, divisor_place}
use Rattle.cv_calcread.proofs.places.divisor_place.Given as goal

abbrev pub invariant-loop-i : goal.invariant-loop-i
invariant-loop-i l =
    (l.i ≤ length l.places)
    × (divisor_place (is_marked l.fn.wanted) (drop l.i l.marks) (drop l.i l.places) ≡ divisor_place (is_marked l.fn.wanted) l.marks l.places)
