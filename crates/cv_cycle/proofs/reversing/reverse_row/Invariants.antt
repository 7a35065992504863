use Rattle.std.proofs.Common.{◌≡◌, length}
use Rattle.cv_cycle.specs.Reversing.{IsReversedTo}
use Rattle.cv_cycle.proofs.reversing.reverse_row.Given as goal

abbrev pub invariant-loop-edge : goal.invariant-loop-edge
invariant-loop-edge g l = record {
  back : IsReversedTo l.graph l.through l.from l.edge l.back;
  nodes : length l.back ≡ length l.fn.back;
}
