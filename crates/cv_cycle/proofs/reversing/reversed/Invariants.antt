use Rattle.std.proofs.Common.{◌≡◌, length}
use Rattle.cv_cycle.specs.Reversing.{IsReversed}
use Rattle.cv_cycle.proofs.reversing.reversed.Given as goal

abbrev pub invariant-loop-from : goal.invariant-loop-from
invariant-loop-from g l = record {
  back : IsReversed l.graph l.through l.from l.back;
  nodes : length l.back ≡ length l.graph;
}
