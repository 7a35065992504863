use Rattle.cv_cycle.specs.State.{Copies}
use Rattle.cv_cycle.proofs.stacks.copy_nodes.Given as goal

abbrev pub invariant-loop-place : goal.invariant-loop-place
invariant-loop-place l = record {
  copies : Copies l.initial.order l.order l.done l.nodes l.from l.place;
}
