use Rattle.std.proofs.Common.{ℕ, ◌≡◌, ◌↔◌, ◌⊎◌, length}
use Rattle.cv_cycle.specs.Marks.{IsMarked, StandsIn}
use Rattle.cv_cycle.proofs.stacks.mark_nodes.Given as goal

abbrev pub invariant-loop-place : goal.invariant-loop-place
invariant-loop-place l = record {
  count : length l.marks ≡ length l.initial.marks;
  marked : (node : ℕ) → IsMarked l.marks node ↔ (IsMarked l.initial.marks node ⊎ StandsIn l.nodes l.from l.place node);
}
