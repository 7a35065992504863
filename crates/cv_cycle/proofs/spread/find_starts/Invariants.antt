use Rattle.std.proofs.Common.{ℕ, ◌<◌}
use Rattle.cv_cycle.specs.Marks.{IsMarked}
use Rattle.cv_cycle.specs.Spreading.{AreFound}
use Rattle.cv_cycle.proofs.spread.find_starts.Given as goal

abbrev pub invariant-loop-node : goal.invariant-loop-node
invariant-loop-node l = record {
  found : AreFound l.graph l.starts l.found;
  starts : (v : ℕ) → v < l.node → IsMarked l.starts v → IsMarked l.found.marks.items v;
}
