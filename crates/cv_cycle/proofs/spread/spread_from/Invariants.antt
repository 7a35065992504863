use Rattle.std.proofs.Common.{ℕ, ◌<◌}
use Rattle.std.specs.Prelude.{slice_index}
use Rattle.cv_graph.specs.Edges.{targets}
use Rattle.cv_cycle.specs.Marks.{IsMarked}
use Rattle.cv_cycle.specs.Spreading.{AreFound, Grows}
use Rattle.std.proofs.Common.{length}
use Rattle.cv_cycle.proofs.spread.spread_from.Given as goal

abbrev pub invariant-loop-edge : goal.invariant-loop-edge
invariant-loop-edge g l = record {
  found : AreFound l.graph l.starts l.found;
  grows : Grows l.fn.found l.found;
  along : (k : ℕ) → k < l.edge → k < length (targets l.graph l.node) → IsMarked l.found.marks.items (slice_index (targets l.graph l.node) k);
}
