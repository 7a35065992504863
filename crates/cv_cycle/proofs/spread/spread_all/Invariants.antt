use Rattle.std.proofs.Common.{ℕ, ◌<◌, ◌+◌, ◌-◌, ◌≤◌, length}
use Rattle.std.specs.Prelude.{slice_index}
use Rattle.cv_graph.specs.Edges.{HasEdge}
use Rattle.cv_cycle.specs.Marks.{IsMarked, unmarked_count}
use Rattle.cv_cycle.specs.Spreading.{AreFound}
use Rattle.cv_cycle.proofs.spread.spread_all.Given as goal

abbrev pub invariant-loop-place : goal.invariant-loop-place
invariant-loop-place g l = record {
  found : AreFound l.graph l.starts l.found;
  starts : (node : ℕ) → IsMarked l.starts node → IsMarked l.found.marks.items node;
  within : l.place ≤ length l.found.nodes.items;
  closed : (i to : ℕ) → i < l.place → HasEdge l.graph (slice_index l.found.nodes.items i) to → IsMarked l.found.marks.items to;
}

abbrev pub decreases-loop-place : goal.decreases-loop-place
decreases-loop-place g l = unmarked_count l.found.marks.items + length l.found.nodes.items - l.place
