use Rattle.std.proofs.Common.{ℕ, ◌≡◌, ◌+◌, ◌-◌, length}
use Rattle.std.specs.Prelude.{sum}
use Rattle.cv_graph.specs.Edges.{edge_count}
use Rattle.cv_cycle.specs.Marks.{IsMarked}
use Rattle.cv_cycle.specs.Search.{IsSearch}
use Rattle.cv_cycle.proofs.cycles.explore.Given as goal

abbrev pub invariant-loop-walk : goal.invariant-loop-walk
invariant-loop-walk g l = record {
  search : IsSearch l.graph l.walk;
  root : IsMarked l.walk.met l.root;
  met : (node : ℕ) → IsMarked l.fn.walk.met node → IsMarked l.walk.met node;
  steps : l.steps + sum l.fn.walk.reads ≡ l.fn.steps + sum l.walk.reads;
}

abbrev pub decreases-loop-walk : goal.decreases-loop-walk
decreases-loop-walk g l = edge_count l.graph + length l.graph - sum l.walk.reads
