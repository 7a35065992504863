use Rattle.std.proofs.Common.{◌≡◌, ◌<◌, ◌≤◌, ℕ, false, length, slice_index_or}
use Rattle.cv_graph.specs.Edges.{targets}
use Rattle.cv_element.specs.Holding.{with_size}
use Rattle.cv_element.specs.Settling.{key_at}
use Rattle.cv_element.proofs.held.connect_sizes.Given as goal

abbrev pub invariant-loop-place : goal.invariant-loop-place
invariant-loop-place l = record {
  done : (from : ℕ) → from < l.place → targets l.graph from ≡ with_size l.registry (key_at l.decls from) (slice_index_or l.marks from false) l.size (targets l.initial.graph from);
  rest : (from : ℕ) → l.place ≤ from → targets l.graph from ≡ targets l.initial.graph from;
  count : length l.graph ≡ length l.initial.graph;
}
