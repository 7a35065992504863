use Rattle.std.proofs.Common.{◌≡◌, ℕ, ◌<◌, ◌≤◌, ◌↔◌, [], length}
use Rattle.std.specs.Prelude.{eqb}
use Rattle.std.specs.List.{IsDistinct}
use Rattle.cv_graph.specs.Edges.{targets, HasEdge}
use Rattle.cv_element.specs.Counting.{references_at}
use Rattle.cv_element.specs.Places.{RefersAt}
use Rattle.cv_element.proofs.graph.references.Given as goal

abbrev pub invariant-loop-place : goal.invariant-loop-place
invariant-loop-place l = record {
  count : length l.graph ≡ length l.decls;
  edges : (from : ℕ) → from < l.place → (to : ℕ) → HasEdge l.graph from to ↔ RefersAt l.decls from to;
  few : (from : ℕ) → from < l.place → length (targets l.graph from) ≤ references_at l.decls from;
  once : (from : ℕ) → from < l.place → IsDistinct eqb (targets l.graph from);
  none : (from : ℕ) → l.place ≤ from → targets l.graph from ≡ [];
}
