use Rattle.std.proofs.Common.{◌≡◌, ◌≢◌, ℕ, ◌≤◌, ◌↔◌, length, take}
use Rattle.std.specs.Prelude.{eqb}
use Rattle.std.specs.List.{IsDistinct}
use Rattle.cv_graph.specs.Edges.{targets, HasEdge}
use Rattle.cv_element.specs.Counting.{declared_count}
use Rattle.cv_element.specs.Places.{IsPlaceOf}
use Rattle.cv_element.proofs.graph.connect.Given as goal

abbrev pub invariant-loop-place : goal.invariant-loop-place
invariant-loop-place l = record {
  edges : (to : ℕ) → HasEdge l.graph l.from to ↔ IsPlaceOf l.decls (take l.place l.references) to;
  once : IsDistinct eqb (targets l.graph l.from);
  few : length (targets l.graph l.from) ≤ declared_count l.decls (take l.place l.references);
  others : (node : ℕ) → node ≢ l.from → targets l.graph node ≡ targets l.initial.graph node;
  count : length l.graph ≡ length l.initial.graph;
}
