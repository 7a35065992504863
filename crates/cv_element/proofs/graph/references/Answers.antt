use Rattle.std.proofs.Common.{ℕ, List, ◌≤◌, ◌↔◌, length, ◌∙◌, arith}
use Rattle.std.specs.Prelude.{Contains, eqb}
use Rattle.std.specs.List.{IsDistinct}
use Rattle.cv_element.specs.Counting.{references_at}
use Rattle.cv_element.specs.Places.{RefersAt}
use Rattle.cv_element.proofs.Graphing.{rows_keep, rows_none}
use Rattle.cv_element.proofs.graph.references.Goals as goal

pub loop-place-preserved : goal.loop-place-preserved
loop-place-preserved c = record {
  count = c.in_ok-add_references.ensures.count ∙ c.loop-place.invariant.count;
  edges = rows_keep c.loop-place.graph c.add_references.new.graph c.loop-place.place c.in_ok-add_references.ensures.others (λ from row. (to : ℕ) → Contains row to ↔ RefersAt c.args.decls.now from to) c.in_ok-add_references.ensures.edges c.loop-place.invariant.edges;
  few = rows_keep c.loop-place.graph c.add_references.new.graph c.loop-place.place c.in_ok-add_references.ensures.others (λ from row. length row ≤ references_at c.args.decls.now from) c.in_ok-add_references.ensures.bound c.loop-place.invariant.few;
  once = rows_keep c.loop-place.graph c.add_references.new.graph c.loop-place.place c.in_ok-add_references.ensures.others (λ from row. IsDistinct eqb row) c.in_ok-add_references.ensures.once c.loop-place.invariant.once;
  none = rows_none c.loop-place.graph c.add_references.new.graph c.loop-place.place c.in_ok-add_references.ensures.others c.loop-place.invariant.none;
}

pub returns-clause-edges : goal.returns-clause-edges
returns-clause-edges c = λ from to below. c.loop-place.invariant.edges from (omega (arith, below)) to

pub returns-clause-bound : goal.returns-clause-bound
returns-clause-bound c = λ from below. c.loop-place.invariant.few from (omega (arith, below))

pub returns-clause-once : goal.returns-clause-once
returns-clause-once c = λ from below. c.loop-place.invariant.once from (omega (arith, below))
