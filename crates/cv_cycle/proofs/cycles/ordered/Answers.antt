use Rattle.std.proofs.Common.{ℕ, ◌<◌, ◌↔◌, ◌≡◌, List, get_or, length, sym, subst, arith}
use Rattle.cv_graph.specs.Edges.{HasEdge}
use Rattle.cv_spec_element.specs.Walks.{IsCyclic}
use Rattle.cv_cycle.specs.Marks.{IsMarked, StandsIn}
use Rattle.cv_cycle.proofs.Beginning.{flags_right, few_reads, order_stands, order_once, order_earlier}
use Rattle.cv_cycle.proofs.cycles.ordered.Goals as goal

pub returns-clause-cyclic : goal.returns-clause-cyclic
returns-clause-cyclic g c = λ node. subst (λ flags. IsMarked flags node ↔ IsCyclic (HasEdge c.args.graph.now) node) (sym c.into_order.ensures.cyclic) (flags_right _ _ c.explore_all.ensures.search c.explore_all.ensures.path c.explore_all.ensures.met node)

pub returns-clause-stands : goal.returns-clause-stands
returns-clause-stands g c = λ node. subst (λ (nodes : List ℕ). (node < length c.args.graph.now) ↔ StandsIn nodes 0 (length c.args.graph.now) node) (sym c.into_order.ensures.nodes) (order_stands _ _ c.explore_all.ensures.search c.explore_all.ensures.path c.explore_all.ensures.met node)

pub returns-clause-once : goal.returns-clause-once
returns-clause-once g c = subst (λ (nodes : List ℕ). (i j : ℕ) → i < length c.args.graph.now → j < length c.args.graph.now → get_or nodes i 0 ≡ get_or nodes j 0 → i ≡ j) (sym c.into_order.ensures.nodes) (order_once _ _ c.explore_all.ensures.search c.explore_all.ensures.path c.explore_all.ensures.met)

pub returns-clause-earlier : goal.returns-clause-earlier
returns-clause-earlier g c = subst (λ (nodes : List ℕ). (place to : ℕ) → place < length c.args.graph.now → ¬ IsCyclic (HasEdge c.args.graph.now) (get_or nodes place 0) → HasEdge c.args.graph.now (get_or nodes place 0) to → StandsIn nodes 0 place to) (sym c.into_order.ensures.nodes) (order_earlier _ _ c.explore_all.ensures.search c.explore_all.ensures.path c.explore_all.ensures.met)

pub returns-clause-bound : goal.returns-clause-bound
returns-clause-bound g c = omega (arith, few_reads _ _ c.explore_all.ensures.search, c.explore_all.ensures.steps)
