use Rattle.std.proofs.Common.{ℕ, ◌<◌, below_more, refl, sym, subst, arith, length}
use Rattle.std.specs.Prelude.{slice_index}
use Rattle.std.proofs.lemmas.Option.{get_or_from_slice_get}
use Rattle.cv_graph.specs.Edges.{targets}
use Rattle.cv_cycle.specs.Marks.{IsMarked}
use Rattle.cv_cycle.proofs.Spreading.{edge_at, reached_along, each_target, few_targets}
use Rattle.cv_cycle.proofs.spread.spread_from.Goals as goal

pub find-requires-clause-reached : goal.find-requires-clause-reached
find-requires-clause-reached g c =
    reached_along c.args.graph.now c.args.starts.now c.args.node c.in-Some.to c.requires.reached (edge_at c.args.graph.now c.args.node c.loop-edge.edge c.in-Some.to (sym c.in-Some.ensures.edge))

pub returns-in-None-clause-along : goal.returns-in-None-clause-along
returns-in-None-clause-along g c =
    each_target c.args.graph.now c.args.node c.loop-edge.edge (λ to. IsMarked c.loop-edge.found.marks.items to) (c.in-None.ensures.none.0 refl) c.loop-edge.invariant.along

pub loop-edge-preserved : goal.loop-edge-preserved
loop-edge-preserved g c = record {
  found = c.in_ok-find-in-Some.ensures.found;
  grows = record {
    kept = λ node marked. c.in_ok-find-in-Some.ensures.grows.kept node (c.loop-edge.invariant.grows.kept node marked);
    longer = omega (arith, c.in_ok-find-in-Some.ensures.grows.longer, c.loop-edge.invariant.grows.longer);
    same = λ i below. let longer = c.loop-edge.invariant.grows.longer in let first = c.in_ok-find-in-Some.ensures.grows.same i (omega arith) in let second = c.loop-edge.invariant.grows.same i below in cc;
    balance = omega (arith, c.in_ok-find-in-Some.ensures.grows.balance, c.loop-edge.invariant.grows.balance);
  };
  along =
      below_more (λ k. k < length (targets c.args.graph.now c.args.node) → IsMarked c.find.new.found.marks.items (slice_index (targets c.args.graph.now c.args.node) k)) c.loop-edge.edge
      (λ k less within. c.in_ok-find-in-Some.ensures.grows.kept (slice_index (targets c.args.graph.now c.args.node) k) (c.loop-edge.invariant.along k less within))
      (λ within. subst (λ v. IsMarked c.find.new.found.marks.items v) (sym (get_or_from_slice_get (targets c.args.graph.now c.args.node) c.loop-edge.edge c.in-Some.to 0 (sym c.in-Some.ensures.edge))) c.in_ok-find-in-Some.ensures.here);
}

pub returns-clause-along : goal.returns-clause-along
returns-clause-along g c =
    each_target c.args.graph.now c.args.node c.loop-edge.edge (λ to. IsMarked c.loop-edge.found.marks.items to) (let few = few_targets c.args.graph.now c.args.node c.requires.valid c.requires.node in omega (arith, few, c.loop-edge-test.false)) c.loop-edge.invariant.along
