use Rattle.std.proofs.Common.{ℕ, ◌<◌, ◌≡◌, length, sym, ◌∙◌, ap, subst, arith}
use Rattle.std.specs.Prelude.{slice_index}
use Rattle.std.proofs.lemmas.Grind.{get_or_default_zero}
use Rattle.cv_graph.specs.Edges.{HasEdge}
use Rattle.cv_cycle.specs.Marks.{IsMarked}
use Rattle.cv_cycle.specs.Spreading.{IsReached}
use Rattle.cv_cycle.proofs.Marking.{IsMarked-below}
use Rattle.cv_cycle.proofs.Spreading.{closed_more, all_reached}
use Rattle.cv_cycle.proofs.spread.spread_all.Goals as goal

pub spread_from-requires-clause-node : goal.spread_from-requires-clause-node
spread_from-requires-clause-node g c =
    let found = c.loop-place.invariant.found in
    let within : c.loop-place.place < length c.loop-place.found.nodes.items = omega (arith, c.loop-place-test.true, c.len.ensures) in
    let marked : IsMarked c.loop-place.found.marks.items (slice_index c.loop-place.found.nodes.items c.loop-place.place) = found.marked c.loop-place.place within in
    let below = IsMarked-below c.loop-place.found.marks.items (slice_index c.loop-place.found.nodes.items c.loop-place.place) marked in
    let is : c.index-node.result.now ≡ slice_index c.loop-place.found.nodes.items c.loop-place.place =
    c.index-node.ensures ∙ get_or_default_zero c.loop-place.found.nodes.items c.loop-place.place c.index-node.result.now within in
    omega (arith, found.count, is, below)

pub spread_from-requires-clause-reached : goal.spread_from-requires-clause-reached
spread_from-requires-clause-reached g c =
    let within : c.loop-place.place < length c.loop-place.found.nodes.items = omega (arith, c.loop-place-test.true, c.len.ensures) in
    let is : c.index-node.result.now ≡ slice_index c.loop-place.found.nodes.items c.loop-place.place =
    c.index-node.ensures ∙ get_or_default_zero c.loop-place.found.nodes.items c.loop-place.place c.index-node.result.now within in
    subst (λ v. IsReached c.args.graph.now c.args.starts.now v) (sym is) (c.loop-place.invariant.found.reached c.loop-place.place within)

pub loop-place-preserved : goal.loop-place-preserved
loop-place-preserved g c =
    let within : c.loop-place.place < length c.loop-place.found.nodes.items = omega (arith, c.loop-place-test.true, c.len.ensures) in
    let is : c.index-node.result.now ≡ slice_index c.loop-place.found.nodes.items c.loop-place.place =
    c.index-node.ensures ∙ get_or_default_zero c.loop-place.found.nodes.items c.loop-place.place c.index-node.result.now within in
    record {
      found = c.in_ok-spread_from.ensures.found;
      starts = λ node marked. c.in_ok-spread_from.ensures.grows.kept node (c.loop-place.invariant.starts node marked);
      within = let longer = c.in_ok-spread_from.ensures.grows.longer in omega arith;
      closed = closed_more c.args.graph.now c.loop-place.found c.spread_from.new.found c.loop-place.place within c.in_ok-spread_from.ensures.grows c.loop-place.invariant.closed (λ to edge. c.in_ok-spread_from.ensures.along to (subst (λ v. HasEdge c.args.graph.now v to) (sym is) edge));
    }

pub returns-clause-reached : goal.returns-clause-reached
returns-clause-reached g c =
    all_reached c.args.graph.now c.args.starts.now c.loop-place.found c.loop-place.invariant.found c.loop-place.invariant.starts (λ i to below. c.loop-place.invariant.closed i to (omega (arith, c.loop-place-test.false, c.len.ensures)))
