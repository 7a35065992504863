use Rattle.std.proofs.Common.{◌≡◌, ◌<◌, ◌≢◌, ℕ, List, false, length, slice_index_or, [], ◌∷◌, ◌++◌, refl, sym, ◌∙◌, ap, arith}
use Rattle.cv_graph.specs.Edges.{targets}
use Rattle.cv_element.specs.Holding.{with_size}
use Rattle.cv_element.specs.Settling.{key_at}
use Rattle.cv_element.proofs.Graphing.{rows_keep}
use Rattle.cv_element.proofs.Sizing.{size_room, sized_row}
use Rattle.cv_element.proofs.held.connect_sizes.Goals as goal

pub connect_size-requires-clause-room : goal.connect_size-requires-clause-room
connect_size-requires-clause-room c =
    let room = size_room c.args.decls.now c.args.size c.requires.named c.args.graph.now c.requires.edges c.loop-place.place (omega arith) c.requires.size (c.requires.once c.loop-place.place (omega arith)) in
    omega (arith, room, ap (λ (l : List ℕ). length l) (c.loop-place.invariant.rest c.loop-place.place (omega arith)))

pub loop-place-preserved : goal.loop-place-preserved
loop-place-preserved c = record {
  done = rows_keep c.loop-place.graph c.connect_size.new.graph c.loop-place.place c.in_ok-connect_size.ensures.others (λ from row. row ≡ with_size c.args.registry.now (key_at c.args.decls.now from) (slice_index_or c.args.marks.now from false) c.args.size (targets c.args.graph.now from))
      (sized_row c.args.registry.now (key_at c.args.decls.now c.loop-place.place) (slice_index_or c.args.marks.now c.loop-place.place false) c.args.size c.reads_at-reads.result c.reads_at-reads.ensures (targets c.loop-place.graph c.loop-place.place) (targets c.args.graph.now c.loop-place.place) (c.loop-place.invariant.rest c.loop-place.place (omega arith)) (targets c.connect_size.new.graph c.loop-place.place) c.in_ok-connect_size.ensures.row)
      c.loop-place.invariant.done;
  rest = λ from below. c.in_ok-connect_size.ensures.others from (let apart : from ≢ c.loop-place.place = omega (arith, below) in apart) ∙ c.loop-place.invariant.rest from (omega (arith, below));
  count = c.in_ok-connect_size.ensures.count ∙ c.loop-place.invariant.count;
}

pub returns-clause-rows : goal.returns-clause-rows
returns-clause-rows c = λ from below. c.loop-place.invariant.done from (omega (arith, below))
