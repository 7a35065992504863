use Rattle.std.proofs.Common.{◌≡◌, ◌<◌, ℕ, List, Bool, false, length, slice_index_or, sym, ◌∙◌, ap, arith}
use Rattle.std.specs.Option.{option_copied}
use Rattle.cv_graph.specs.Edges.{targets}
use Rattle.cv_element.specs.Holding.{with_size}
use Rattle.cv_element.specs.Settling.{key_at}
use Rattle.cv_element.proofs.Sizing.{needs_are, more_few, all_more}
use Rattle.cv_element.proofs.held.add_sizes_to.Goals as goal

pub returns-clause-edges : goal.returns-clause-edges
returns-clause-edges c = λ most from to below.
    needs_are c.args.registry.now c.args.decls.now (option_copied c.args.parent) c.args.at.now c.properties_are_found.ensures c.len.ensures.once c.args.graph.now c.requires.nodes c.requires.edges c.args.size c.requires.sized.0 c.requires.sized.1 c.in_ok-marks.marks.items c.in_ok-marks.ensures.held c.connect_sizes.new.graph
    (λ i within. c.in_ok-connect_sizes.ensures.rows i within ∙ ap (λ (l : List Bool). with_size c.args.registry.now (key_at c.args.decls.now i) (slice_index_or l i false) c.args.size (targets c.args.graph.now i)) c.deref.ensures.value)
    most from to (omega (arith, below, c.requires.nodes, c.in_ok-connect_sizes.ensures.count))

pub returns-clause-bound : goal.returns-clause-bound
returns-clause-bound c =
    all_more c.args.decls.now c.connect_sizes.new.graph (c.in_ok-connect_sizes.ensures.count ∙ c.requires.nodes) c.requires.sized.2
    (more_few c.args.registry.now c.args.decls.now (option_copied c.args.parent) c.args.at.now c.properties_are_found.ensures c.len.ensures.once c.args.graph.now c.requires.nodes c.requires.edges c.args.size c.requires.sized.0 c.requires.sized.1 c.in_ok-marks.marks.items c.in_ok-marks.ensures.held c.connect_sizes.new.graph
    (λ i within. c.in_ok-connect_sizes.ensures.rows i within ∙ ap (λ (l : List Bool). with_size c.args.registry.now (key_at c.args.decls.now i) (slice_index_or l i false) c.args.size (targets c.args.graph.now i)) c.deref.ensures.value)
    0 c.requires.bound)
