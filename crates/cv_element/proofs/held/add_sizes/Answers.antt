use Rattle.std.proofs.Common.{◌≡◌, ℕ, refl, sym, subst, arith}
use Rattle.std.specs.Option.{option_copied}
use Rattle.cv_element.specs.Holding.{IsSizedAt}
use Rattle.cv_element.proofs.Sizing.{needs_none, all_few}
use Rattle.cv_element.proofs.held.add_sizes.Goals as goal

pub add_sizes_to-requires-clause-sized : goal.add_sizes_to-requires-clause-sized
add_sizes_to-requires-clause-sized c = subst (IsSizedAt c.args.decls.now) c.in-Some.is c.size_place.ensures

pub returns-in-None-clause-edges : goal.returns-in-None-clause-edges
returns-in-None-clause-edges c = λ most from to below.
    needs_none c.args.registry.now c.args.decls.now (option_copied c.args.parent) c.args.at.now c.properties_are_found.ensures c.len.ensures.once c.args.graph.now c.requires.nodes c.requires.edges (subst (IsSizedAt c.args.decls.now) c.in-None.is c.size_place.ensures) most from to below

pub returns-in-None-clause-bound : goal.returns-in-None-clause-bound
returns-in-None-clause-bound c = all_few c.args.decls.now c.args.graph.now c.requires.nodes (λ i below. c.requires.bound i (omega (arith, below, c.requires.nodes)))
