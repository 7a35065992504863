use Rattle.std.proofs.Common.{◌≡◌, ℕ, length, sym, ◌∙◌, arith}
use Rattle.std.specs.Option.{option_copied}
use Rattle.cv_spec_valuation.specs.Element.{the_element}
use Rattle.cv_element.specs.Settling.{key_at}
use Rattle.cv_element.proofs.Ordering.{numbering, plan}
use Rattle.cv_element.proofs.planning.planned.Goals as goal

pub returns-clause-plan : goal.returns-clause-plan
returns-clause-plan g c = λ most.
    plan c.args.registry.now c.args.decls.now (option_copied c.args.parent) c.args.at.now most c.properties_are_found.ensures c.len-2.ensures.once c.add_sizes.new.graph (c.in_ok-add_sizes.ensures.count ∙ c.in_ok-graph.ensures.count) (λ from to below. c.in_ok-add_sizes.ensures.edges most from to below) (c.elements_are_lawful.ensures c.args.registry.now c.args.decls.now (option_copied c.args.parent) c.args.at.now most c.len.ensures.entries c.requires.parent).named c.in_ok-order.order.nodes.items c.in_ok-order.order.cyclic.items
    (c.numbers_keep_cycles.ensures.same (the_element c.args.registry.now c.args.decls.now (option_copied c.args.parent) c.args.at.now most) (key_at c.args.decls.now) c.add_sizes.new.graph (c.elements_are_lawful.ensures c.args.registry.now c.args.decls.now (option_copied c.args.parent) c.args.at.now most c.len.ensures.entries c.requires.parent).named (numbering c.args.registry.now c.args.decls.now (option_copied c.args.parent) c.args.at.now most c.properties_are_found.ensures c.len-2.ensures.once c.add_sizes.new.graph (c.in_ok-add_sizes.ensures.count ∙ c.in_ok-graph.ensures.count) (λ from to below. c.in_ok-add_sizes.ensures.edges most from to below)))
    c.in_ok-order.ensures.cyclic c.in_ok-order.ensures.stands c.in_ok-order.ensures.once c.in_ok-order.ensures.earlier
