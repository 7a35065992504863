use Rattle.std.proofs.Common.{sym, subst}
use Rattle.std.specs.Option.{option_copied}
use Rattle.cv_spec_valuation.specs.Element.{the_element, values_of}
use Rattle.cv_element.proofs.Ending.{settled_is, faults_are, ranged, in_range, settling_first}
use Rattle.cv_element.proofs.Reported.{faults_by_reports}
use Rattle.cv_element.proofs.valuation.settled.Goals as goal

pub settle_all-requires-clause-begun : goal.settle_all-requires-clause-begun
settle_all-requires-clause-begun c =
    settling_first c.args.registry.now c.args.decls.now (option_copied c.args.parent) c.args.at.now c.args.limit c.properties_are_found.ensures c.len-2.ensures.once c.args.order.now.nodes.items c.args.order.now.cyclic.items c.requires.plan c.in_ok-settling.settling c.in_ok-settling.ensures.values c.in_ok-settling.ensures.runs c.in_ok-settling.ensures.faults c.in_ok-settling.ensures.range

pub returns-clause-solves : goal.returns-clause-solves
returns-clause-solves c =
    c.settled_values_solve.ensures.solves (the_element c.args.registry.now c.args.decls.now (option_copied c.args.parent) c.args.at.now c.args.limit) (c.elements_are_lawful.ensures c.args.registry.now c.args.decls.now (option_copied c.args.parent) c.args.at.now c.args.limit c.len.ensures.entries c.requires.parent) (values_of c.settle_all.new.settling.values) (settled_is c.args.registry.now c.args.decls.now (option_copied c.args.parent) c.args.at.now c.args.limit c.properties_are_found.ensures c.len-2.ensures.once c.args.order.now.nodes.items c.args.order.now.cyclic.items c.requires.plan c.settle_all.new.settling c.in_ok-settle_all.ensures.settled)

pub returns-clause-told : goal.returns-clause-told
returns-clause-told c =
    faults_are c.args.registry.now c.args.decls.now (option_copied c.args.parent) c.args.at.now c.args.limit c.properties_are_found.ensures c.len-2.ensures.once c.args.order.now.nodes.items c.args.order.now.cyclic.items c.requires.plan c.settle_all.new.settling c.in_ok-settle_all.ensures.settled (returns-clause-solves c) (record { causes = c.causes_are_kept.ensures.causes (the_element c.args.registry.now c.args.decls.now (option_copied c.args.parent) c.args.at.now c.args.limit) (c.elements_are_lawful.ensures c.args.registry.now c.args.decls.now (option_copied c.args.parent) c.args.at.now c.args.limit c.len.ensures.entries c.requires.parent); ranges = c.causes_are_kept.ensures.ranges (the_element c.args.registry.now c.args.decls.now (option_copied c.args.parent) c.args.at.now c.args.limit) (c.elements_are_lawful.ensures c.args.registry.now c.args.decls.now (option_copied c.args.parent) c.args.at.now c.args.limit c.len.ensures.entries c.requires.parent) }) (c.has_one_cause.ensures.declared (the_element c.args.registry.now c.args.decls.now (option_copied c.args.parent) c.args.at.now c.args.limit) (values_of c.settle_all.new.settling.values))

pub returns-clause-faults : goal.returns-clause-faults
returns-clause-faults c =
    faults_by_reports (the_element c.args.registry.now c.args.decls.now (option_copied c.args.parent) c.args.at.now c.args.limit) (values_of c.settle_all.new.settling.values) c.settle_all.new.settling.faults (returns-clause-told c)

pub returns-clause-range : goal.returns-clause-range
returns-clause-range c =
    λ key is. ((values_of c.settle_all.new.settling.values), returns-clause-solves c, ranged c.args.registry.now c.args.decls.now (option_copied c.args.parent) c.args.at.now c.args.limit c.properties_are_found.ensures c.len-2.ensures.once c.args.order.now.nodes.items c.args.order.now.cyclic.items c.requires.plan c.settle_all.new.settling c.in_ok-settle_all.ensures.settled (returns-clause-solves c) (record { causes = c.causes_are_kept.ensures.causes (the_element c.args.registry.now c.args.decls.now (option_copied c.args.parent) c.args.at.now c.args.limit) (c.elements_are_lawful.ensures c.args.registry.now c.args.decls.now (option_copied c.args.parent) c.args.at.now c.args.limit c.len.ensures.entries c.requires.parent); ranges = c.causes_are_kept.ensures.ranges (the_element c.args.registry.now c.args.decls.now (option_copied c.args.parent) c.args.at.now c.args.limit) (c.elements_are_lawful.ensures c.args.registry.now c.args.decls.now (option_copied c.args.parent) c.args.at.now c.args.limit c.len.ensures.entries c.requires.parent) }) (c.has_one_cause.ensures.declared (the_element c.args.registry.now c.args.decls.now (option_copied c.args.parent) c.args.at.now c.args.limit) (values_of c.settle_all.new.settling.values)) key is)

pub returns-clause-in_range : goal.returns-clause-in_range
returns-clause-in_range c =
    λ none key out. in_range c.args.registry.now c.args.decls.now (option_copied c.args.parent) c.args.at.now c.args.limit c.properties_are_found.ensures c.len-2.ensures.once c.args.order.now.nodes.items c.args.order.now.cyclic.items c.requires.plan c.settle_all.new.settling c.in_ok-settle_all.ensures.settled (returns-clause-solves c) (record { causes = c.causes_are_kept.ensures.causes (the_element c.args.registry.now c.args.decls.now (option_copied c.args.parent) c.args.at.now c.args.limit) (c.elements_are_lawful.ensures c.args.registry.now c.args.decls.now (option_copied c.args.parent) c.args.at.now c.args.limit c.len.ensures.entries c.requires.parent); ranges = c.causes_are_kept.ensures.ranges (the_element c.args.registry.now c.args.decls.now (option_copied c.args.parent) c.args.at.now c.args.limit) (c.elements_are_lawful.ensures c.args.registry.now c.args.decls.now (option_copied c.args.parent) c.args.at.now c.args.limit c.len.ensures.entries c.requires.parent) }) (c.has_one_cause.ensures.declared (the_element c.args.registry.now c.args.decls.now (option_copied c.args.parent) c.args.at.now c.args.limit) (values_of c.settle_all.new.settling.values)) none key ((c.has_one_valuation.ensures.same_ranges (the_element c.args.registry.now c.args.decls.now (option_copied c.args.parent) c.args.at.now c.args.limit) (c.elements_are_lawful.ensures c.args.registry.now c.args.decls.now (option_copied c.args.parent) c.args.at.now c.args.limit c.len.ensures.entries c.requires.parent) out.0 (values_of c.settle_all.new.settling.values) out.1 (returns-clause-solves c) key).0 out.2)
