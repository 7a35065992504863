use Rattle.std.proofs.Common.{◌≡◌, length, sym, subst, arith}
use Rattle.std.specs.Option.{option_copied}
use Rattle.cv_spec_valuation.specs.Element.{the_element}
use Rattle.cv_element.specs.Settling.{IsSettling}
use Rattle.cv_element.specs.Values.{start_at}
use Rattle.cv_element.proofs.Whole.{number_within, next}
use Rattle.cv_element.proofs.valuation.settle_all.Goals as goal

pub index-requires-in-loop-place : goal.index-requires-in-loop-place
index-requires-in-loop-place c =
    let within = number_within c.args.registry.now c.args.decls.now (option_copied c.args.parent) c.args.at.now c.args.limit c.properties_are_found.ensures c.len-place-end.ensures.once c.args.order.now.nodes.items c.args.order.now.cyclic.items c.requires.plan c.loop-place.place (omega arith) c.index.result.now c.index.ensures (omega arith) in
    omega (arith, within)

pub settle_at-requires-clause-place : goal.settle_at-requires-clause-place
settle_at-requires-clause-place c =
    number_within c.args.registry.now c.args.decls.now (option_copied c.args.parent) c.args.at.now c.args.limit c.properties_are_found.ensures c.len-place-end.ensures.once c.args.order.now.nodes.items c.args.order.now.cyclic.items c.requires.plan c.loop-place.place (omega arith) c.index.result.now c.index.ensures (omega arith)

pub loop-place-preserved : goal.loop-place-preserved
loop-place-preserved c = record {
  settling = next c.args.registry.now c.args.decls.now (option_copied c.args.parent) c.args.at.now c.args.limit c.properties_are_found.ensures c.len-place-end.ensures.once c.args.order.now.nodes.items c.args.order.now.cyclic.items c.requires.plan c.loop-place.place (omega arith) c.index.result.now c.index.ensures (omega arith) (record {
    used = c.declarations_are_judged.ensures.used (the_element c.args.registry.now c.args.decls.now (option_copied c.args.parent) c.args.at.now c.args.limit);
    refused = c.declarations_are_judged.ensures.refused (the_element c.args.registry.now c.args.decls.now (option_copied c.args.parent) c.args.at.now c.args.limit);
    ranged = c.declarations_are_judged.ensures.ranged (the_element c.args.registry.now c.args.decls.now (option_copied c.args.parent) c.args.at.now c.args.limit);
  }) c.pieces_are_read.ensures c.outcomes_are_by_key.ensures c.loop-place.settling c.settle_at.new.settling c.loop-place.invariant.settling c.index-in-loop-place.result.now c.index-in-loop-place.ensures (let within = number_within c.args.registry.now c.args.decls.now (option_copied c.args.parent) c.args.at.now c.args.limit c.properties_are_found.ensures c.len-place-end.ensures.once c.args.order.now.nodes.items c.args.order.now.cyclic.items c.requires.plan c.loop-place.place (omega arith) c.index.result.now c.index.ensures (omega arith) in omega (arith, within)) c.in_ok-settle_at.ensures.settles;
  stand = c.in_ok-settle_at.ensures.stand;
}

pub returns-clause-settled : goal.returns-clause-settled
returns-clause-settled c =
    let whole : c.loop-place.place ≡ length c.args.decls.now = omega (arith, c.loop-place-test.false, c.len-place-end.ensures.len, c.loop-place.auto.place-end) in
    subst (λ n. IsSettling (the_element c.args.registry.now c.args.decls.now (option_copied c.args.parent) c.args.at.now c.args.limit) c.args.decls.now c.args.order.now.nodes.items (start_at c.args.registry.now (option_copied c.args.parent)) n c.loop-place.settling) whole c.loop-place.invariant.settling
