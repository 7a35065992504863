use Rattle.std.proofs.Common.{Some, sym, ◌∙◌, ap}
use Rattle.std.specs.Option.{option_copied}
use Rattle.cv_spec_valuation.specs.Element.{the_element, values_of}
use Rattle.cv_element.proofs.Reported.{all_told, only, range_same}
use Rattle.cv_element.proofs.Sorting.{moved, once-permutation, told-permutation}
use Rattle.cv_element.proofs.valuation.element.Goals as goal

pub returns-clause-only : goal.returns-clause-only
returns-clause-only g c =
    only (the_element c.args.registry.now c.args.decls.now (option_copied c.args.parent) c.args.at.now c.args.limit) (c.has_one_valuation.ensures.exactly_one (the_element c.args.registry.now c.args.decls.now (option_copied c.args.parent) c.args.at.now c.args.limit) (c.elements_are_lawful.ensures c.args.registry.now c.args.decls.now (option_copied c.args.parent) c.args.at.now c.args.limit c.len.ensures.entries c.requires.parent)) (values_of c.in_ok-settling.settling.values) c.in_ok-settling.ensures.solves

pub returns-clause-faults : goal.returns-clause-faults
returns-clause-faults g c =
    told-permutation c.in_ok-settling.settling.faults c.in_ok-faults.faults
    (moved c.in_ok-settling.settling.faults c.as_slice.result.now c.in_ok-faults.faults c.as_slice.ensures c.in_ok-faults.ensures.same)
    c.in_ok-settling.ensures.faults

pub returns-clause-told : goal.returns-clause-told
returns-clause-told g c =
    all_told (the_element c.args.registry.now c.args.decls.now (option_copied c.args.parent) c.args.at.now c.args.limit) (values_of c.in_ok-settling.settling.values) c.in_ok-settling.settling.faults c.in_ok-faults.faults c.in_ok-settling.ensures.told (returns-clause-faults g c)

pub returns-clause-once : goal.returns-clause-once
returns-clause-once g c =
    once-permutation c.in_ok-settling.settling.faults c.in_ok-faults.faults
    (moved c.in_ok-settling.settling.faults c.as_slice.result.now c.in_ok-faults.faults c.as_slice.ensures c.in_ok-faults.ensures.same)
    c.in_ok-settling.ensures.once

pub returns-clause-in_range : goal.returns-clause-in_range
returns-clause-in_range g c = c.in_ok-settling.ensures.in_range c.in_default.is

pub returns-clause-computed : goal.returns-clause-computed
returns-clause-computed g c = record {
  solves = c.in_ok-settling.ensures.solves;
  faults = returns-clause-faults g c;
  told = returns-clause-told g c;
  once = returns-clause-once g c;
  ordered = c.in_ok-faults.ensures.ordered;
  in_range = returns-clause-in_range g c;
}

pub settled-requires-clause-plan : goal.settled-requires-clause-plan
settled-requires-clause-plan g c = c.in_ok-order.ensures.plan c.args.limit

pub returns-in-Some-clause-range : goal.returns-in-Some-clause-range
returns-in-Some-clause-range g c = λ key same. c.in_ok-settling.ensures.range key (c.in-Some.is ∙ ap Some (range_same c.in-Some.key key same))
