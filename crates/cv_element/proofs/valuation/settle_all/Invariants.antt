use Rattle.std.specs.Option.{option_copied}
use Rattle.cv_spec_valuation.specs.Computed.{StandUnder}
use Rattle.cv_spec_valuation.specs.Element.{the_element}
use Rattle.cv_element.specs.Settling.{IsSettling}
use Rattle.cv_element.specs.Values.{start_at}
use Rattle.cv_element.proofs.valuation.settle_all.Given as goal

abbrev pub invariant-loop-place : goal.invariant-loop-place
invariant-loop-place l = record {
  settling : IsSettling (the_element l.registry l.decls (option_copied l.parent) l.at l.limit) l.decls l.order.nodes.items (start_at l.registry (option_copied l.parent)) l.place l.settling;
  stand : StandUnder l.registry l.settling.values;
}
