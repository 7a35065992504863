use Rattle.std.proofs.Common.{sym, subst}
use Rattle.std.specs.Prelude.{OnOk}
use Rattle.cv_spec_valuation.specs.Computed.{StandUnder}
use Rattle.cv_element.proofs.Keeping.{stand-with, ok_values}
use Rattle.cv_element.proofs.settling.put.Goals as goal

pub returns-clause-stand : goal.returns-clause-stand
returns-clause-stand c =
    ok_values _ _ _ (StandUnder c.args.registry.now) c.put.ensures.ok (stand-with c.outcomes_are_by_key.ensures c.properties_are_found.ensures c.args.registry.now c.args.settling.now.values c.requires.stand c.args.key c.args.outcome c.requires.comes)
