use Rattle.std.specs.Option.{option_copied}
use Rattle.cv_element.proofs.Standing.{invalid_stands, ok_stands}
use Rattle.cv_element.proofs.values.invalid_value.Goals as goal

pub returns-clause-stands : goal.returns-clause-stands
returns-clause-stands c =
    ok_stands c.args.registry.now c.args.key.now c.refused_value.result _ c.refused_value.ensures (invalid_stands c.properties_may_be_kept.ensures c.args.registry.now c.len.ensures.entries (option_copied c.args.parent) c.requires.parent c.args.key.now)
