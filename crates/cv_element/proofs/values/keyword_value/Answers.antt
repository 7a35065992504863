use Rattle.cv_spec_element.specs.Keywords.{by_keyword}
use Rattle.std.specs.Option.{option_copied}
use Rattle.cv_element.specs.Keywords.{wide}
use Rattle.cv_element.proofs.Standing.{keyword_stands, ok_stands}
use Rattle.cv_element.proofs.values.keyword_value.Goals as goal

pub returns-clause-stands : goal.returns-clause-stands
returns-clause-stands c =
    ok_stands c.args.registry.now c.args.key.now c.given_value.result _ c.given_value.ensures (keyword_stands c.properties_may_be_kept.ensures c.args.registry.now c.len.ensures.entries (option_copied c.args.parent) c.requires.parent c.args.key.now (wide c.args.keyword))
