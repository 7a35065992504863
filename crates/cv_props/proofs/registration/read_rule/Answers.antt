use Rattle.std.proofs.Common.{sym, subst, ap, ◌∙◌}
use Rattle.std.specs.Prelude.{All}
use Rattle.cv_spec_text.specs.Splits.{IsSpelt}
use Rattle.cv_component.specs.declared.sheet.Rule.TheVariants as rules
use Rattle.cv_props.specs.Reading.{IsSpeltRule}
use Rattle.cv_props.proofs.registration.read_rule.Goals as goal

pub read_block-requires-clause-spelt : goal.read_block-requires-clause-spelt
read_block-requires-clause-spelt c =
    subst (All IsSpelt) (sym c.as_slice-in-Some-block.ensures)
    (subst IsSpeltRule (c.in-At.is ∙ ap (λ block. rules.At c.in-At.name c.in-At.prelude block) c.in-Some-block.is) c.requires)
