use Rattle.std.proofs.Common.{◌∙◌, ap, sym, subst, length, arith}
use Rattle.std.specs.Prelude.{All}
use Rattle.cv_props.specs.Reading.{IsSpeltRule}
use Rattle.cv_props.proofs.Split.{few_rules, spelt_rules}
use Rattle.cv_props.proofs.registry.Registry.of_sheet.Goals as goal

pub of_rules-requires-clause-spelt : goal.of_rules-requires-clause-spelt
of_rules-requires-clause-spelt c =
    subst (All IsSpeltRule) (sym (c.deref.ensures.value ∙ c.in_ok-all.ensures)) (spelt_rules c.args.tokens.now c.requires.spelt)

pub of_rules-requires-clause-few : goal.of_rules-requires-clause-few
of_rules-requires-clause-few c =
    let same = ap length (c.deref.ensures.value ∙ c.in_ok-all.ensures) in
    omega (arith, same, few_rules c.args.tokens.now, c.requires.few)
