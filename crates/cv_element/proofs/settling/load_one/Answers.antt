use Rattle.std.proofs.Common.{◌≡◌, sym, ◌∙◌, subst}
use Rattle.std.specs.Prelude.{All}
use Rattle.cv_spec_text.specs.Splits.{IsSpelt}
use Rattle.cv_valuation.specs.declared.key.Key.TheVariants.{Custom}
use Rattle.cv_valuation.specs.Valuations.{MayKeep}
use Rattle.cv_element.proofs.settling.load_one.Goals as goal

pub of-requires : goal.of-requires
of-requires c =
    let kept = subst (λ o. MayKeep (Custom c.in_ok-copy.field-0) o) c.in-Value.is c.get-2.ensures.kept in
    subst (λ l. All IsSpelt l) (sym c.in_ok-typed_tokens-in-Value.ensures) (c.values_may_be_kept.ensures.spelt c.in-Value.value kept.1)
