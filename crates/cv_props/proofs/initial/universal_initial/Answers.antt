use Rattle.std.proofs.Common.{sym, ◌∙◌, subst}
use Rattle.std.specs.Prelude.{All}
use Rattle.cv_spec_text.specs.Splits.{IsSpelt}
use Rattle.cv_props.specs.Registered.{IsUniversal}
use Rattle.cv_props.proofs.Universal.{universal}
use Rattle.cv_props.proofs.initial.universal_initial.Goals as goal

pub returns-in_ok-share-clause-kept : goal.returns-in_ok-share-clause-kept
returns-in_ok-share-clause-kept c =
    let list = c.tokens.result.now in
    let is = universal list (subst (All IsSpelt) (sym c.tokens.ensures.tokens) c.tokens.ensures.spelt) (sym c.in_ok-is_universal_value.ensures ∙ c.if-branch.true) in
    subst IsUniversal (c.tokens.ensures.tokens ∙ sym c.in_ok-share.ensures) is
