use Rattle.std.proofs.Common.{◌≡◌, ◌++◌, [], ◌∙◌, ap, subst, sym}
use Rattle.std.specs.Prelude.{All, map}
use Rattle.cv_spec_text.specs.Splits.{IsSpelt}
use Rattle.cv_spec_text.specs.declared.token.Token.TheVariants.{Close}
use Rattle.cv_component.specs.Nesting.{completed, nesting_past}
use Rattle.cv_component.proofs.Spelt.{all_completed}
use Rattle.cv_map.proofs.value.value_in.Goals as goal

pub of-requires : goal.of-requires
of-requires c =
    let same : c.close.new.tokens.items ≡ completed c.in_ok-tokens.tokens.items =
    c.in_ok-close.ensures ∙ ap (λ n. c.in_ok-tokens.tokens.items ++ map Close n) (c.in_ok-open.ensures ∙ ap (nesting_past []) c.deref.ensures.value) in
    subst (All IsSpelt) (sym same) (all_completed c.in_ok-tokens.tokens.items c.in_ok-tokens.ensures.spelt)
