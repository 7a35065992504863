use Rattle.std.proofs.Common.{sym, ◌∙◌, ap, subst}
use Rattle.std.specs.Prelude.{List, All, ◌++◌}
use Rattle.cv_spec_text.specs.declared.token.Token.{Token}
use Rattle.cv_spec_text.specs.Splits.{IsSpelt}
use Rattle.cv_tokser.specs.Clean.{IsClean}
use Rattle.cv_simplify.specs.Text.{calc_text}
use Rattle.cv_simplify.proofs.CleanTexts.{text_clean}
use Rattle.cv_simplify.proofs.SpeltTexts.{text_spelt}
use Rattle.cv_simplify.proofs.text.calc_tokens.Goals as goal

pub returns-clause-spelt : goal.returns-clause-spelt
returns-clause-spelt c =
    subst (λ (l : List Token). All IsSpelt l) (sym (c.in_ok-write_whole.ensures ∙ ap (λ ts. ts ++ calc_text c.args.c.now) c.new-tokens.ensures.items)) (text_spelt c.args.c.now)

pub returns-clause-clean : goal.returns-clause-clean
returns-clause-clean c =
    subst (λ (l : List Token). IsClean l) (sym (c.in_ok-write_whole.ensures ∙ ap (λ ts. ts ++ calc_text c.args.c.now) c.new-tokens.ensures.items)) (text_clean c.args.c.now)
