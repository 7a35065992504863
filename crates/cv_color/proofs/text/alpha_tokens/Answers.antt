use Rattle.std.specs.Prelude.{All}
use Rattle.std.proofs.Common.{subst, sym, List}
use Rattle.cv_spec_text.specs.Splits.{IsSpelt}
use Rattle.cv_spec_text.specs.declared.token.Token.{Token}
use Rattle.cv_tokser.specs.Clean.{IsClean}
use Rattle.cv_color.proofs.CleanText.{clean_alpha}
use Rattle.cv_color.proofs.SpeltText.{spelt_alpha}
use Rattle.cv_color.proofs.text.alpha_tokens.Goals as goal

pub returns-clause-clean : goal.returns-clause-clean
returns-clause-clean c = subst (λ (ts : List Token). IsClean ts) (sym c.in_ok-alpha_list.ensures.tokens) (clean_alpha c.args.r c.args.g c.args.b c.args.a)

pub returns-clause-spelt : goal.returns-clause-spelt
returns-clause-spelt c =
    subst (λ (ts : List Token). All IsSpelt ts) (sym c.in_ok-alpha_list.ensures.tokens)
    (spelt_alpha c.args.r c.args.g c.args.b c.args.a c.ranges.r.fits c.ranges.g.fits c.ranges.b.fits c.in_ok-alpha_list.ensures.alpha)
