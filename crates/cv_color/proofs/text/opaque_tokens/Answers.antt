use Rattle.std.specs.Prelude.{All}
use Rattle.std.proofs.Common.{subst, sym, List}
use Rattle.cv_spec_text.specs.Splits.{IsSpelt}
use Rattle.cv_spec_text.specs.declared.token.Token.{Token}
use Rattle.cv_tokser.specs.Clean.{IsClean}
use Rattle.cv_color.proofs.CleanText.{clean_opaque}
use Rattle.cv_color.proofs.SpeltText.{spelt_opaque}
use Rattle.cv_color.proofs.text.opaque_tokens.Goals as goal

pub returns-clause-clean : goal.returns-clause-clean
returns-clause-clean c = subst (λ (ts : List Token). IsClean ts) (sym c.in_ok-opaque_list.ensures) (clean_opaque c.args.r c.args.g c.args.b)

pub returns-clause-spelt : goal.returns-clause-spelt
returns-clause-spelt c =
    subst (λ (ts : List Token). All IsSpelt ts) (sym c.in_ok-opaque_list.ensures) (spelt_opaque c.args.r c.args.g c.args.b c.ranges.r.fits c.ranges.g.fits c.ranges.b.fits)
