use Rattle.std.specs.Prelude.{All}
use Rattle.std.proofs.Common.{subst, List}
use Rattle.cv_spec_text.specs.Splits.{IsSpelt}
use Rattle.cv_spec_text.specs.declared.token.Token.{Token}
use Rattle.cv_color.proofs.text.alpha_alone.Goals as goal

pub returns-clause-spelt : goal.returns-clause-spelt
returns-clause-spelt c = subst (λ (ts : List Token). All IsSpelt ts) c.in_ok-calc_tokens.ensures.text c.in_ok-calc_tokens.ensures.spelt
