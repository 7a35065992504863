use Rattle.std.specs.Prelude.{All}
use Rattle.std.proofs.Common.{subst}
use Rattle.cv_spec_text.specs.Splits.{IsSpelt}
use Rattle.cv_subst.specs.Limited.{Limited}
use Rattle.cv_subst.proofs.bounded.Bounded.tokens.Goals as goal

pub returns-clause-spelt : goal.returns-clause-spelt
returns-clause-spelt c = subst (λ (l : Limited). All IsSpelt l.tokens) c.self.view_is c.tokens.ensures.spelt
