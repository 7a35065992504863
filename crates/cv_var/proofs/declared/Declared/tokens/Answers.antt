use Rattle.std.specs.Prelude.{All}
use Rattle.std.proofs.Common.{subst}
use Rattle.cv_spec_text.specs.Splits.{IsSpelt}
use Rattle.cv_var.proofs.declared.Declared.tokens.Goals as goal

pub returns-clause-spelt : goal.returns-clause-spelt
returns-clause-spelt c = subst (All IsSpelt) c.self.view_is c.tokens.ensures.spelt
