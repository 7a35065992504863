use Rattle.cv_var.proofs.Lending.{spelt_at}
use Rattle.cv_var.proofs.flat.lent.Goals as goal

pub returns-in-Some-clause-spelt : goal.returns-in-Some-clause-spelt
returns-in-Some-clause-spelt c = spelt_at c.args.tokens.now c.in-Token.token c.in-Some.token.now c.in-Some.ensures
