use Rattle.cv_var.proofs.Plain.{plain_count}
use Rattle.cv_var.proofs.parts.token_count.Goals as goal

pub returns : goal.returns
returns c = plain_count c.args.tokens.now
