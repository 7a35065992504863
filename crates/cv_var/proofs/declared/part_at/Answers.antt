use Rattle.std.proofs.Common.{◌∙◌}
use Rattle.cv_var.proofs.Lending.{lent_part, lent_none}
use Rattle.cv_var.proofs.declared.part_at.Goals as goal

pub returns-in-Some-clause-part : goal.returns-in-Some-clause-part
returns-in-Some-clause-part c = λ pieces spell. c.lent.ensures.flat ∙ lent_part c.args.tokens.now c.args.parts.now pieces c.args.number spell c.in-Some.place.now c.in-Some.ensures

pub returns-in-None-clause-part : goal.returns-in-None-clause-part
returns-in-None-clause-part c = λ pieces spell. lent_none c.args.tokens.now c.args.parts.now pieces c.args.number spell c.in-None.ensures
