use Rattle.std.proofs.Common.{sym, ◌∙◌}
use Rattle.cv_var.proofs.Finding.{StandsAt-function}
use Rattle.cv_var.proofs.reference.reference_at.Goals as goal

pub returns-in-Some-clause-found : goal.returns-in-Some-clause-found
returns-in-Some-clause-found c =
    let stands = rw c.in-Some.is at c.in_ok-reference_in.ensures in
    StandsAt-function c.args.tokens.now c.inner.result.now c.in-Some.found c.behind_function.result (sym c.begins_var.ensures ∙ c.if-begins_var.true) c.inner.ensures stands c.behind_function.ensures.name c.behind_function.ensures.fallback
