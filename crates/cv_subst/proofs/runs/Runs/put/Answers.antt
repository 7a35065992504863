use Rattle.std.proofs.Common.{◌∙◌, ap}
use Rattle.cv_subst.specs.Values.{value_in}
use Rattle.cv_subst.proofs.Entries.{told_apart}
use Rattle.cv_subst.proofs.runs.Runs.put.Goals as goal

pub returns-clause-others : goal.returns-clause-others
returns-clause-others c = λ other differs.
    let apart = told_apart c.args.name other differs in
    let updated = rw apart at (c.in_ok-insert.ensures.updates.0 other) in
    updated ∙ ap (λ entries. value_in entries other) c.self.view_is
