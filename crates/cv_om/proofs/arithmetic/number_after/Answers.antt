use Rattle.std.proofs.Common.{◌∙◌, sym, ap}
use Rattle.cv_om.specs.Arithmetic.{number_joined}
use Rattle.cv_om.proofs.Joined.{number_refused_at}
use Rattle.cv_om.proofs.arithmetic.number_after.Goals as goal

pub returns-in-Err : goal.returns-in-Err
returns-in-Err c =
    number_refused_at c.args.how c.args.rest.now c.loop-child.child-index c.child-item.result c.loop-child.number c.args.first c.in-Err.error c.loop-child-test.true c.child-item.is
    (ap (number_joined c.args.how c.loop-child.number) (sym c.number_of.ensures) ∙ sym c.number_joined.ensures ∙ c.in-Err.is) c.loop-child.invariant
