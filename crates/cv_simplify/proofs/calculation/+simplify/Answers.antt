use Rattle.std.specs.Prelude.{Some, []}
use Rattle.std.proofs.Common.{◌∙◌, sym, ap}
use Rattle.cv_simplify.specs.declared.factors.Factors.TheVariants.{Plain}
use Rattle.cv_simplify.specs.Checked.{checked, with_simple, with_child}
use Rattle.cv_simplify.proofs.Rows.{ended_without, ended_at}
use Rattle.cv_simplify.proofs.calculation.+simplify.Goals as goal

pub row-returns-in-None : goal.row-returns-in-None
row-returns-in-None t c =
    sym (ended_without (with_simple c.args.how) (checked c.args.x.now) (Some []) c.args.children.now c.loop-child.child-index c.child-item.result c.loop-child.row c.loop-child-test.true
    c.loop-child.invariant (ap (checked c.args.x.now) (sym c.child-item.is) ∙ sym c.in_ok-simple.ensures ∙ c.in-None.is))

pub row-returns-in-None-2 : goal.row-returns-in-None-2
row-returns-in-None-2 t c =
    sym (ended_at (with_simple c.args.how) (checked c.args.x.now) (Some []) c.args.children.now c.loop-child.child-index c.child-item.result c.loop-child.row c.in-Some.simple c.loop-child-test.true
    c.loop-child.invariant (ap (checked c.args.x.now) (sym c.child-item.is) ∙ sym c.in_ok-simple.ensures ∙ c.in-Some.is) (sym c.in_ok-next-in-Some.ensures ∙ c.in-None-2.is))

pub factors_of-returns-in-None : goal.factors_of-returns-in-None
factors_of-returns-in-None t c =
    sym (ended_without with_child (checked c.args.x.now) (Some (Plain [])) c.args.children.now c.loop-child.child-index c.child-item.result c.loop-child.factors c.loop-child-test.true
    c.loop-child.invariant (ap (checked c.args.x.now) (sym c.child-item.is) ∙ sym c.in_ok-simple.ensures ∙ c.in-None.is))

pub factors_of-returns-in-None-2 : goal.factors_of-returns-in-None-2
factors_of-returns-in-None-2 t c =
    sym (ended_at with_child (checked c.args.x.now) (Some (Plain [])) c.args.children.now c.loop-child.child-index c.child-item.result c.loop-child.factors c.in-Some.simple c.loop-child-test.true
    c.loop-child.invariant (ap (checked c.args.x.now) (sym c.child-item.is) ∙ sym c.in_ok-simple.ensures ∙ c.in-Some.is) (sym c.in_ok-next-in-Some.ensures ∙ c.in-None-2.is))
